use Rattle.std.proofs.Common.{◌≡◌, ◌∙◌, ap, sym, subst, refl, ℕ, Some, filter, inl, inr, is_some, true≢false}
use Rattle.std.proofs.lemmas.Map.Keys.{IsDistinct-from_sorted}
use Rattle.std.specs.Ordering.{nat_cmp}
use Rattle.std.specs.Map.{keys_of}
use Rattle.std.specs.List.{IsDistinct}
use Rattle.std.specs.FinMap.{get, len, contains_key}
use Rattle.t3_undo.specs.Slots.{parts_of, places_of}
use Rattle.t3_undo.specs.Slots as slots
use Rattle.t3_undo.specs.Purging.{IsNeeded, Stays}
use Rattle.t3_undo.specs.declared.cell.Cell.{Cell}
use Rattle.t3_undo.specs.declared.cell.Cell.TheVariants as cells
use Rattle.t3_undo.proofs.SlotLists.{same}
use Rattle.t3_undo.proofs.SlotPurges.{parts-purged, places-fewer, places-kept, places-needed}
use Rattle.t3_tadsobj.specs.Object.{Tads}
use Rattle.t3_tadsobj.specs.Inner.Entries.{slots_of, parts_in, places_in}
use Rattle.t3_tadsobj.proofs.EntryLists.{Entries, contains-other, distinct-slots}
use Rattle.t3_tadsobj.proofs.EntryPurges.{slots-purged}
use Rattle.t3_tadsobj.proofs.object.TadsObjectMetaclass.purge.Goals as goal
use Rattle.t3_tadsobj.proofs.object.TadsObjectMetaclass.purge.Goals.{After-purge}

abbrev before : (c : After-purge) → Entries
before c = c.self.inside.props.entries

apart : (c : After-purge) → IsDistinct same (keys_of (slots_of (before c)))
apart c = distinct-slots (before c) (IsDistinct-from_sorted nat_cmp _ c.purge.ensures.ordered)

-- the slots that are left
left : (c : After-purge) → slots_of c.purge.new.entries.entries ≡ filter (slots.is_needed c.args.oldest) (slots_of (before c))
left c = ap slots_of c.purge.ensures.entries ∙ slots-purged c.args.oldest (before c)

parts : (c : After-purge) → parts_in c.purge.new.entries.entries ≡ parts_in (before c)
parts c = ap parts_of (left c) ∙ parts-purged c.args.oldest (slots_of (before c)) (apart c)

pub invariant_of-self : goal.invariant_of-self
invariant_of-self c = c.self.invariant ∙ ap len (sym (parts c))

pub returns-clause-parts : goal.returns-clause-parts
returns-clause-parts c = parts c ∙ λ i. (c.self.view_is i).parts

pub returns-clause-fewer : goal.returns-clause-fewer
returns-clause-fewer c q t e =
    (λ i. get (sym c.self.view_is i).places q)
    ∙ places-fewer c.args.oldest (slots_of (before c)) (apart c) q t ((λ i. get (places_of (sym (left c) i)) q) ∙ e)

-- of no element
no_element : (c : After-purge) (q : Cell) (t number : ℕ) → get (places_in (before c)) q ≡ Some t → q ≡ cells.Elem number → ⊥
no_element c q t number e is =
    true≢false (sym (ap is_some e) ∙ ap (contains_key (places_in (before c))) is ∙ contains-other (before c) (cells.Elem number) refl)

pub returns-clause-kept : goal.returns-clause-kept
returns-clause-kept c q t e stays =
    let placed = (λ i. get (c.self.view_is i).places q) ∙ e in
    (λ i. get (places_of (left c i)) q) ∙ places-kept c.args.oldest (slots_of (before c)) (apart c) q t placed
    (by placed (subst (λ (o : Tads). Stays o.parts o.places c.args.oldest q) (sym c.self.view_is) stays))
  where
    by : get (places_in (before c)) q ≡ Some t → Stays (parts_in (before c)) (places_in (before c)) c.args.oldest q
        → IsNeeded (parts_in (before c)) (places_in (before c)) c.args.oldest q
    by placed (inl needed) = needed
    by placed (inr below) = absurd (no_element c q t below.0 placed below.2)

pub returns-clause-gone : goal.returns-clause-gone
returns-clause-gone c q t e =
    subst (λ (o : Tads). Stays o.parts o.places c.args.oldest q) c.self.view_is
    (inl (places-needed c.args.oldest (slots_of (before c)) (apart c) q t ((λ i. get (places_of (sym (left c) i)) q) ∙ e)))

pub returns-clause-object : goal.returns-clause-object
returns-clause-object c =
    let same_parts = parts c ∙ λ i. (c.self.view_is i).parts in
    let places = places_in c.purge.new.entries.entries in
    λ i. record { parts = same_parts i; places = places; supers = (c.self.view_is i).supers; class = (c.self.view_is i).class }
