use Rattle.std.proofs.Common.{◌≡◌, ◌∙◌, ap, sym, refl, ℕ, Some, None, IsSome, is_some, Option, true≢false, arith, BTreeMap}
use Rattle.std.specs.Option.{option_map, option_and_then}
use Rattle.std.specs.FinMap.{get, insert, len}
use Rattle.t3_undo.proofs.Maps.{one_if}
use Rattle.t3_holder.specs.declared.holder.Holder.{Holder}
use Rattle.t3_undo.specs.Content.{Parts, Places, shown}
use Rattle.t3_undo.specs.Present.{value_in}
use Rattle.t3_undo.specs.Objects.{set_at}
use Rattle.t3_undo.specs.declared.cell.Cell.TheVariants as cells
use Rattle.t3_undo.specs.declared.content.Content.TheVariants as contents
use Rattle.t3_tadsobj.specs.Object.{Tads, props_of}
use Rattle.t3_undo.specs.StampedValue.{ValuePlace}
use Rattle.t3_tadsobj.specs.Inner.Entries.{content_of, value_at, stamp_or, new_stamp, replaced_by, replaced, parts_in, places_in, AreCounted}
use Rattle.t3_tadsobj.proofs.PropRows.{get-prop}
use Rattle.t3_tadsobj.proofs.EntryLists.{Entries, at, len-set, get-Prop, stamp-Prop, content-value_at, shown-value, some-value, none-value, parts-replaced, places-replaced, parts-left, places-left}
use Rattle.t3_tadsobj.proofs.object.TadsObject.replace.Goals as goal
use Rattle.t3_tadsobj.proofs.object.TadsObject.replace.Goals.{After-place_of}

-- the entries at first, and the value that stood there
abbrev before : (c : After-place_of) → Entries
before c = c.self.inside.props.entries

stood : (c : After-place_of) → shown c.place_of.result.content ≡ shown (content_of (value_at (at c.args.number (before c))))
stood c = (λ i. shown (c.place_of.ensures i).content) ∙ ap (λ v. shown (content_of v)) c.replace_value.ensures.value

-- as many are present as before
one_if-replaced : (value : Holder) (stamp : Option ℕ) (old : ℕ) (o : Option Holder)
    → one_if (replaced_by value stamp old o).value ≡ one_if o
one_if-replaced value stamp old None = refl
one_if-replaced value stamp old (Some was) = refl

pub invariant_of-self : goal.invariant_of-self
invariant_of-self c = by (at c.args.number (before c)) refl
  where
    by : (o : Option ValuePlace) → at c.args.number (before c) ≡ o → AreCounted c.replace_value.new.entries.entries c.self.inside.present
    by None e = c.self.invariant ∙ ap (λ (m : BTreeMap ℕ ValuePlace). len (parts_in m.entries)) (sym (c.replace_value.ensures.kept e))
    by (Some p) e =
        let moved = len-set (before c) c.replace_value.new.entries.entries c.args.number (replaced c.args.value c.args.stamp p)
        (c.replace_value.ensures.updates p e).0 in
        let was = ap (λ o. one_if (value_at o)) e in
        let is = one_if-replaced c.args.value c.args.stamp p.stamp p.value in
        omega (arith, moved, was, is, c.self.invariant)

pub returns-clause-old : goal.returns-clause-old
returns-clause-old c =
    stood c ∙ ap shown (content-value_at (at c.args.number (before c))) ∙ sym (get-Prop (before c) c.args.number)
    ∙ λ i. get (c.self.view_is i).parts (cells.Prop c.args.number)

-- an entry with a value
there : (o : Option ValuePlace) → IsSome (value_at o) → (p : ValuePlace) × (o ≡ Some p)
there None some = absurd (true≢false (sym some))
there (Some p) some = (p, refl)

pub returns-clause-placed : goal.returns-clause-placed
returns-clause-placed c some =
    let p = there (at c.args.number (before c)) (some-value _ (sym (ap is_some (stood c)) ∙ some)) in
    let stamp = (λ i. (c.place_of.ensures i).stamp) ∙ c.replace_value.ensures.stamp ∙ ap stamp_or p.1 in
    (λ i. get (sym c.self.view_is i).places (cells.Prop c.args.number))
    ∙ stamp-Prop (before c) c.args.number ∙ ap (option_map (λ p. p.stamp)) p.1 ∙ λ i. Some (sym stamp i)

pub returns-clause-value : goal.returns-clause-value
returns-clause-value c =
    ap (option_and_then value_in) (stood c) ∙ shown-value (value_at (at c.args.number (before c)))
    ∙ sym (get-prop (before c) c.args.number) ∙ λ i. get (props_of (c.self.view_is i).parts) c.args.number

-- the value that stood there
was : (o : Option Holder) → IsSome o → (h : Holder) × (o ≡ Some h)
was None some = absurd (true≢false (sym some))
was (Some h) some = (h, refl)

-- the object with other entries
abbrev tads : (c : After-place_of) → Parts → Places → Tads
tads c parts places = record { parts = parts; places = places; supers = c.self.inside.supers; class = c.self.inside.class }

pub returns-clause-set : goal.returns-clause-set
returns-clause-set c some =
    let old = before c in
    let new = c.replace_value.new.entries.entries in
    let n = c.args.number in
    let has = some-value _ (sym (ap is_some (stood c)) ∙ some) in
    let p = there (at n old) has in
    let h = was p.0.value (sym (ap (λ o. is_some (value_at o)) p.1) ∙ has) in
    let updated = (c.replace_value.ensures.updates p.0 p.1).0 in
    let stamp = (λ i. (c.place_of.ensures i).stamp) ∙ c.replace_value.ensures.stamp ∙ ap stamp_or p.1 in
    let parts = parts-replaced old new n p.0 p.1 c.args.value c.args.stamp updated h.0 h.1
    ∙ λ i. set_at (c.self.view_is i).parts (cells.Prop n) (shown (contents.Held c.args.value)) in
    let places = places-replaced old new n p.0 p.1 c.args.value c.args.stamp updated h.0 h.1
    ∙ λ i. insert (c.self.view_is i).places (cells.Prop n) (new_stamp c.args.stamp (sym stamp i)) in
    λ i. record { parts = parts i; places = places i; supers = (c.self.view_is i).supers; class = (c.self.view_is i).class }

pub returns-clause-kept : goal.returns-clause-kept
returns-clause-kept c none = by (at c.args.number (before c)) refl
  where
    left : value_at (at c.args.number (before c)) ≡ None
    left = none-value (value_at (at c.args.number (before c))) (sym (stood c) ∙ none)

    by : (o : Option ValuePlace) → at c.args.number (before c) ≡ o
        → tads c (parts_in c.replace_value.new.entries.entries) (places_in c.replace_value.new.entries.entries) ≡ c.args.self.now
    by None e = let same = c.replace_value.ensures.kept e in (λ i. tads c (parts_in (same i).entries) (places_in (same i).entries)) ∙ c.self.view_is
    by (Some p) e =
        let old = before c in
        let new = c.replace_value.new.entries.entries in
        let updated = (c.replace_value.ensures.updates p e).0 in
        let empty = sym (ap value_at e) ∙ left in
        let parts = parts-left old new c.args.number p e c.args.value c.args.stamp updated empty in
        let places = places-left old new c.args.number p e c.args.value c.args.stamp updated empty in
        (λ i. tads c (parts i) (places i)) ∙ c.self.view_is
