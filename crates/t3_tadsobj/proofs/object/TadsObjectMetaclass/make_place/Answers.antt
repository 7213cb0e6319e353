use Rattle.std.proofs.Common.{◌≡◌, ◌∙◌, sym, ap, None, if◌then◌else◌}
use Rattle.std.specs.FinMap.{insert, len}
use Rattle.t3_undo.specs.Content.{shown, with_place}
use Rattle.t3_undo.specs.Objects.{set_at}
use Rattle.t3_undo.specs.declared.cell.Cell.TheVariants as cells
use Rattle.t3_undo.proofs.SlotLists.{with_place-there}
use Rattle.t3_tadsobj.specs.Inner.Entries.{content_of, parts_in, places_in}
use Rattle.t3_tadsobj.proofs.EntryLists.{contains-Prop, missed, parts-absent, parts-set, places-set}
use Rattle.t3_tadsobj.proofs.object.TadsObjectMetaclass.make_place.Goals as goal

pub returns-then-contains_key-clause-ok : goal.returns-then-contains_key-clause-ok
returns-then-contains_key-clause-ok c =
    let es = c.self.inside.props.entries in
    let there = contains-Prop es c.in-Some.number ∙ sym c.contains_key.ensures ∙ c.if-contains_key.true in
    let places = (λ i. (sym c.self.view_is i).places) ∙ sym (with_place-there (places_in es) (cells.Prop c.in-Some.number) there)
    ∙ λ i. with_place (c.self.view_is i).places (sym c.in-Some.ensures i) in
    λ i. record { parts = c.args.self.now.parts; places = places i; supers = c.args.self.now.supers; class = c.args.self.now.class }

pub invariant_of-self-2 : goal.invariant_of-self-2
invariant_of-self-2 c =
    let old = c.self.inside.props.entries in
    let n = c.in-Some.number in
    let missing = sym c.contains_key.ensures ∙ c.if-contains_key.false in
    let fresh = c.new-place.result in
    let none : set_at (parts_in old) (cells.Prop n) (shown (content_of fresh.value)) ≡ set_at (parts_in old) (cells.Prop n) None =
    λ i. set_at (parts_in old) (cells.Prop n) (shown (content_of (c.new-place.ensures i).value)) in
    let parts = parts-set old c.insert.new.self.entries n fresh c.in_ok-insert.ensures.updates.0 ∙ none ∙ parts-absent old n (missed _ missing) in
    c.self.invariant ∙ ap len (sym parts)

pub returns-clause-ok : goal.returns-clause-ok
returns-clause-ok c =
    let old = c.self.inside.props.entries in
    let new = c.insert.new.self.entries in
    let n = c.in-Some.number in
    let missing = sym c.contains_key.ensures ∙ c.if-contains_key.false in
    let updates = c.in_ok-insert.ensures.updates.0 in
    let fresh = c.new-place.result in
    let none : set_at (parts_in old) (cells.Prop n) (shown (content_of fresh.value)) ≡ set_at (parts_in old) (cells.Prop n) None =
    λ i. set_at (parts_in old) (cells.Prop n) (shown (content_of (c.new-place.ensures i).value)) in
    let parts = parts-set old new n fresh updates ∙ none ∙ parts-absent old n (missed _ missing) ∙ λ i. (c.self.view_is i).parts in
    let no_place = contains-Prop old n ∙ missing in
    let places = places-set old new n fresh updates
    ∙ (λ i. if sym no_place i then places_in old else insert (places_in old) (cells.Prop n) (c.new-place.ensures i).stamp)
    ∙ λ i. with_place (c.self.view_is i).places (sym c.in-Some.ensures i) in
    λ i. record { parts = parts i; places = places i; supers = (c.self.view_is i).supers; class = (c.self.view_is i).class }
