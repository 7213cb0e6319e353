use Rattle.std.proofs.Common.{◌≡◌, ◌∙◌, ap, sym, ◌++◌, [], ◌∷◌, Some, length, take, filter, slice_get, arith}
use Rattle.std.proofs.Math.Seq.{take-length}
use Rattle.std.specs.Map.Iter.{deref_pair}
use Rattle.std.specs.Map.{keys_of}
use Rattle.std.specs.List.{list_any}
use Rattle.std.specs.Option.{option_map}
use Rattle.t3_undo.specs.Content.{places_for}
use Rattle.t3_undo.specs.Slots.{parts_of, places_of, unstamped, is_present}
use Rattle.t3_undo.proofs.SlotLists.{same}
use Rattle.t3_undo.proofs.SlotCopies.{afresh, formed-at, new-at, afresh-at, keys_of-afresh, parts_of-afresh, parts_of-filter, places_of-filter}
use Rattle.t3_undo.proofs.slots.Slots.copy.Goals as goal
use Rattle.t3_undo.proofs.slots.Slots.copy.Goals.{After-copy-in-loop-index-1, After-loop-index}

stands : (c : After-copy-in-loop-index-1) → slice_get c.self.inside.cells.entries c.loop-index.index
    ≡ Some (c.unwrap.result.0.now, c.unwrap.result.1.now)
stands c = sym c.get_index.ensures.entry ∙ ap (option_map deref_pair) c.unwrap.ensures

pub add_present-requires-clause-new : goal.add_present-requires-clause-new
add_present-requires-clause-new c =
    (λ i. list_any (same c.unwrap.result.0.now) (keys_of (c.loop-index.invariant i)))
    ∙ ap (list_any (same c.unwrap.result.0.now)) (keys_of-afresh (filter is_present (take c.loop-index.index c.self.inside.cells.entries)))
    ∙ new-at c.self.inside.cells.entries c.loop-index.index _ c.len-index-end.ensures.unique (stands c)

pub add_present-requires-clause-form : goal.add_present-requires-clause-form
add_present-requires-clause-form c = formed-at c.self.inside.cells.entries c.loop-index.index _ c.self.invariant.formed (stands c)

pub loop-index-preserved : goal.loop-index-preserved
loop-index-preserved c =
    c.in_ok-add_present.ensures
    ∙ (λ i. c.loop-index.invariant i
    ++ filter is_present ((c.unwrap.result.0.now, unstamped c.unwrap.result.1.now.content) ∷ []))
    ∙ sym (afresh-at c.self.inside.cells.entries c.loop-index.index _ (sym c.get_index.ensures.entry
    ∙ ap (option_map deref_pair) c.unwrap.ensures))

whole : (c : After-loop-index) → c.loop-index.copy ≡ afresh (filter is_present c.self.inside.cells.entries)
whole c =
    let end : c.loop-index.index ≡ length c.self.inside.cells.entries = omega (arith, c.len-index-end.ensures.len) in
    c.loop-index.invariant
    ∙ ap (λ es. afresh (filter is_present es)) ((λ i. take (end i) c.self.inside.cells.entries) ∙ take-length c.self.inside.cells.entries)

pub returns-clause-parts : goal.returns-clause-parts
returns-clause-parts c =
    ap parts_of (whole c) ∙ parts_of-afresh (filter is_present c.self.inside.cells.entries)
    ∙ parts_of-filter c.self.inside.cells.entries c.len-index-end.ensures.unique ∙ λ i. parts_of (c.self.view_is i)

pub returns-clause-places : goal.returns-clause-places
returns-clause-places c =
    ap places_of (whole c) ∙ places_of-filter c.self.inside.cells.entries c.len-index-end.ensures.unique
    ∙ λ i. places_for (parts_of (c.self.view_is i))
