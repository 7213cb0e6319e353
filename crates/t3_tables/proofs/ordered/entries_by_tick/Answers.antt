use Rattle.std.proofs.Common.{◌≡◌, ◌∙◌, ap, sym, Some, length, take, slice_get, arith}
use Rattle.std.proofs.Math.Seq.{take-length}
use Rattle.std.specs.Map.Iter.{deref_pair}
use Rattle.std.specs.Option.{option_map}
use Rattle.std.specs.FinMap.{entries}
use Rattle.t3_undo.specs.Content.{shown}
use Rattle.t3_undo.specs.Slots.{parts_of}
use Rattle.t3_undo.proofs.SlotLists.{parts_of-at, get-at}
use Rattle.t3_tables.specs.Table.{ordered}
use Rattle.t3_tables.specs.Inner.Slots.{with_entry}
use Rattle.t3_tables.proofs.OrderedEntries.{entries-with_entry, no-entries}
use Rattle.t3_tables.proofs.ordered.entries_by_tick.Goals as goal

pub loop-index-init : goal.loop-index-init
loop-index-init c = c.new-by_tick.ensures.empty ∙ sym no-entries

pub loop-index-preserved : goal.loop-index-preserved
loop-index-preserved c =
    let stands : slice_get c.args.slots.now c.loop-index.index
    ≡ Some (c.unwrap.result.0.now, c.unwrap.result.1.now) = sym c.slot.ensures.slot ∙ ap (option_map deref_pair) c.unwrap.ensures in
    c.in_ok-add_entry.ensures
    ∙ (λ i. with_entry c.unwrap.result.0.now (shown c.unwrap.result.1.now.content) (c.loop-index.invariant i))
    ∙ entries-with_entry (parts_of (take c.loop-index.index c.args.slots.now)) c.unwrap.result.0.now (shown c.unwrap.result.1.now.content)
    (get-at c.args.slots.now c.loop-index.index (c.unwrap.result.0.now, c.unwrap.result.1.now) c.places-index-end.ensures.distinct stands)
    ∙ λ i. entries (ordered
    (sym (parts_of-at c.args.slots.now c.loop-index.index (c.unwrap.result.0.now, c.unwrap.result.1.now)
    c.places-index-end.ensures.distinct stands) i))

pub returns : goal.returns
returns c =
    let end : c.loop-index.index ≡ length c.args.slots.now = omega (arith, c.places-index-end.ensures.slots) in
    c.loop-index.invariant ∙ λ i. entries (ordered (parts_of (((λ j. take (end j) c.args.slots.now) ∙ take-length c.args.slots.now) i)))
