use Rattle.std.proofs.Common.{◌∙◌, ap, sym}
use Rattle.std.specs.FinMap.{put}
use Rattle.t3_undo.specs.Content.{shown}
use Rattle.t3_tables.specs.Table.{place_cmp}
use Rattle.t3_tables.specs.Inner.Slots.{with_entry}
use Rattle.t3_tables.proofs.OrderedEntries.{inserted}
use Rattle.t3_tables.proofs.ordered.add_entry.Goals as goal

pub returns-in_ok-insert : goal.returns-in_ok-insert
returns-in_ok-insert c =
    inserted c.args.by_tick.now.entries c.insert.new.self.entries (c.in-Slot.tick, c.in_ok-copy.field-0) c.in-Slot.value
    c.in_ok-insert.ensures.entries
    ∙ ap (λ key. put place_cmp (c.in-Slot.tick, key) c.in-Slot.value c.args.by_tick.now.entries) c.in_ok-copy.ensures
    ∙ λ i. with_entry (sym c.in-Key.is i) (shown (sym c.in-Slot.is i)) c.args.by_tick.now.entries
