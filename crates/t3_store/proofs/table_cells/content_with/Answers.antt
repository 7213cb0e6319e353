use Rattle.std.proofs.Common.{◌∙◌, ◌≤◌, ℕ, ap, sym, subst, arith}
use Rattle.std.specs.FinMap.{get}
use Rattle.t3_undo.specs.Content.{shown}
use Rattle.t3_undo.specs.declared.content.Content.TheVariants.{Held, Slot}
use Rattle.t3_tables.specs.Table.{parts_of}
use Rattle.t3_store.specs.Inner.Shapes.{tick_behind}
use Rattle.t3_tables.specs.Entries.{risen}
use Rattle.t3_store.proofs.Ticks.{least}
use Rattle.t3_tables.proofs.EntryValues.{IsTableSet, set-new, set-kept, set-default}
use Rattle.t3_store.proofs.KindValues.{table-set}
use Rattle.t3_store.proofs.table_cells.content_with.Goals as goal

new : (c : goal.In-Absent) → IsTableSet (parts_of c.args.table.now) c.args.cell.now c.args.value c.next_tick-next.result
    (Slot c.next_tick-next.result c.args.value)
new c =
    set-new (parts_of c.args.table.now) c.args.cell.now c.args.value c.next_tick-next.result c.requires.valid c.next_tick-next.ensures.above
    (omega (arith, c.next_tick-next.ensures.next, c.requires.room)) c.requires.can (sym c.get.ensures.content ∙ ap shown c.in-Absent.is)

pub returns-in-Absent-clause-set : goal.returns-in-Absent-clause-set
returns-in-Absent-clause-set c = table-set _ _ _ _ _ (new c)

pub returns-in-Absent-clause-valid : goal.returns-in-Absent-clause-valid
returns-in-Absent-clause-valid c = (new c).whole

default : (c : goal.In-Held) → IsTableSet (parts_of c.args.table.now) c.args.cell.now c.args.value c.next_tick-next.result (Held c.args.value)
default c =
    set-default (parts_of c.args.table.now) c.args.cell.now c.args.value c.in-Held.field-0 c.next_tick-next.result c.requires.valid
    c.requires.can (sym c.get.ensures.content ∙ ap shown c.in-Held.is)

pub returns-in-Held-clause-set : goal.returns-in-Held-clause-set
returns-in-Held-clause-set c = table-set _ _ _ _ _ (default c)

pub returns-in-Held-clause-valid : goal.returns-in-Held-clause-valid
returns-in-Held-clause-valid c = (default c).whole

kept : (c : goal.In-Slot) → IsTableSet (parts_of c.args.table.now) c.args.cell.now c.args.value c.next_tick-next.result
    (Slot c.in-Slot.tick c.args.value)
kept c =
    set-kept (parts_of c.args.table.now) c.args.cell.now c.args.value c.in-Slot.field-1 c.in-Slot.tick c.next_tick-next.result
    c.requires.valid c.next_tick-next.ensures.above c.requires.can (sym c.get.ensures.content ∙ ap shown c.in-Slot.is)

pub returns-in-Slot-clause-set : goal.returns-in-Slot-clause-set
returns-in-Slot-clause-set c = table-set _ _ _ _ _ (kept c)

pub returns-in-Slot-clause-valid : goal.returns-in-Slot-clause-valid
returns-in-Slot-clause-valid c = (kept c).whole

pub returns-in-Absent-clause-tick : goal.returns-in-Absent-clause-tick
returns-in-Absent-clause-tick c =
    subst (λ (n : ℕ). tick_behind (shown (Slot c.next_tick-next.result c.args.value)) ≤ risen n (get (parts_of c.args.table.now) c.args.cell.now))
    c.next_tick-next.ensures.next (new c).tick

pub returns-in-Held-clause-tick : goal.returns-in-Held-clause-tick
returns-in-Held-clause-tick c = least c.args.table.now.next_tick (get (parts_of c.args.table.now) c.args.cell.now)

pub returns-in-Slot-clause-tick : goal.returns-in-Slot-clause-tick
returns-in-Slot-clause-tick c =
    subst (λ (n : ℕ). tick_behind (shown (Slot c.in-Slot.tick c.args.value)) ≤ risen n (get (parts_of c.args.table.now) c.args.cell.now))
    c.next_tick-next.ensures.next (kept c).tick
