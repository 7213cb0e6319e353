use Rattle.std.proofs.Common.{◌≡◌, ℕ, ◌+◌, ◌-◌, ◌≤◌, length}
use Rattle.t3_load.specs.Inner.Reading.{row_read}
use Rattle.t3_load.proofs.Reading.{behind_items}
use Rattle.t3_load.proofs.rows.take_row.Given as goal

-- the items so far, and those that are read of the rest, are those that are read
abbrev pub invariant-loop-rest : goal.invariant-loop-rest
invariant-loop-rest g l =
    (length l.items.items ≤ l.count) × ((left : ℕ) → length l.items.items + left ≡ l.count
    → behind_items l.items.items (row_read g.I.Item.WIDTH g.I.Item.item left l.rest) ≡ row_read g.I.Item.WIDTH g.I.Item.item l.count l.fn.bytes)

abbrev pub decreases-loop-rest : goal.decreases-loop-rest
decreases-loop-rest g l = l.count - length l.items.items
