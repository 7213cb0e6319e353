-- What holds of each savepoint does so of those that a store keeps.
use Rattle.std.proofs.Common.{ℕ, ◌-◌, Bool, true, false, nat_lt, if◌then◌else◌, List, [], ◌∷◌, length, drop}
use Rattle.std.specs.List.{AllByRecursion}
use Rattle.t3_undo.specs.declared.cell.Cell.{Cell}
use Rattle.t3_store.specs.Store.{Mark, room_for, add_change, is_change_due, changed_in}

module _ (P : Mark → Type 0) where
  pub marks-left : (marks : List Mark) → AllByRecursion P marks → AllByRecursion P (drop 1 marks)
  marks-left [] all = tt
  marks-left (mark ∷ marks) all = all.1

  marks-room : (limit : ℕ) (marks : List Mark) → AllByRecursion P marks → AllByRecursion P (room_for limit marks)
  marks-room limit [] all = tt
  marks-room limit (mark ∷ marks) all =
      by (nat_lt (length mark.changed) limit) (marks-room (limit - length mark.changed) marks all.1)
    where
      by : (b : Bool) → AllByRecursion P (room_for (limit - length mark.changed) marks)
          → AllByRecursion P (if b then mark ∷ room_for (limit - length mark.changed) marks else [])
      by true rest = (all.0, rest)
      by false rest = tt

  -- where it doesn't ask which cells were changed
  pub marks-changed : ((mark : Mark) (changed : List (ℕ × Cell)) → P mark → P (record mark { changed = changed }))
      → (limit number : ℕ) (cell : Cell) (marks : List Mark) → AllByRecursion P marks
      → AllByRecursion P (changed_in limit number cell marks)
  marks-changed same limit number cell marks all = by (is_change_due number cell marks)
    where
      added : (ms : List Mark) → AllByRecursion P ms → AllByRecursion P (add_change number cell ms)
      added [] own = tt
      added (mark ∷ ms) own = (same mark ((number, cell) ∷ mark.changed) own.0, own.1)

      by : (b : Bool) → AllByRecursion P (if b then add_change number cell (room_for limit marks) else marks)
      by true = added (room_for limit marks) (marks-room limit marks all)
      by false = all
