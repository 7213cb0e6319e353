use Rattle.std.proofs.Common.{ℕ, ◌-◌, ◌≤◌, ◌^◌}
use Rattle.t3_store.specs.Whole.{supers_in}
use Rattle.t3_store.specs.Broken.{LacksSuper}
use Rattle.t3_store.proofs.persistent.Persistent.first_lacking.Given as goal

abbrev pub invariant-loop-next : goal.invariant-loop-next
invariant-loop-next l = (smaller : ℕ) → smaller ≤ l.number → LacksSuper (supers_in l.self) smaller → ⊥

abbrev pub decreases-loop-next : goal.decreases-loop-next
decreases-loop-next l = 2 ^ 32 - l.number
