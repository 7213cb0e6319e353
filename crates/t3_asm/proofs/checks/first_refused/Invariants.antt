use Rattle.std.proofs.Common.{◌≡◌, ℕ, ◌≤◌, drop}
use Rattle.t3_asm.specs.Inner.Measures.{near}
use Rattle.t3_asm.specs.Source.{head_size, refused_from}
use Rattle.t3_asm.proofs.checks.first_refused.Given as goal

abbrev pub invariant-loop-at : goal.invariant-loop-at
invariant-loop-at l =
    ((whole : ℕ) × (l.size ≡ near whole) ×
    (refused_from l.labels whole l.headers (drop l.at l.items) ≡ refused_from l.labels head_size 0 l.items))
    × (l.headers ≤ l.at)
