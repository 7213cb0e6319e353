use Rattle.std.proofs.Common.{◌≡◌, ◌==◌, drop}
use Rattle.std.specs.List.{position_from}
use Rattle.t3_object_instructions.proofs.methods.index_of.Given as goal

-- the first of those that are left is the first of all
abbrev pub invariant-loop-index : goal.invariant-loop-index
invariant-loop-index l =
    position_from (λ p. p == l.property) l.index (drop l.index l.properties) ≡ position_from (λ p. p == l.property) 0 l.properties
