use Rattle.std.proofs.Common.{◌≡◌, drop}
use Rattle.t3_object_instructions.specs.Search.{method_of}
use Rattle.t3_object_instructions.proofs.methods.method_of.Given as goal

-- the first of those that are left is the first of all
abbrev pub invariant-loop-kind : goal.invariant-loop-kind
invariant-loop-kind l = method_of l.kinds l.property (drop l.kind-index l.metaclasses) ≡ method_of l.kinds l.property l.metaclasses
