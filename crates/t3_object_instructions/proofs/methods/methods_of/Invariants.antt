use Rattle.std.proofs.Common.{◌≡◌, drop}
use Rattle.t3_object_instructions.specs.Search.{methods_of}
use Rattle.t3_object_instructions.proofs.methods.methods_of.Given as goal

-- the first of those that are left is the first of all
abbrev pub invariant-loop-entry : goal.invariant-loop-entry
invariant-loop-entry l = methods_of (drop l.entry-index l.kinds) l.kind ≡ methods_of l.kinds l.kind
