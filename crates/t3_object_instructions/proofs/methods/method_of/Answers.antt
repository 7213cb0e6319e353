use Rattle.std.proofs.Common.{◌==◌, sym, ap, ◌∙◌}
use Rattle.std.specs.List.{position_from}
use Rattle.t3_object_instructions.proofs.MethodTables.{method_here}
use Rattle.t3_object_instructions.proofs.methods.method_of.Goals as goal

pub returns-in-Some : goal.returns-in-Some
returns-in-Some c =
    method_here c.args.kinds.now c.args.property c.args.metaclasses.now c.loop-kind.kind-index c.in-Some.index c.loop-kind-test.true
    c.loop-kind.invariant
    (ap (position_from (λ p. p == c.args.property) 0) (sym c.methods_of-properties.ensures) ∙ sym c.index_of.ensures ∙ c.in-Some.is)
