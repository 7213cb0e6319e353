use Rattle.std.proofs.Common.{◌≡◌, Option, Some, None, refl}
use Rattle.std.specs.Prelude.{IsSome}
use Rattle.t3_ops.specs.declared.builtins.PureBuiltin.{PureBuiltin}
use Rattle.t3_object_instructions.proofs.Arguments.{turned-pure}
use Rattle.t3_object_instructions.proofs.builtin.turn_and_call.Goals as goal

some-builtin : (found : Option PureBuiltin) → IsSome found → (builtin : PureBuiltin) × (found ≡ Some builtin)
some-builtin None is = absurd cc
some-builtin (Some builtin) is = (builtin, refl)

pub returns : goal.returns
returns c =
    let some = some-builtin _ c.requires in
    turned-pure c.args.pools.now.constants some.0 c.args.index c.args.count _ c.args.core.now c.call_pure.new.core c.turn_operands.new.self
    c.call_pure.result some.1 c.turn_operands.ensures c.call_pure.ensures
