use Rattle.t3_object_instructions.proofs.Arguments.{turned-deed}
use Rattle.t3_object_instructions.proofs.listed.call_unturned.Goals as goal

pub returns : goal.returns
returns c =
    turned-deed c.args.pools.now.constants c.args.kind c.args.index c.args.this c.args.count c.args.core.now c.call_turned.new.core
    c.turn_operands.new.self c.call_turned.result c.turn_operands.ensures c.call_turned.ensures
