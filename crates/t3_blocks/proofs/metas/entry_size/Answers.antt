use Rattle.std.proofs.Common.{arith}
use Rattle.t3_blocks.proofs.Sizes.{length-meta_body}
use Rattle.t3_blocks.proofs.metas.entry_size.Goals as goal

pub overflow_cast-result : goal.overflow_cast-result
overflow_cast-result c =
    let long = length-meta_body
    (record { name = c.args.name.now; property_size = c.args.property_size; props = c.args.props.now; tail = c.args.tail.now }) in
    omega (arith, long, c.requires.0)

pub returns : goal.returns
returns c =
    let long = length-meta_body
    (record { name = c.args.name.now; property_size = c.args.property_size; props = c.args.props.now; tail = c.args.tail.now }) in
    omega (arith, long)
