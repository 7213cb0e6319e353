use Rattle.std.proofs.Common.{arith}
use Rattle.t3_blocks.proofs.Layouts.{spells_pool_def, pool_def_other}
use Rattle.t3_blocks.proofs.heads.pool_def.Goals as goal

pub returns-then-payload-ne-POOL_DEF_SIZE : goal.returns-then-payload-ne-POOL_DEF_SIZE
returns-then-payload-ne-POOL_DEF_SIZE c = pool_def_other c.args.payload.now c.if-payload-ne-POOL_DEF_SIZE.true

pub returns : goal.returns
returns c = spells_pool_def c.args.payload.now c.u16_at.result c.u32_at.result c.u32_at-2.result c.u16_at.type_inv c.u32_at.type_inv
    c.u32_at-2.type_inv (omega arith) c.u16_at.ensures c.u32_at.ensures c.u32_at-2.ensures
