use Rattle.t3_blocks.proofs.Giving.{gives_each}
use Rattle.t3_blocks.proofs.parse.spelled_block.Goals as goal

pub returns-clause-gives_each : goal.returns-clause-gives_each
returns-clause-gives_each c = gives_each c.args.name c.args.payload.now c.payload_block.result c.payload_block.ensures
