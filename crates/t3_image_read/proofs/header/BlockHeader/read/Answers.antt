use Rattle.t3_image_read.proofs.Headers.{header_text-read}
use Rattle.t3_image_read.proofs.header.BlockHeader.read.Goals as goal

pub returns-clause-text : goal.returns-clause-text
returns-clause-text c = header_text-read c.args.bytes.now c.u32_at.result c.u16_at.result c.requires c.u32_at.ensures c.u16_at.ensures
