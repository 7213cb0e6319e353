use Rattle.std.proofs.Common.{sym, subst, rules}
use Rattle.t3_blocks.specs.declared.block.Block.TheVariants.{Opaque}
use Rattle.t3_blocks.specs.Spelling.{Spells}
use Rattle.t3_blocks.proofs.BlockNames.{plain_name}
use Rattle.t3_blocks.proofs.Giving.{spells_opaque}
use Rattle.t3_blocks.proofs.parse.payload_block.Goals as goal

pub returns-in_ok-from_slice-in-Kept : goal.returns-in_ok-from_slice-in-Kept
returns-in_ok-from_slice-in-Kept c =
    let plain = plain_name c.args.name c.args.kind c.requires.kind c.requires.name c.in-Kept.is in
    subst (λ bytes. Spells (Opaque c.args.name bytes) c.args.name c.args.payload.now) (sym c.in_ok-from_slice-in-Kept.ensures.items)
    (spells_opaque c.args.name c.args.payload.now (search rules) plain)
