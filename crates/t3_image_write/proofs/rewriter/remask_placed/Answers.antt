use Rattle.std.proofs.Common.{arith, sym, subst}
use Rattle.t3_blocks.specs.declared.block.Block.{Block}
use Rattle.t3_image_read.specs.Validity.{IsGood}
use Rattle.t3_image_write.proofs.Remasked.{IsGood-remask_of}
use Rattle.t3_image_write.proofs.rewriter.remask_placed.Goals as goal

pub returns-clause-good : goal.returns-clause-good
returns-clause-good c =
    let P : Block → Type 0 = λ block. IsGood (record { flags = c.args.placed.flags; block = block }) in
    subst P (sym c.remask_block.ensures) (IsGood-remask_of c.args.mask c.args.placed (omega arith) c.requires)
