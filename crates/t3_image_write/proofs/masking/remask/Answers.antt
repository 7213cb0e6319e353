use Rattle.std.proofs.Common.{subst, sym, arith}
use Rattle.t3_image_read.specs.Validity.{IsValid}
use Rattle.t3_image_read.specs.ImageText.{ImageValue}
use Rattle.t3_image_write.proofs.Remasked.{IsValid-remask_of}
use Rattle.t3_image_write.proofs.masking.remask.Goals as goal

pub invariant_of-image : goal.invariant_of-image
invariant_of-image c =
    let image : ImageValue = record { head = c.image.inside.head; blocks = c.image.inside.blocks; eof_flags = c.image.inside.eof_flags } in
    let fits = c.ranges.mask in
    subst (λ blocks. IsValid (record { head = c.image.inside.head; blocks = blocks; eof_flags = c.image.inside.eof_flags }))
    (sym c.remask_blocks.ensures) (IsValid-remask_of c.args.mask image (omega (arith, fits)) c.image.invariant)
