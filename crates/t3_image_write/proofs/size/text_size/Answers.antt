use Rattle.std.proofs.Common.{length, ap, arith}
use Rattle.t3_image_read.specs.ImageText.{ImageValue, text}
use Rattle.t3_image_write.proofs.Parts.{length-text, small_text}
use Rattle.t3_image_write.proofs.size.text_size.Goals as goal

pub blocks_size-requires-clause-few : goal.blocks_size-requires-clause-few
blocks_size-requires-clause-few c = small_text
    (record { head = c.image.inside.head; blocks = c.image.inside.blocks; eof_flags = c.image.inside.eof_flags }) c.image.invariant

pub overflow_add-result : goal.overflow_add-result
overflow_add-result c = omega (
  arith,
  c.blocks_size.ensures,
  small_text
      (record { head = c.image.inside.head; blocks = c.image.inside.blocks; eof_flags = c.image.inside.eof_flags }) c.image.invariant,
)

pub overflow_add-result-2 : goal.overflow_add-result-2
overflow_add-result-2 c = omega (
  arith,
  c.blocks_size.ensures,
  small_text
      (record { head = c.image.inside.head; blocks = c.image.inside.blocks; eof_flags = c.image.inside.eof_flags }) c.image.invariant,
)

pub returns : goal.returns
returns c =
    let image : ImageValue = record { head = c.image.inside.head; blocks = c.image.inside.blocks; eof_flags = c.image.inside.eof_flags } in
    omega (arith, c.blocks_size.ensures, length-text image c.image.invariant, ap (λ (i : ImageValue). length (text i)) c.image.view_is)
