use Rattle.std.proofs.Common.{◌++◌, ap, ◌∙◌}
use Rattle.t3_image_read.specs.ImageText.{ImageValue, head_text, text}
use Rattle.t3_image_write.proofs.Parts.{text_is}
use Rattle.t3_image_write.proofs.write.write_image.Goals as goal

pub returns : goal.returns
returns c =
    let image : ImageValue = record { head = c.image.inside.head; blocks = c.image.inside.blocks; eof_flags = c.image.inside.eof_flags } in
    let first = c.in_ok-append_head.ensures ∙ ap (λ b. b ++ head_text c.image.inside.head) c.in_ok-out.ensures.items in
    text_is image c.append_head.new.out.items c.append_blocks.new.out.items c.append_end.new.out.items first c.in_ok-append_blocks.ensures
    c.in_ok-append_end.ensures ∙ ap text c.image.view_is
