use Rattle.std.proofs.Common.{◌∙◌}
use Rattle.t3_image_read.specs.ImageText.{head_text}
use Rattle.t3_image_read.proofs.HeadFaults.{head_text-made}
use Rattle.t3_image_read.proofs.header.read_head.Goals as goal

pub returns-clause-text : goal.returns-clause-text
returns-clause-text c =
    let reserved = c.copy_from_slice.ensures.after in
    let stamp = c.copy_from_slice-2.ensures.after in
    (λ i. head_text (record { reserved = reserved i; stamp = stamp i }))
    ∙ (head_text-made c.args.bytes.now c.requires.size c.requires.good).1
