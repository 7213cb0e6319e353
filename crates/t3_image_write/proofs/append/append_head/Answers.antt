use Rattle.std.proofs.Common.{◌++◌, ap, ◌∙◌}
use Rattle.t3_image_read.specs.ImageText.{signature}
use Rattle.t3_image_write.proofs.Parts.{appends_head}
use Rattle.t3_image_write.proofs.append.append_head.Goals as goal

pub returns : goal.returns
unfolding signature
returns c =
    let versioned = c.in_ok-append_bytes-2.ensures ∙ ap (λ b. c.append_bytes.new.out.items ++ b) c.u16_bytes.ensures in
    appends_head c.args.out.now.items c.append_bytes.new.out.items c.append_bytes-2.new.out.items c.append_bytes-3.new.out.items
    c.append_bytes-4.new.out.items c.args.head c.append_bytes-4.result c.in_ok-append_bytes.ensures versioned
    c.in_ok-append_bytes-3.ensures c.append_bytes-4.ensures
