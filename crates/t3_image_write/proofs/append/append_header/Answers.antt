use Rattle.std.proofs.Common.{◌++◌, ap, subst, ◌∙◌}
use Rattle.t3_blocks.specs.Inner.Appending.{Appends}
use Rattle.t3_image_read.specs.declared.header.BlockHeader.{BlockHeader}
use Rattle.t3_image_write.proofs.Parts.{appends_header}
use Rattle.t3_image_write.proofs.append.append_header.Goals as goal

pub returns : goal.returns
returns c =
    let header : BlockHeader = record { name = c.args.name; size = c.args.size; flags = c.args.flags } in
    let sized = c.in_ok-append_bytes-2.ensures ∙ ap (λ b. c.append_bytes.new.out.items ++ b) c.u32_bytes.ensures in
    let flagged = subst (λ b.
    Appends c.append_bytes-2.new.out.items c.append_bytes-3.new.out.items b c.append_bytes-3.result) c.u16_bytes.ensures
    c.append_bytes-3.ensures in
    appends_header c.args.out.now.items c.append_bytes.new.out.items c.append_bytes-2.new.out.items c.append_bytes-3.new.out.items header
    c.append_bytes-3.result c.in_ok-append_bytes.ensures sized flagged
