use Rattle.t3_blocks.specs.Spelling.{payload_of}
use Rattle.t3_image_write.proofs.Parts.{appends_placed, appends_or_leaves}
use Rattle.t3_image_write.proofs.append.append_placed.Goals as goal

pub returns : goal.returns
returns c =
    let mid = c.append_header.new.out.items in
    let new = c.append_block.new.out.items in
    let answer = c.append_block.result in
    let payload =
    appends_or_leaves mid new (payload_of c.args.placed.now.block) answer c.append_block.ensures.appended c.append_block.ensures.kept in
    appends_placed c.args.out.now.items mid new c.name.result c.payload_size-size.result c.args.placed.now answer c.name.ensures
    c.payload_size-size.ensures c.in_ok-append_header.ensures payload
