use Rattle.std.proofs.Common.{◌≡◌, ◌++◌, length, take, drop, ap, ◌∙◌, arith}
use Rattle.t3_image_read.specs.ImageText.{head_text}
use Rattle.t3_image_write.proofs.Parts.{all_over}
use Rattle.t3_image_write.proofs.Rewriting.{long_head, rewritten_is}
use Rattle.t3_image_write.proofs.rewriter.rewritten_text.Goals as goal

pub set_first-requires : goal.set_first-requires
set_first-requires g c =
    let are = c.requires in
    let out = c.into_out-out.result in
    let head = c.in_ok-append_head.ensures ∙ ap (λ h. h ++ head_text c.args.parts.head) c.in_ok-head.ensures.items in
    let long = long_head g.M.Masking.mask are.0 c.args.parts c.append_head.new.out.items out.items are.1 head in
    omega (arith, long, ap length c.deref.ensures.value, ap length c.deref_mut.ensures.value, c.into_out-out.ensures.room)

pub returns : goal.returns
returns g c image are =
    let out = c.into_out-out.result in
    let set = c.set_first.new.out in
    let head = c.in_ok-append_head.ensures ∙ ap (λ h. h ++ head_text c.args.parts.head) c.in_ok-head.ensures.items in
    let long : length set ≡ out.len = omega (arith, c.set_first.auto.out, c.deref_mut.ensures.len, out.ok.0) in
    let filled = all_over set out.items out.len long ∙ c.set_first.ensures
    ∙ (λ i. c.deref.ensures.value i ++ drop (length (c.deref.ensures.value i)) (c.deref_mut.ensures.value i)) in
    rewritten_is g.M.Masking.mask image c.args.parts c.append_head.new.out.items out.items are head
    (take out.len (set ++ drop (length set) out.items)) c.append_end.new.out.items c.into_out-out.ensures.written filled
    c.in_ok-append_end.ensures
