use Rattle.std.proofs.Common.{◌≡◌, ◌*◌, ◌-◌, take, drop, ap, ◌∙◌}
use Rattle.t3_blocks.specs.declared.block.Block.TheVariants as blocks
use Rattle.t3_drill.specs.Drill.{mandatory}
use Rattle.t3_drill.proofs.Numbers.{cut}
use Rattle.t3_drill.proofs.pages.page.Goals as goal

pub returns : goal.returns
returns c =
    let code = c.args.code.now in
    let start = c.args.index * 4096 in
    let bytes : c.in_ok-new.field-0 ≡ take 4096 (drop start code) =
    c.in_ok-new.ensures ∙ c.in_ok-from_slice.ensures.items ∙ ap (λ end. take (end - start) (drop start code)) c.min-end.ensures
    ∙ cut start 4096 code in
    c.mandatory.ensures ∙ ap (λ b. mandatory (blocks.Page 1 c.args.index 0 b)) bytes
