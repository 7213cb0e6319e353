use Rattle.std.proofs.Common.{refl, ap, ◌∙◌, arith}
use Rattle.std.proofs.lemmas.List.{take_rest}
use Rattle.t3_blocks.specs.Spelling.{masked_bytes}
use Rattle.t3_blocks.proofs.Layouts.{spells_page, page_short}
use Rattle.t3_blocks.proofs.heads.page.Goals as goal

pub returns-then-payload-lt-PAGE_HEAD : goal.returns-then-payload-lt-PAGE_HEAD
returns-then-payload-lt-PAGE_HEAD c = page_short c.args.payload.now c.if-payload-lt-PAGE_HEAD.true

pub returns : goal.returns
returns c =
    let payload = c.args.payload.now in
    spells_page payload c.u16_at.result c.u32_at.result _ c.in_ok-new.field-0 c.u16_at.type_inv c.u32_at.type_inv
    (omega (arith, c.type_inv.payload 6)) (omega arith) c.u16_at.ensures c.u32_at.ensures refl
    (c.in_ok-new.ensures ∙ c.in_ok-page.ensures ∙ ap (masked_bytes _) (take_rest payload 7))
