use Rattle.std.proofs.Common.{◌≡◌, ℕ, ◌^◌, ◌<◌, ◌≤◌, List, length, sym, ap, subst, ◌∙◌, arith}
use Rattle.t3_image_read.specs.Validity.{IsValid}
use Rattle.t3_drill.specs.Drill.{code}
use Rattle.t3_drill.proofs.Lengths.{code_short}
use Rattle.t3_drill.proofs.Valid.{drill_parts, valid_drill}
use Rattle.t3_drill.proofs.image.drill_image.Goals as goal

-- the code of a drill can be counted
few : (number : ℕ) (there bytes : List ℕ) → number ≤ 200 → there ≡ bytes → bytes ≡ code number → length there < 2 ^ 32
few number there bytes within same is = omega (arith, ap length same, ap length is, code_short number within)

pub page_count-requires : goal.page_count-requires
page_count-requires c =
    few c.args.number c.deref.result.now c.in_ok-code.code.items c.requires c.deref.ensures.value c.in_ok-code.ensures

pub append_pages-requires : goal.append_pages-requires
append_pages-requires c =
    few c.args.number c.deref-2.result.now c.in_ok-code.code.items c.requires c.deref-2.ensures.value c.in_ok-code.ensures

pub invariant_of-result : goal.invariant_of-result
invariant_of-result c =
    subst IsValid
    (sym (drill_parts c.args.number c.deref.result.now c.deref-2.result.now c.page_count.result c.in_ok-blocks.blocks.items
    c.append_pages.new.blocks.items (c.deref.ensures.value ∙ c.in_ok-code.ensures) (c.deref-2.ensures.value ∙ c.in_ok-code.ensures)
    c.page_count.ensures c.in_ok-blocks.ensures c.in_ok-append_pages.ensures))
    (valid_drill c.args.number c.requires)

pub returns : goal.returns
returns c =
    drill_parts c.args.number c.deref.result.now c.deref-2.result.now c.page_count.result c.in_ok-blocks.blocks.items
    c.append_pages.new.blocks.items (c.deref.ensures.value ∙ c.in_ok-code.ensures) (c.deref-2.ensures.value ∙ c.in_ok-code.ensures)
    c.page_count.ensures c.in_ok-blocks.ensures c.in_ok-append_pages.ensures
