use Rattle.std.proofs.Common.{◌≡◌, ◌+◌, ◌-◌, [], ◌∷◌, ◌++◌, map, refl, ap, ◌∙◌, arith, rules}
use Rattle.std.specs.List.{range_with_len}
use Rattle.t3_drill.specs.Drill.{page, pages}
use Rattle.t3_drill.proofs.Numbers.{row_step, row_done}
use Rattle.t3_drill.proofs.pages.append_pages.Goals as goal

pub loop-index-init : goal.loop-index-init
unfolding pages
loop-index-init c =
    let all : c.page_count-index-end.result - 0 ≡ c.page_count-index-end.result = omega arith in
    ap (λ n. c.args.blocks.now.items ++ map (page c.args.code.now) (range_with_len 0 n)) (all ∙ c.page_count-index-end.ensures)

pub loop-index-preserved : goal.loop-index-preserved
loop-index-preserved c =
    let index = c.loop-index.index in
    let end = c.page_count-index-end.result in
    let this = page c.args.code.now index in
    let there : c.push.new.self.items ≡ c.loop-index.blocks.items ++ this ∷ [] = search rules in
    row_step (map (page c.args.code.now)) (this ∷ []) c.loop-index.blocks.items c.push.new.self.items _ index
    (end - index) (end - (index + 1)) (λ rest. refl) (omega arith) there c.loop-index.invariant

pub returns : goal.returns
returns c =
    let index = c.loop-index.index in
    let end = c.page_count-index-end.result in
    row_done (map (page c.args.code.now)) c.loop-index.blocks.items _ index (end - index) refl (omega arith) c.loop-index.invariant
