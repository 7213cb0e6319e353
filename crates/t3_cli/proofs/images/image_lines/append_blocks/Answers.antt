use Rattle.std.proofs.Common.{◌≤◌, ◌+◌, ◌++◌, List, [], length, sym, ap, subst, ◌∙◌, arith}
use Rattle.std.specs.Prelude.{string_bytes}
use Rattle.std.specs.List.{flat_map}
use Rattle.t3_blocks.specs.Spelling.{image_limit}
use Rattle.t3_image_read.specs.declared.image.PlacedBlock.{PlacedBlock}
use Rattle.t3_image_read.specs.ImageText.{block_text}
use Rattle.t3_cli.specs.BlockLines.{block_lines}
use Rattle.t3_cli.proofs.Lining.{lined_more, lined_all, place_within}
use Rattle.t3_cli.proofs.images.image_lines.append_blocks.Goals as goal

pub overflow_add-place : goal.overflow_add-place
overflow_add-place c =
    let loop = c.loop-placed in
    let there = c.deref-placed-items.ensures.value ∙ c.blocks-2.view_is in
    let within = subst (λ (bs : List PlacedBlock). c.args.first + length (flat_map block_text bs) ≤ image_limit) (sym there) c.requires.within in
    omega (arith, place_within c.args.first loop.place loop.placed-index c.size-place.result image_limit c.deref-placed-items.result.now (string_bytes c.args.out.now) (string_bytes loop.out) c.placed-item.result loop.invariant c.loop-placed-test.true c.placed-item.is c.size-place.ensures within)

pub loop-placed-preserved : goal.loop-placed-preserved
loop-placed-preserved c =
    let loop = c.loop-placed in
    lined_more c.args.first loop.place loop.placed-index c.size-place.result c.deref-placed-items.result.now (string_bytes c.args.out.now) (string_bytes loop.out) (string_bytes c.append_line.new.out) c.placed-item.result loop.invariant c.loop-placed-test.true c.placed-item.is c.in_ok-append_line.ensures c.size-place.ensures

pub returns-clause-lines : goal.returns-clause-lines
returns-clause-lines c head starts =
    let loop = c.loop-placed in
    let there = c.deref-placed-items.ensures.value ∙ c.blocks-2.view_is in
    let all = lined_all c.args.first loop.place loop.placed-index c.deref-placed-items.result.now (string_bytes c.args.out.now) (string_bytes loop.out) loop.invariant c.loop-placed-test.false head starts in
    all ∙ ap (λ (bs : List PlacedBlock). string_bytes c.args.out.now ++ block_lines head [] bs) there
