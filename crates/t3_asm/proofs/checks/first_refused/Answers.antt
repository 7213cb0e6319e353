use Rattle.std.proofs.Common.{◌+◌, refl, arith}
use Rattle.std.proofs.lemmas.List.{take_rest}
use Rattle.t3_asm.specs.Source.{head_size, refused_from}
use Rattle.t3_asm.proofs.Refusing.{comes_on}
use Rattle.t3_asm.proofs.checks.first_refused.Goals as goal

pub loop-at-init : goal.loop-at-init
loop-at-init c = ((69, refl, refl), omega arith)

pub loop-at-preserved : goal.loop-at-preserved
loop-at-preserved c =
    let labels = c.args.labels.now in
    let items = c.args.items.now in
    let loop = c.loop-at in (
      comes_on labels loop.size loop.headers items loop.at
          (refused_from labels head_size 0 items) c.index-items-at.result _ c.block_size.result
          c.header_count-headers.result c.saturating_add-size.result c.index-items-at.is c.loop-at-test.true (take_rest items (loop.at + 1))
          (c.block_size.ensures labels) c.saturating_add-size.ensures c.header_count-headers.ensures.count
          c.in_default.ensures.why loop.invariant.0,
      omega (arith, c.header_count-headers.ensures.few),
    )
