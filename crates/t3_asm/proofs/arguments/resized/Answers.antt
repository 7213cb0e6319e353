use Rattle.std.proofs.Common.{◌++◌, ap, ◌∙◌, drop, replicate}
use Rattle.t3_asm.proofs.EachLine.{resized_is}
use Rattle.t3_asm.proofs.arguments.resized.Goals as goal

pub returns : goal.returns
returns c c' =
    ap (λ l. l ++ drop c'.min-count.result (replicate c.row.N c'.args.fill)) c'.copy_from_slice.ensures.after
    ∙ resized_is c.row.N c'.args.fill c'.args.bytes.now c'.min-count.result c'.min-count.ensures
