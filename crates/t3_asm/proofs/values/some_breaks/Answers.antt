use Rattle.std.proofs.Common.{◌≤◌, min, length, sym, ◌∙◌, arith}
use Rattle.t3_asm_line.specs.Keywords.{fields_of}
use Rattle.t3_asm.proofs.FieldSteps.{some_breaks-end}
use Rattle.t3_asm.proofs.values.some_breaks.Goals as goal

pub returns : goal.returns
returns c =
    let fields = fields_of c.args.keyword in
    let ended : min (length fields) (length c.args.arguments.now) ≤ c.loop-at.at = omega arith in
    sym (some_breaks-end c.args.rule c.args.labels.now c.args.origin.method c.loop-at.address fields c.args.arguments.now c.loop-at.at ended)
    ∙ c.loop-at.invariant.0
