use Rattle.std.proofs.Common.{◌∙◌}
use Rattle.t3_load.proofs.ReadObjects.{utf8_told}
use Rattle.t3_load.proofs.statics.is_utf8.Goals as goal

pub returns : goal.returns
returns c =
    c.is_ok.ensures.value
    ∙ utf8_told c.from_utf8.result c.args.bytes.now c.from_utf8.ensures.cases (λ text is. is.1) (λ error none. none.0)
