use Rattle.std.proofs.Common.{◌∙◌, sym, subst}
use Rattle.std.specs.Str.{IsUtf8}
use Rattle.t3_lines.proofs.Readable.{readable-utf8, readable-other, plain-utf8}
use Rattle.t3_lines.proofs.line.readable.Goals as goal

pub returns-in_ok-from_slice-in-Ok-clause-copy : goal.returns-in_ok-from_slice-in-Ok-clause-copy
returns-in_ok-from_slice-in-Ok-clause-copy c =
    c.in_ok-from_slice-in-Ok.ensures.items ∙ sym (readable-utf8 c.args.line.now c.in-Ok.ensures.cases.1)

pub returns-in_ok-plain_copy-in-Err-clause-copy : goal.returns-in_ok-plain_copy-in-Err-clause-copy
returns-in_ok-plain_copy-in-Err-clause-copy c =
    c.in_ok-plain_copy-in-Err.ensures ∙ sym (readable-other c.args.line.now c.in-Err.ensures.cases.0)

pub returns-in_ok-plain_copy-in-Err-clause-utf8 : goal.returns-in_ok-plain_copy-in-Err-clause-utf8
returns-in_ok-plain_copy-in-Err-clause-utf8 c = subst IsUtf8 (sym c.in_ok-plain_copy-in-Err.ensures) (plain-utf8 c.args.line.now)
