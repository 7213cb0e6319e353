use Rattle.std.proofs.Common.{sym}
use Rattle.std.proofs.lemmas.Str.{is_utf8-from_IsUtf8, IsUtf8-from_is_utf8}
use Rattle.t3_snapshot.proofs.Leaves.{not_true}
use Rattle.t3_snapshot.proofs.fields.is_utf8.Goals as goal

pub returns-in-Ok : goal.returns-in-Ok
returns-in-Ok c = sym (is_utf8-from_IsUtf8 c.args.bytes.now c.in-Ok.ensures.cases.1)

pub returns-in-Err : goal.returns-in-Err
returns-in-Err c = sym (not_true _ (λ e. c.in-Err.ensures.cases.0 (IsUtf8-from_is_utf8 c.args.bytes.now e)))
