use Rattle.std.proofs.Common.{sym, subst}
use Rattle.t3_snapshot.specs.State.{One}
use Rattle.t3_snapshot.specs.Refusal.{Refuses}
use Rattle.t3_snapshot.proofs.Envelopes.{spelled, refused_body}
use Rattle.t3_snapshot.proofs.decoding.decode_by_rules.Goals as goal

pub returns-in-Ok-decode_body : goal.returns-in-Ok-decode_body
returns-in-Ok-decode_body c = spelled One _ _ _ _ _ c.in-Ok.ensures.0 c.in-Ok.ensures.1 c.in-Ok-decode_body.ensures

pub returns-in-Err-decode_body : goal.returns-in-Err-decode_body
returns-in-Err-decode_body c =
    subst (Refuses c.args.fingerprint.now c.args.bytes.now) (sym c.refusal_of_body.ensures)
    (refused_body One _ _ _ _ c.in-Ok.ensures.0 c.in-Ok.ensures.1 c.in-Err-decode_body.ensures)
