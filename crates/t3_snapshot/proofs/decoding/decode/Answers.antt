use Rattle.t3_snapshot.proofs.OneState.{only_so}
use Rattle.t3_snapshot.proofs.OneRefusal.{refuses_so}
use Rattle.t3_snapshot.proofs.decoding.decode.Goals as goal

pub returns-clause-only : goal.returns-clause-only
returns-clause-only c =
    λ state next spells. only_so state next c.args.fingerprint.now c.args.bytes.now c.decode_by_rules.result c.told-fingerprint
    c.decode_by_rules.ensures spells

pub returns-clause-refuses : goal.returns-clause-refuses
returns-clause-refuses c =
    λ why refused. refuses_so why c.args.fingerprint.now c.args.bytes.now c.decode_by_rules.result c.told-fingerprint
    c.decode_by_rules.ensures refused
