use Rattle.std.proofs.Common.{◌≡◌, ℕ, take, drop, length, subst, List, IsTrue}
use Rattle.std.specs.Prelude.{◌↔◌}
use Rattle.t3_holder.specs.NumberText.{little_endian}
use Rattle.t3_holder.proofs.Numbers.{length-little_endian}
use Rattle.t3_snapshot.proofs.envelope.has_version.Goals as goal

pub returns : goal.returns
returns c =
    let spelled =
    subst (λ (u : List ℕ). IsTrue c.stands_at.result ↔ (take (length u) (drop 8 c.args.bytes.now) ≡ u)) c.u16_bytes.ensures
    c.stands_at.ensures in
    subst (λ k. IsTrue c.stands_at.result ↔ (take k (drop 8 c.args.bytes.now) ≡ little_endian 2 1)) (length-little_endian 2 1) spelled
