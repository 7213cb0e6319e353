-- What bytes spell, or that they spell nothing. Other crates may use these.
use Rattle.std.proofs.Common.{◌≡◌, ℕ, List, length, Option, Some, None, refl, ⊎_elim}
use Rattle.t3_holder.specs.NumberText.{AreBytes}
use Rattle.t3_store.specs.Value.{Objects}
use Rattle.t3_snapshot.specs.State.{Spells}
use Rattle.t3_snapshot.specs.Read.{IsRead}
use Rattle.t3_snapshot.proofs.OneState.{one_state, not_refused}
use Rattle.t3_snapshot.proofs.SomeAnswer.{some_answer}

-- bytes spell a state, or none
pub read_or_not : (fingerprint bytes : List ℕ) → length fingerprint ≡ 32 → AreBytes bytes
    → (found : Option (Objects × ℕ)) × IsRead fingerprint bytes found
read_or_not fingerprint bytes long are =
    ⊎_elim
    (λ (found : (state : Objects) × (next : ℕ) × Spells state next fingerprint bytes). (Some (found.0, found.1), found.2))
    (λ refused. (None, λ state next spells. not_refused state next fingerprint bytes refused.0 long spells refused.1))
    (some_answer fingerprint bytes are)

-- and only one
pub one_read : (fingerprint bytes : List ℕ) (a b : Option (Objects × ℕ)) → IsRead fingerprint bytes a → IsRead fingerprint bytes b → a ≡ b
one_read fingerprint bytes None None first second = refl
one_read fingerprint bytes None (Some (state, next)) first second = absurd (first state next second)
one_read fingerprint bytes (Some (state, next)) None first second = absurd (second state next first)
one_read fingerprint bytes (Some (s, n)) (Some (t, m)) first second =
    let same = one_state s t n m fingerprint bytes first second in cc (same.0, same.1)
