-- The rules of a state's head and digest, in their order.
use Rattle.std.proofs.Common.{◌≡◌, ℕ, zero, suc, ◌+◌, ◌-◌, ◌<◌, ◌≤◌, Bool, true, false, List, [], ◌∷◌, ◌++◌, length, take, drop, IsTrue, refl, sym, ap, subst, ◌∙◌, inl, inr, append_assoc, arith}
use Rattle.std.specs.Prelude.{◌⊎◌, ◌↔◌}
use Rattle.std.specs.FinMap.{entries}
use Rattle.std.proofs.lemmas.List.{take-append-drop, length-drop, drop-drop, length-append, drop_at}
use Rattle.std.proofs.lemmas.Bool.{cases_lt}
use Rattle.sha2.specs.Sha256.{sha256}
use Rattle.t3_holder.specs.NumberText.{little_endian}
use Rattle.t3_store.specs.Value.{Objects}
use Rattle.t3_snapshot.specs.State.{state_limit, signature, Version, One, number_of, head_text, body_text, with_digest, saved, Spells, IsComplete}
use Rattle.t3_snapshot.specs.Layout.{AreInTurn}
use Rattle.t3_snapshot.specs.Refusal.{digested, digest_in, body_in, SaysVersion, rank_of, Breaks, IsRefused, Refuses, IsMalformed}
use Rattle.t3_snapshot.specs.Inner.Envelope.{HasEnvelope, HasDigest}
use Rattle.t3_snapshot.specs.Inner.Body.{IsBody, FailsAt, refusal_of_body}
use Rattle.t3_snapshot.specs.declared.body.BodyRefusal.{BodyRefusal}
use Rattle.t3_snapshot.specs.declared.body.BodyRefusal.TheVariants as bodies
use Rattle.t3_snapshot.specs.declared.refusal.SnapshotRefusal.{SnapshotRefusal}
use Rattle.t3_snapshot.specs.declared.refusal.SnapshotRefusal.TheVariants as refusals
use Rattle.t3_snapshot.proofs.Turn.{entries_are}

-- no rule up to the one of this rank is broken
pub record IsGoodTo (fingerprint bytes : List ℕ) (rank : ℕ) : Type 0 where
  pub none : (earlier : SnapshotRefusal) → rank_of earlier < rank → ¬ Breaks fingerprint bytes earlier

pub good_start : (fingerprint bytes : List ℕ) → IsGoodTo fingerprint bytes 1
good_start fingerprint bytes = record { none = none }
  where
    none : (earlier : SnapshotRefusal) → rank_of earlier < 1 → ¬ Breaks fingerprint bytes earlier
    none refusals.TooLong lt broken = absurd (omega arith)
    none refusals.Signature lt broken = absurd (omega arith)
    none refusals.Version lt broken = absurd (omega arith)
    none refusals.OtherImage lt broken = absurd (omega arith)
    none refusals.Digest lt broken = absurd (omega arith)
    none (refusals.Malformed items) lt broken = absurd (omega arith)
    none refusals.NoMemory lt broken = broken

below_or : (a n : ℕ) → a < n + 1 → (a < n) ⊎ (a ≡ n)
below_or a n lt = or_equal (cases_lt a n)
  where
    or_equal : (a < n) ⊎ (n ≤ a) → (a < n) ⊎ (a ≡ n)
    or_equal (inl less) = inl less
    or_equal (inr le) = inr (omega arith)

-- rules but the last have different ranks
why_of : ℕ → SnapshotRefusal
why_of zero = refusals.NoMemory
why_of (suc zero) = refusals.TooLong
why_of (suc (suc zero)) = refusals.Signature
why_of (suc (suc (suc zero))) = refusals.Version
why_of (suc (suc (suc (suc zero)))) = refusals.OtherImage
why_of (suc (suc (suc (suc (suc n))))) = refusals.Digest

back : (why : SnapshotRefusal) → rank_of why < 6 → why_of (rank_of why) ≡ why
unfolding why_of
back refusals.TooLong lt = refl
back refusals.Signature lt = refl
back refusals.Version lt = refl
back refusals.OtherImage lt = refl
back refusals.Digest lt = refl
back (refusals.Malformed items) lt = absurd (omega arith)
back refusals.NoMemory lt = refl

pub same_rank : (why earlier : SnapshotRefusal) (n : ℕ) → rank_of why ≡ n → n < 6 → rank_of earlier ≡ n → earlier ≡ why
same_rank why earlier n a high b = sym (back earlier (omega arith)) ∙ ap why_of (b ∙ sym a) ∙ back why (omega arith)

-- the next rule isn't broken either
pub good_more : (fingerprint bytes : List ℕ) (why : SnapshotRefusal) (rank : ℕ) → rank_of why ≡ rank → rank < 6
    → IsGoodTo fingerprint bytes rank → ¬ Breaks fingerprint bytes why
    → IsGoodTo fingerprint bytes (rank + 1)
good_more fingerprint bytes why rank is high good none = record {
  none = λ earlier lt broken. by earlier lt broken (lt_or earlier lt);
}
  where
    lt_or : (earlier : SnapshotRefusal) → rank_of earlier < rank + 1 → (rank_of earlier < rank) ⊎ (rank_of earlier ≡ rank)
    lt_or earlier lt = below_or (rank_of earlier) rank lt

    by : (earlier : SnapshotRefusal) → rank_of earlier < rank + 1 → Breaks fingerprint bytes earlier
        → (rank_of earlier < rank) ⊎ (rank_of earlier ≡ rank) → ⊥
    by earlier lt broken (inl less) = good.none earlier less broken
    by earlier lt broken (inr same) = none (subst (Breaks fingerprint bytes) (same_rank why earlier rank is high same) broken)

pub refused_by : (fingerprint bytes : List ℕ) (why : SnapshotRefusal) → IsGoodTo fingerprint bytes (rank_of why)
    → Breaks fingerprint bytes why → IsRefused fingerprint bytes why
refused_by fingerprint bytes why good broken = record { broken = broken; first = good.none }

pub good_size : (fingerprint bytes : List ℕ) → length bytes ≤ state_limit → IsGoodTo fingerprint bytes 2
good_size fingerprint bytes le =
    good_more fingerprint bytes refusals.TooLong 1 refl (omega arith) (good_start fingerprint bytes) (λ broken. omega (arith, le))

pub good_signature : (fingerprint bytes : List ℕ) → IsGoodTo fingerprint bytes 2 → take 8 bytes ≡ signature → IsGoodTo fingerprint bytes 3
good_signature fingerprint bytes good is = good_more fingerprint bytes refusals.Signature 2 refl (omega arith) good (λ broken. broken is)

pub good_version : (version : Version) (fingerprint bytes : List ℕ) → IsGoodTo fingerprint bytes 3 → SaysVersion version bytes
    → IsGoodTo fingerprint bytes 4
good_version version fingerprint bytes good is =
    good_more fingerprint bytes refusals.Version 3 refl (omega arith) good (λ broken. broken version is)

-- bytes that don't say the one version say none
pub other_version : (bytes : List ℕ) → ¬ SaysVersion One bytes → (version : Version) → ¬ SaysVersion version bytes
other_version bytes none One is = none is

pub good_image : (fingerprint bytes : List ℕ) → IsGoodTo fingerprint bytes 4 → take 32 (drop 10 bytes) ≡ fingerprint
    → IsGoodTo fingerprint bytes 5
good_image fingerprint bytes good is = good_more fingerprint bytes refusals.OtherImage 4 refl (omega arith) good (λ broken. broken is)

digest_good : (fingerprint bytes : List ℕ) → HasDigest bytes → ¬ Breaks fingerprint bytes refusals.Digest
digest_good fingerprint bytes has (inl short) = absurd (omega (arith, has.long))
digest_good fingerprint bytes has (inr other) = other has.digest

-- what isn't the digest
pub digest_broken : (fingerprint bytes : List ℕ) → ¬ HasDigest bytes → Breaks fingerprint bytes refusals.Digest
digest_broken fingerprint bytes none = by (cases_lt (length bytes) 74)
  where
    by : (length bytes < 74) ⊎ (74 ≤ length bytes) → Breaks fingerprint bytes refusals.Digest
    by (inl short) = inl short
    by (inr long) = inr (λ is. none (record { long = long; digest = is }))

-- the whole envelope
pub good_envelope : (version : Version) (fingerprint bytes : List ℕ) → HasEnvelope version fingerprint bytes → IsGoodTo fingerprint bytes 6
good_envelope version fingerprint bytes envelope =
    good_more fingerprint bytes refusals.Digest 5 refl (omega arith)
    (good_image fingerprint bytes (good_version version fingerprint bytes
    (good_signature fingerprint bytes (good_size fingerprint bytes envelope.size) envelope.signed) envelope.versioned) envelope.image)
    (digest_good fingerprint bytes (record { long = envelope.long; digest = envelope.digest }))

pub malformed : (version : Version) (fingerprint bytes : List ℕ) (items : ℕ) → HasEnvelope version fingerprint bytes
    → IsMalformed version (body_in bytes) items → IsRefused fingerprint bytes (refusals.Malformed items)
malformed version fingerprint bytes items envelope is =
    refused_by fingerprint bytes (refusals.Malformed items) (good_envelope version fingerprint bytes envelope)
    (version, envelope.versioned, is)

-- what a body's refusal says of the bytes
pub refused_body : (version : Version) (fingerprint bytes body : List ℕ) (why : BodyRefusal) → HasEnvelope version fingerprint bytes
    → body ≡ body_in bytes
    → FailsAt (IsMalformed version body) why → Refuses fingerprint bytes (refusal_of_body why)
refused_body version fingerprint bytes body (bodies.Malformed items) envelope body_is fails =
    malformed version fingerprint bytes items envelope (subst (λ b. IsMalformed version b items) body_is fails)
refused_body version fingerprint bytes body bodies.NoMemory envelope body_is fails = tt

-- ---- the envelope is that of a text

cut : (n : ℕ) (xs part : List ℕ) → take n xs ≡ part → xs ≡ part ++ drop n xs
cut n xs part e = sym (take-append-drop n xs) ∙ ap (λ x. x ++ drop n xs) e

head_is : (version : Version) (fingerprint bytes : List ℕ) → HasEnvelope version fingerprint bytes
    → bytes ≡ head_text version fingerprint ++ drop 42 bytes
unfolding head_text
head_is version fingerprint bytes envelope =
    cut 8 bytes signature envelope.signed
    ∙ ap (λ x. signature ++ x) (cut 2 (drop 8 bytes) (little_endian 2 (number_of version)) envelope.versioned
    ∙ ap (λ x. little_endian 2 (number_of version) ++ x)
    (drop-drop 2 8 bytes ∙ cut 32 (drop 10 bytes) fingerprint envelope.image ∙ ap (λ x. fingerprint ++ x) (drop-drop 32 10 bytes)))
    ∙ sym (append_assoc signature (little_endian 2 (number_of version) ++ fingerprint) (drop 42 bytes)
    ∙ ap (λ x. signature ++ x) (append_assoc (little_endian 2 (number_of version)) fingerprint (drop 42 bytes)))

head_long : (version : Version) (fingerprint bytes : List ℕ) → HasEnvelope version fingerprint bytes
    → length (head_text version fingerprint) ≡ 42
head_long version fingerprint bytes envelope =
    omega (
      arith,
      ap length (head_is version fingerprint bytes envelope),
      length-append (head_text version fingerprint) (drop 42 bytes),
      length-drop 42 bytes,
      envelope.long,
    )

front_of : (head rest : List ℕ) (n : ℕ) → length head ≤ n → take n (head ++ rest) ≡ head ++ take (n - length head) rest
front_of [] rest n le = ap (λ k. take k rest) (omega arith)
front_of (x ∷ head) rest zero le = absurd (omega arith)
front_of (x ∷ head) rest (suc n) le = ap (λ t. x ∷ t) (front_of head rest n (omega arith) ∙ ap (λ k. head ++ take k rest) (omega arith))

pub is_text : (version : Version) (fingerprint bytes : List ℕ) → HasEnvelope version fingerprint bytes
    → bytes ≡ with_digest (head_text version fingerprint ++ body_in bytes)
unfolding with_digest
is_text version fingerprint bytes envelope =
    let whole : bytes ≡ digested bytes ++ digest_in bytes = sym (take-append-drop (length bytes - 32) bytes) in
    let long = head_long version fingerprint bytes envelope in
    let front : digested bytes ≡ head_text version fingerprint
    ++ take (length bytes - 32 - length (head_text version fingerprint)) (drop 42 bytes) =
    ap (take (length bytes - 32)) (head_is version fingerprint bytes envelope)
    ∙ front_of (head_text version fingerprint) (drop 42 bytes) (length bytes - 32) (omega (arith, envelope.long)) in
    let behind : body_in bytes ≡ take (length bytes - 32 - length (head_text version fingerprint)) (drop 42 bytes) =
    ap (drop 42) front ∙ drop_at (head_text version fingerprint)
    (take (length bytes - 32 - length (head_text version fingerprint)) (drop 42 bytes)) 42 long in
    let same : digested bytes ≡ head_text version fingerprint ++ body_in bytes =
    front ∙ ap (λ x. head_text version fingerprint ++ x) (sym behind) in
    whole ∙ ap (λ x. digested bytes ++ x) envelope.digest ∙ ap (λ x. x ++ sha256 x) same

pub spelled : (version : Version) (fingerprint bytes body : List ℕ) (state : Objects) (next : ℕ) → HasEnvelope version fingerprint bytes
    → body ≡ body_in bytes → IsBody version body state next → Spells state next fingerprint bytes
unfolding saved
spelled version fingerprint bytes body state next envelope body_is is =
    let same : entries state ≡ is.objects = ap entries is.state_is ∙ entries_are 0 next is.objects is.turn in
    record {
      version = version;
      sound = record {
        turn = subst (AreInTurn 0 next) (sym same) is.turn;
        complete = subst (λ m. IsComplete m next) (sym is.state_is) is.complete;
      };
      size = envelope.size;
      is = is_text version fingerprint bytes envelope
          ∙ ap (λ x. with_digest (head_text version fingerprint ++ x)) (sym body_is ∙ is.is ∙ ap (body_text version next) (sym same));
    }

pub not_from : (b : Bool) (P : Type 0) → IsTrue b ↔ P → b ≡ false → ¬ P
not_from true P iff so p = absurd cc
not_from false P iff so p = let t = iff.1 p in absurd cc
