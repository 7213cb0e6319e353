-- The head of a state and its digest.
use Rattle.std.specs.Prelude.{◌≡◌, ◌≤◌, ℕ, List, length, take, drop}
use Rattle.sha2.specs.Sha256.{sha256}
use Rattle.t3_snapshot.specs.State.{state_limit, signature, Version}
use Rattle.t3_snapshot.specs.Refusal.{digested, digest_in, SaysVersion}
use Rattle.t3_snapshot.specs.declared.envelope.EnvelopeRefusal.{EnvelopeRefusal}
use Rattle.t3_snapshot.specs.declared.envelope.EnvelopeRefusal.TheVariants as envelopes
use Rattle.t3_snapshot.specs.declared.refusal.SnapshotRefusal.{SnapshotRefusal}
use Rattle.t3_snapshot.specs.declared.refusal.SnapshotRefusal.TheVariants as refusals

-- no rule before the last is broken, and the bytes say this version
pub record HasEnvelope (version : Version) (fingerprint bytes : List ℕ) : Type 0 where
  pub size : length bytes ≤ state_limit
  pub signed : take 8 bytes ≡ signature
  pub versioned : SaysVersion version bytes
  pub image : take 32 (drop 10 bytes) ≡ fingerprint
  pub long : 74 ≤ length bytes
  pub digest : digest_in bytes ≡ sha256 (digested bytes)

-- its last 32 bytes are the digest of those before
pub record HasDigest (bytes : List ℕ) : Type 0 where
  pub long : 74 ≤ length bytes
  pub digest : digest_in bytes ≡ sha256 (digested bytes)

-- the refusal for which an envelope is refused
abbrev pub refusal_of_envelope : EnvelopeRefusal → SnapshotRefusal
refusal_of_envelope envelopes.TooLong = refusals.TooLong
refusal_of_envelope envelopes.Signature = refusals.Signature
refusal_of_envelope envelopes.Version = refusals.Version
refusal_of_envelope envelopes.OtherImage = refusals.OtherImage
refusal_of_envelope envelopes.Digest = refusals.Digest
