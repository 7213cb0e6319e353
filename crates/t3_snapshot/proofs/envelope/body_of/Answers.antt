use Rattle.std.proofs.Common.{arith, ap, ◌∙◌, drop}
use Rattle.t3_snapshot.specs.declared.refusal.SnapshotRefusal.TheVariants as refusals
use Rattle.t3_snapshot.specs.State.{One}
use Rattle.t3_snapshot.proofs.Envelopes.{refused_by, good_size, good_signature, good_version, other_version, good_image, digest_broken, not_from}
use Rattle.t3_snapshot.proofs.envelope.body_of.Goals as goal

pub returns-then-not-has_signature : goal.returns-then-not-has_signature
returns-then-not-has_signature c =
    refused_by c.args.fingerprint.now c.args.bytes.now refusals.Signature (good_size _ _ (omega arith))
    (not_from _ _ c.has_signature.ensures c.if-not-has_signature.true)

pub returns-then-not-has_version : goal.returns-then-not-has_version
returns-then-not-has_version c =
    let signed =
    good_signature c.args.fingerprint.now c.args.bytes.now (good_size _ _ (omega arith))
    (c.has_signature.ensures.0 c.if-not-has_signature.false) in
    refused_by _ _ refusals.Version signed (other_version c.args.bytes.now (not_from _ _ c.has_version.ensures c.if-not-has_version.true))

pub returns-then-not-has_fingerprint : goal.returns-then-not-has_fingerprint
returns-then-not-has_fingerprint c =
    let signed =
    good_signature c.args.fingerprint.now c.args.bytes.now (good_size _ _ (omega arith))
    (c.has_signature.ensures.0 c.if-not-has_signature.false) in
    let versioned = good_version One _ _ signed (c.has_version.ensures.0 c.if-not-has_version.false) in
    refused_by _ _ refusals.OtherImage versioned (not_from _ _ c.has_fingerprint.ensures c.if-not-has_fingerprint.true)

pub returns-then-not-has_digest : goal.returns-then-not-has_digest
returns-then-not-has_digest c =
    let signed =
    good_signature c.args.fingerprint.now c.args.bytes.now (good_size _ _ (omega arith))
    (c.has_signature.ensures.0 c.if-not-has_signature.false) in
    let versioned = good_version One _ _ signed (c.has_version.ensures.0 c.if-not-has_version.false) in
    let image = good_image _ _ versioned (c.has_fingerprint.ensures.0 c.if-not-has_fingerprint.false) in
    refused_by c.args.fingerprint.now c.args.bytes.now refusals.Digest image
    (digest_broken c.args.fingerprint.now c.args.bytes.now (not_from _ _ c.has_digest.ensures c.if-not-has_digest.true))

pub returns : goal.returns
returns c =
    let digest = c.has_digest.ensures.0 c.if-not-has_digest.false in (
      record {
        size = omega arith;
        signed = c.has_signature.ensures.0 c.if-not-has_signature.false;
        versioned = c.has_version.ensures.0 c.if-not-has_version.false;
        image = c.has_fingerprint.ensures.0 c.if-not-has_fingerprint.false;
        long = digest.long;
        digest = digest.digest;
      },
      c.split_at-2.ensures.back ∙ ap (drop 42) c.split_at.ensures.front,
    )
