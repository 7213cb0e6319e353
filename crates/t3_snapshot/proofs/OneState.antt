-- Bytes spell at most one state, and what spells a state is refused by no rule.
use Rattle.std.proofs.Common.{◌≡◌, ℕ, ◌+◌, ◌-◌, ◌<◌, ◌^◌, List, [], ◌∷◌, ◌++◌, length, take, drop, refl, sym, ap, subst, ◌∙◌, append_assoc, arith, inl, inr}
use Rattle.std.specs.FinMap.{entries, from_entries, same_entries_map, len-entries}
use Rattle.std.specs.List.{flat_map}
use Rattle.std.proofs.lemmas.List.{length-append, take_at, drop_at, append-nil, drop-drop}
use Rattle.std.proofs.lemmas.List.Concat.{flat_map-cons}
use Rattle.sha2.specs.Sha256.{sha256}
use Rattle.sha2.proofs.Facts256.{length-sha256}
use Rattle.t3_holder.specs.NumberText.{little_endian}
use Rattle.t3_holder.proofs.Numbers.{length-little_endian}
use Rattle.t3_store.specs.Value.{Value, Objects}
use Rattle.t3_snapshot.specs.Layout.{object_text, AreInTurn}
use Rattle.std.specs.Prelude.{◌≢◌, ◌⊎◌, Result, Ok, Err}
use Rattle.t3_snapshot.specs.State.{Version, One, number_of, with_digest, head_text, body_text, saved, signature, IsSoundState, IsComplete, Spells}
use Rattle.t3_snapshot.specs.Refusal.{SaysVersion, HasObjectInTurn, last_number, IsMalformed, digested, digest_in, body_in, Breaks, IsRefused, Decodes, GivesOnly}
use Rattle.t3_snapshot.specs.Inner.Envelope.{HasEnvelope}
use Rattle.t3_snapshot.specs.declared.refusal.SnapshotRefusal.{SnapshotRefusal}
use Rattle.t3_snapshot.specs.declared.refusal.SnapshotRefusal.TheVariants as refusals
use Rattle.t3_snapshot.proofs.Envelopes.{IsGoodTo, good_envelope}
use Rattle.t3_snapshot.specs.Inner.Reading.{object_at, number_at}
use Rattle.t3_snapshot.proofs.Leaves.{number_again, some_is}
use Rattle.t3_snapshot.proofs.Turn.{object_again, IsNext, entries_are}

next_of : (last next : ℕ) (o : ℕ × Value) (os : List (ℕ × Value)) → AreInTurn last next (o ∷ os) → IsNext last next o
next_of last next o os turn = record { above = turn.0; below = turn.1; spellable = turn.2 }

-- as many objects in turn that begin the same bytes are the same
pub same_objects : (last next : ℕ) (xs ys : List (ℕ × Value)) (r s : List ℕ) → next < 2 ^ 32 → AreInTurn last next xs
    → AreInTurn last next ys → length xs ≡ length ys
    → flat_map object_text xs ++ r ≡ flat_map object_text ys ++ s → (xs ≡ ys) × (r ≡ s)
same_objects last next [] [] r s fits turn_x turn_y long e = (refl, e)
same_objects last next [] (y ∷ ys) r s fits turn_x turn_y long e = absurd (omega arith)
same_objects last next (x ∷ xs) [] r s fits turn_x turn_y long e = absurd (omega arith)
same_objects last next (x ∷ xs) (y ∷ ys) r s fits turn_x turn_y long e =
    let rest_long : length xs ≡ length ys = omega (arith, long) in
    let split_x : flat_map object_text (x ∷ xs) ++ r
    ≡ object_text x ++ (flat_map object_text xs ++ r) =
    ap (λ t. t ++ r) (flat_map-cons object_text x xs) ∙ append_assoc (object_text x) (flat_map object_text xs) r in
    let split_y : flat_map object_text (y ∷ ys) ++ s
    ≡ object_text y ++ (flat_map object_text ys ++ s) =
    ap (λ t. t ++ s) (flat_map-cons object_text y ys) ∙ append_assoc (object_text y) (flat_map object_text ys) s in
    let read_x = object_again last next x (flat_map object_text xs ++ r) fits (next_of last next x xs turn_x) in
    let read_y = object_again last next y (flat_map object_text ys ++ s) fits (next_of last next y ys turn_y) in
    let both : (x, flat_map object_text xs ++ r) ≡ (y, flat_map object_text ys ++ s) =
    some_is _ _ (sym read_x ∙ ap (object_at last next) (sym split_x ∙ e ∙ split_y) ∙ read_y) in
    let first : x ≡ y = ap (λ (p : (ℕ × Value) × List ℕ). p.0) both in
    let others =
    same_objects x.0 next xs ys r s fits turn_x.3 (subst (λ (o : ℕ × Value). AreInTurn o.0 next ys) (sym first) turn_y.3)
    rest_long (ap (λ (p : (ℕ × Value) × List ℕ). p.1) both) in
    (ap (λ o. o ∷ xs) first ∙ ap (λ os. y ∷ os) others.0, others.1)

pub same_number : (n m : ℕ) (a b : List ℕ) → n < 2 ^ 32 → m < 2 ^ 32 → little_endian 4 n ++ a ≡ little_endian 4 m ++ b → (n ≡ m) × (a ≡ b)
same_number n m a b fits fits_m e =
    let both : (n, a) ≡ (m, b) = some_is _ _ (sym (number_again 4 n a fits) ∙ ap (number_at 4) e ∙ number_again 4 m b fits_m) in
    (ap (λ (p : ℕ × List ℕ). p.0) both, ap (λ (p : ℕ × List ℕ). p.1) both)

same_front : (a b x y : List ℕ) → length a ≡ length b → a ++ x ≡ b ++ y → (a ≡ b) × (x ≡ y)
same_front a b x y long e = (
  sym (take_at a x (length a) refl) ∙ ap (take (length a)) e ∙ ap (λ k. take k (b ++ y)) long ∙ take_at b y (length b) refl,
  sym (drop_at a x (length a) refl) ∙ ap (drop (length a)) e ∙ ap (λ k. drop k (b ++ y)) long ∙ drop_at b y (length b) refl,
)

same_digested : (x y : List ℕ) → with_digest x ≡ with_digest y → x ≡ y
unfolding with_digest
same_digested x y e =
    let long : length x ≡ length y =
    omega (arith, ap length e, length-append x (sha256 x), length-append y (sha256 y), length-sha256 x, length-sha256 y) in
    (same_front x y (sha256 x) (sha256 y) long e).0

few : (state : Objects) (next : ℕ) → IsSoundState state next → length (entries state) < 2 ^ 32
few state next sound = omega (arith, len-entries state, sound.complete.objects)

small : (state : Objects) (next : ℕ) → IsSoundState state next → next < 2 ^ 32
small state next sound = omega (arith, sound.complete.next)

same_saved : (s t : Objects) (n m : ℕ) (version other : Version) (fingerprint : List ℕ) → IsSoundState s n → IsSoundState t m
    → saved version s fingerprint n ≡ saved other t fingerprint m → (s ≡ t) × (n ≡ m)
unfolding saved body_text
same_saved s t n m One One fingerprint a b e =
    let texts = same_digested _ _ e in
    let bodies = (same_front (head_text One fingerprint) (head_text One fingerprint) _ _ refl texts).1 in
    let nexts = same_number n m _ _ (small s n a) (small t m b) bodies in
    let counts = same_number (length (entries s)) (length (entries t)) _ _ (few s n a) (few t m b) nexts.1 in
    let turn : AreInTurn 0 n (entries t) = subst (λ k. AreInTurn 0 k (entries t)) (sym nexts.0) b.turn in
    let objects =
    same_objects 0 n (entries s) (entries t) [] [] (small s n a) a.turn turn counts.0 (append-nil _ ∙ counts.1 ∙ sym (append-nil _)) in
    (same_entries_map s t objects.0, nexts.0)

-- bytes spell at most one state with one next number
pub one_state : (s t : Objects) (n m : ℕ) (fingerprint bytes : List ℕ) → Spells s n fingerprint bytes → Spells t m fingerprint bytes
    → (s ≡ t) × (n ≡ m)
one_state s t n m fingerprint bytes a b = same_saved s t n m a.version b.version fingerprint a.sound b.sound (sym a.is ∙ b.is)

-- a state with its next number is spelled in one way in each version
pub one_spelling : (state : Objects) (next : ℕ) (fingerprint bytes other : List ℕ) (a : Spells state next fingerprint bytes)
    (b : Spells state next fingerprint other)
    → a.version ≡ b.version → bytes ≡ other
one_spelling state next fingerprint bytes other a b same = a.is ∙ ap (λ version. saved version state fingerprint next) same ∙ sym b.is

-- ---- what spells a state isn't refused

-- fewer objects in turn that begin the same bytes go on
pub goes_on : (last next : ℕ) (ws os : List (ℕ × Value)) (trailing rest : List ℕ) → next < 2 ^ 32 → AreInTurn last next ws
    → AreInTurn last next os → length os < length ws
    → flat_map object_text ws ++ trailing ≡ flat_map object_text os ++ rest → HasObjectInTurn (last_number last os) next rest
goes_on last next [] os trailing rest fits turn_w turn_o less e = absurd (omega arith)
goes_on last next (w ∷ ws) [] trailing rest fits turn_w turn_o less e = record {
  number = w.0;
  value = w.1;
  trailing = flat_map object_text ws ++ trailing;
  above = turn_w.0;
  below = turn_w.1;
  spellable = turn_w.2;
  is = sym e ∙ ap (λ t. t ++ trailing) (flat_map-cons object_text w ws) ∙ append_assoc (object_text w) (flat_map object_text ws) trailing;
}
goes_on last next (w ∷ ws) (o ∷ os) trailing rest fits turn_w turn_o less e =
    let rest_less : length os < length ws = omega (arith, less) in
    let split_w : flat_map object_text (w ∷ ws) ++ trailing
    ≡ object_text w ++ (flat_map object_text ws ++ trailing) =
    ap (λ t. t ++ trailing) (flat_map-cons object_text w ws) ∙ append_assoc (object_text w) (flat_map object_text ws) trailing in
    let split_o : flat_map object_text (o ∷ os) ++ rest
    ≡ object_text o ++ (flat_map object_text os ++ rest) =
    ap (λ t. t ++ rest) (flat_map-cons object_text o os) ∙ append_assoc (object_text o) (flat_map object_text os) rest in
    let read_w = object_again last next w (flat_map object_text ws ++ trailing) fits (next_of last next w ws turn_w) in
    let read_o = object_again last next o (flat_map object_text os ++ rest) fits (next_of last next o os turn_o) in
    let both : (w, flat_map object_text ws ++ trailing) ≡ (o, flat_map object_text os ++ rest) =
    some_is _ _ (sym read_w ∙ ap (object_at last next) (sym split_w ∙ e ∙ split_o) ∙ read_o) in
    let first : w ≡ o = ap (λ (p : (ℕ × Value) × List ℕ). p.0) both in
    goes_on o.0 next ws os trailing rest fits (subst (λ (p : ℕ × Value). AreInTurn p.0 next ws) first turn_w.3) turn_o.3
    rest_less (ap (λ (p : (ℕ × Value) × List ℕ). p.1) both)

whole_again : (state : Objects) (next : ℕ) (os : List (ℕ × Value)) → AreInTurn 0 next os → entries state ≡ os → from_entries os ≡ state
whole_again state next os turn same = same_entries_map (from_entries os) state (entries_are 0 next os turn ∙ sym same)

body_whole : (version : Version) (state : Objects) (next items : ℕ) → IsSoundState state next
    → ¬ IsMalformed version (body_text version next (entries state)) items
unfolding body_text
body_whole One state next items sound (inl short) =
    absurd (omega (
      arith,
      short.0,
      length-append (little_endian 4 next) (little_endian 4 (length (entries state)) ++ flat_map object_text (entries state)),
      length-append (little_endian 4 (length (entries state))) (flat_map object_text (entries state)),
      length-little_endian 4 next,
      length-little_endian 4 (length (entries state)),
    ))
body_whole One state next items sound (inr breaks) =
    let nexts = same_number next breaks.next _ _ (small state next sound) breaks.next_fits breaks.is in
    let counts = same_number (length (entries state)) breaks.due _ _ (few state next sound) breaks.due_fits nexts.1 in
    let turn : AreInTurn 0 next breaks.objects = subst (λ k. AreInTurn 0 k breaks.objects) (sym nexts.0) breaks.turn in
    by nexts.0 counts.0 counts.1 turn breaks.breaks
  where
    by : next ≡ breaks.next → length (entries state) ≡ breaks.due
        → flat_map object_text (entries state) ≡ flat_map object_text breaks.objects ++ breaks.rest
        → AreInTurn 0 next breaks.objects
        → ((items < breaks.due) × ¬ HasObjectInTurn (last_number 0 breaks.objects) breaks.next breaks.rest)
        ⊎ ((items ≡ breaks.due) × ((breaks.rest ≢ []) ⊎ ¬ IsComplete (from_entries breaks.objects) breaks.next)) → ⊥
    by same count texts turn (inl stops) =
        stops.1 (subst (λ k. HasObjectInTurn (last_number 0 breaks.objects) k breaks.rest) same
        (goes_on 0 next (entries state) breaks.objects [] breaks.rest (small state next sound) sound.turn turn
        (let l : length breaks.objects < length (entries state) = omega (arith, count, breaks.count, stops.0) in l)
        (append-nil _ ∙ texts)))
    by same count texts turn (inr ends) =
        let long : length (entries state) ≡ length breaks.objects = omega (arith, count, breaks.count, ends.0) in
        let objects =
        same_objects 0 next (entries state) breaks.objects [] breaks.rest (small state next sound) sound.turn turn long
        (append-nil _ ∙ texts) in
        at_end same objects.0 objects.1 turn ends.1
      where
        at_end : next ≡ breaks.next → entries state ≡ breaks.objects → [] ≡ breaks.rest → AreInTurn 0 next breaks.objects
            → (breaks.rest ≢ []) ⊎ ¬ IsComplete (from_entries breaks.objects) breaks.next → ⊥
        at_end same objects none turn (inl left) = left (sym none)
        at_end same objects none turn (inr incomplete) =
            incomplete (subst (λ k. IsComplete (from_entries breaks.objects) k) same
            (subst (λ s. IsComplete s next) (sym (whole_again state next breaks.objects turn objects)) sound.complete))

pub signature_long : length signature ≡ 8
unfolding signature
signature_long = refl

-- the envelope of a state's bytes, and its body
pub envelope_of : (state : Objects) (next : ℕ) (fingerprint bytes : List ℕ) → length fingerprint ≡ 32
    → (spells : Spells state next fingerprint bytes)
    → HasEnvelope spells.version fingerprint bytes × (body_in bytes ≡ body_text spells.version next (entries state))
unfolding saved with_digest head_text
envelope_of state next fingerprint bytes long spells =
    let version : Version = spells.version in
    let body : List ℕ = body_text version next (entries state) in
    let version_text : List ℕ = little_endian 2 (number_of version) in
    let head : List ℕ = signature ++ (version_text ++ fingerprint) in
    let front : List ℕ = head ++ body in
    let digest : List ℕ = sha256 front in
    let whole : bytes ≡ front ++ digest = spells.is in
    let long_signature : length signature ≡ 8 = signature_long in
    let long_version = length-little_endian 2 (number_of version) in
    let long_head : length head ≡ 42 =
    omega (
      arith,
      length-append signature (version_text ++ fingerprint),
      length-append version_text fingerprint,
      long,
      long_signature,
      long_version,
    ) in
    let total : length bytes ≡ length front + 32 = omega (arith, ap length whole, length-append front digest, length-sha256 front) in
    let long_front : length front ≡ 42 + length body = omega (arith, length-append head body, long_head) in
    let flat : bytes ≡ signature ++ (version_text ++ (fingerprint ++ (body ++ digest))) =
    whole ∙ append_assoc head body digest ∙ append_assoc signature (version_text ++ fingerprint) (body ++ digest)
    ∙ ap (λ x. signature ++ x) (append_assoc version_text fingerprint (body ++ digest)) in
    let behind_signature : drop 8 bytes ≡ version_text ++ (fingerprint ++ (body ++ digest)) =
    ap (drop 8) flat ∙ drop_at signature (version_text ++ (fingerprint ++ (body ++ digest))) 8 long_signature in
    let behind_version : drop 10 bytes ≡ fingerprint ++ (body ++ digest) =
    sym (drop-drop 2 8 bytes) ∙ ap (drop 2) behind_signature ∙ drop_at version_text (fingerprint ++ (body ++ digest)) 2 long_version in
    let cut : digested bytes ≡ front =
    ap (λ k. take k bytes) (let n : length bytes - 32 ≡ length front = omega arith in n) ∙ ap (take (length front)) whole
    ∙ take_at front digest (length front) refl in
    let tail : digest_in bytes ≡ digest =
    ap (λ k. drop k bytes) (let n : length bytes - 32 ≡ length front = omega arith in n) ∙ ap (drop (length front)) whole
    ∙ drop_at front digest (length front) refl in (
      record {
        size = spells.size;
        signed = ap (take 8) flat ∙ take_at signature (version_text ++ (fingerprint ++ (body ++ digest))) 8 long_signature;
        versioned = ap (take 2) behind_signature ∙ take_at version_text (fingerprint ++ (body ++ digest)) 2 long_version;
        image = ap (take 32) behind_version ∙ take_at fingerprint (body ++ digest) 32 long;
        long = omega arith;
        digest = tail ∙ ap sha256 (sym cut);
      },
      ap (drop 42) cut ∙ drop_at head body 42 long_head,
    )

-- bytes say one version
pub one_version : (version other : Version) (bytes : List ℕ) → SaysVersion version bytes → SaysVersion other bytes → version ≡ other
one_version One One bytes a b = refl

-- what spells a state is refused by no rule
pub not_refused : (state : Objects) (next : ℕ) (fingerprint bytes : List ℕ) (why : SnapshotRefusal) → length fingerprint ≡ 32
    → Spells state next fingerprint bytes
    → IsRefused fingerprint bytes why → ⊥
not_refused state next fingerprint bytes why long spells refused =
    let envelope = envelope_of state next fingerprint bytes long spells in
    by why refused.broken (good_envelope spells.version fingerprint bytes envelope.0) envelope.0.versioned envelope.1
  where
    by : (why : SnapshotRefusal) → Breaks fingerprint bytes why → IsGoodTo fingerprint bytes 6 → SaysVersion spells.version bytes
        → body_in bytes ≡ body_text spells.version next (entries state) → ⊥
    by (refusals.Malformed items) broken good says body =
        let malformed =
        subst (λ v. IsMalformed v (body_in bytes) items) (one_version broken.0 spells.version bytes broken.1 says) broken.2 in
        body_whole spells.version state next items spells.sound (subst (λ b. IsMalformed spells.version b items) body malformed)
    by refusals.TooLong broken good says body = good.none refusals.TooLong (omega arith) broken
    by refusals.Signature broken good says body = good.none refusals.Signature (omega arith) broken
    by refusals.Version broken good says body = good.none refusals.Version (omega arith) broken
    by refusals.OtherImage broken good says body = good.none refusals.OtherImage (omega arith) broken
    by refusals.Digest broken good says body = good.none refusals.Digest (omega arith) broken
    by refusals.NoMemory broken good says body = broken

pub only_so : (state : Objects) (next : ℕ) (fingerprint bytes : List ℕ) (result : Result (Objects × ℕ) SnapshotRefusal)
    → length fingerprint ≡ 32
    → Decodes fingerprint bytes result → Spells state next fingerprint bytes → GivesOnly state next result
only_so state next fingerprint bytes (Ok x) long is spells = one_state x.0 state x.1 next fingerprint bytes is spells
only_so state next fingerprint bytes (Err refusals.NoMemory) long is spells = tt
only_so state next fingerprint bytes (Err refusals.TooLong) long is spells =
    not_refused state next fingerprint bytes refusals.TooLong long spells is
only_so state next fingerprint bytes (Err refusals.Signature) long is spells =
    not_refused state next fingerprint bytes refusals.Signature long spells is
only_so state next fingerprint bytes (Err refusals.Version) long is spells =
    not_refused state next fingerprint bytes refusals.Version long spells is
only_so state next fingerprint bytes (Err refusals.OtherImage) long is spells =
    not_refused state next fingerprint bytes refusals.OtherImage long spells is
only_so state next fingerprint bytes (Err refusals.Digest) long is spells =
    not_refused state next fingerprint bytes refusals.Digest long spells is
only_so state next fingerprint bytes (Err (refusals.Malformed items)) long is spells =
    not_refused state next fingerprint bytes (refusals.Malformed items) long spells is
