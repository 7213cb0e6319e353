-- Bytes spell a state, or are refused.
use Rattle.std.proofs.Common.{◌≡◌, ℕ, zero, suc, ◌<◌, ◌≤◌, ◌-◌, ◌^◌, List, [], ◌∷◌, ◌++◌, length, take, drop, Option, Some, None, IsTrue, IsSome, refl, sym, ap, subst, ◌∙◌, inl, inr, append_assoc, arith}
use Rattle.std.specs.Prelude.{◌⊎◌}
use Rattle.std.specs.FinMap.{from_entries, get, len, entries}
use Rattle.std.specs.List.{flat_map, AllByRecursion}
use Rattle.std.proofs.lemmas.Bool.{cases_lt}
use Rattle.std.proofs.lemmas.List.{append-nil, length-drop}
use Rattle.std.proofs.lemmas.List.Concat.{flat_map-cons}
use Rattle.sha2.specs.Sha256.{sha256}
use Rattle.t3_holder.specs.NumberText.{little_endian, AreBytes}
use Rattle.t3_store.specs.Value.{Value, Objects, units_in}
use Rattle.t3_store.specs.Whole.{IsWhole, supers_in}
use Rattle.t3_snapshot.specs.Layout.{object_text, AreInTurn}
use Rattle.t3_snapshot.specs.State.{Version, One, number_of, with_counts, body_text, state_limit, signature, named_in, named_as_keys, can_be_key, IsComplete, Spells}
use Rattle.t3_snapshot.specs.Refusal.{SaysVersion, HasObjectInTurn, last_number, IsMalformed, body_in, digested, digest_in, IsRefused}
use Rattle.t3_snapshot.specs.Inner.Envelope.{HasEnvelope}
use Rattle.t3_snapshot.specs.Inner.Body.{IsBody}
use Rattle.t3_snapshot.specs.Inner.Reading.{object_at}
use Rattle.t3_snapshot.specs.declared.refusal.SnapshotRefusal.{SnapshotRefusal}
use Rattle.t3_snapshot.specs.declared.refusal.SnapshotRefusal.TheVariants as refusals
use Rattle.t3_snapshot.proofs.Leaves.{AreBytes-take, AreBytes-drop, number_there}
use Rattle.t3_snapshot.proofs.Turn.{object_takes, goes_not_on}
use Rattle.t3_snapshot.proofs.Envelopes.{IsGoodTo, good_start, good_size, good_signature, good_version, good_image, other_version, refused_by, malformed, spelled}
use Rattle.t3_snapshot.proofs.Decided.{IsDecided, decided_le, decided_true, decided_some, decided_all, decided_same}
use Rattle.t3_snapshot.proofs.Acyclic.{decided_whole}

-- so many objects stand in turn, and then these bytes
pub record HasObjectsInTurn (last next due : ℕ) (bytes : List ℕ) : Type 0 where
  pub objects : List (ℕ × Value)
  pub rest : List ℕ
  pub is : bytes ≡ flat_map object_text objects ++ rest
  pub turn : AreInTurn last next objects
  pub count : length objects ≡ due

-- or fewer, and then none follows in turn
pub record HasFewer (last next due : ℕ) (bytes : List ℕ) : Type 0 where
  pub objects : List (ℕ × Value)
  pub rest : List ℕ
  pub is : bytes ≡ flat_map object_text objects ++ rest
  pub turn : AreInTurn last next objects
  pub less : length objects < due
  pub none : ¬ HasObjectInTurn (last_number last objects) next rest

all_or_fewer : (due last next : ℕ) (bytes : List ℕ) → next < 2 ^ 32 → AreBytes bytes
    → HasObjectsInTurn last next due bytes ⊎ HasFewer last next due bytes
all_or_fewer zero last next bytes fits are = inl (record { objects = []; rest = bytes; is = refl; turn = tt; count = refl })
all_or_fewer (suc due) last next bytes fits are =
    by (object_at last next bytes) refl (λ n after left. all_or_fewer due n next after fits left)
  where
    more : (o : ℕ × Value) (after : List ℕ) → bytes ≡ object_text o ++ after → (objects : List (ℕ × Value)) (rest : List ℕ)
        → after ≡ flat_map object_text objects ++ rest
        → bytes ≡ flat_map object_text (o ∷ objects) ++ rest
    more o after is objects rest then =
        is ∙ ap (λ x. object_text o ++ x) then ∙ sym (append_assoc (object_text o) (flat_map object_text objects) rest)
        ∙ ap (λ x. x ++ rest) (sym (flat_map-cons object_text o objects))

    by : (read : Option ((ℕ × Value) × List ℕ)) → object_at last next bytes ≡ read
        → ((n : ℕ) (after : List ℕ) → AreBytes after → HasObjectsInTurn n next due after ⊎ HasFewer n next due after)
        → HasObjectsInTurn last next (suc due) bytes ⊎ HasFewer last next (suc due) bytes
    by None e others =
        inr (record { objects = []; rest = bytes; is = refl; turn = tt; less = omega arith; none = goes_not_on last next bytes fits e })
    by (Some (o, after)) e others =
        let took = object_takes last next bytes o after are e in
        then o after took.is (took.fits.above, took.fits.below, took.fits.spellable, tt) (others o.0 after took.left)
      where
        then : (o : ℕ × Value) (after : List ℕ) → bytes ≡ object_text o ++ after → AreInTurn last next (o ∷ [])
            → HasObjectsInTurn o.0 next due after ⊎ HasFewer o.0 next due after
            → HasObjectsInTurn last next (suc due) bytes ⊎ HasFewer last next (suc due) bytes
        then o after is first (inl all) = inl (record {
          objects = o ∷ all.objects;
          rest = all.rest;
          is = more o after is all.objects all.rest all.is;
          turn = (first.0, first.1, first.2, all.turn);
          count = ap suc all.count;
        })
        then o after is first (inr fewer) = inr (record {
          objects = o ∷ fewer.objects;
          rest = fewer.rest;
          is = more o after is fewer.objects fewer.rest fewer.is;
          turn = (first.0, first.1, first.2, fewer.turn);
          less = omega (arith, fewer.less);
          none = fewer.none;
        })

-- the counts of a body, and the bytes after them
pub record HasCounts (body : List ℕ) : Type 0 where
  pub next : ℕ
  pub due : ℕ
  pub after : List ℕ
  pub next_fits : next < 2 ^ 32
  pub due_fits : due < 2 ^ 32
  pub is : body ≡ with_counts One next due after
  pub left : AreBytes after

counts_there : (body : List ℕ) → AreBytes body → 8 ≤ length body → HasCounts body
counts_there body are long =
    let next = number_there 4 body are (omega (arith, long)) in
    let due = number_there 4 (drop 4 body) next.3 (let l : 4 ≤ length (drop 4 body) = omega (arith, long, length-drop 4 body) in l) in
    record {
      next = next.0;
      due = due.0;
      after = drop 4 (drop 4 body);
      next_fits = next.2;
      due_fits = due.2;
      is = next.1 ∙ ap (λ x. little_endian 4 next.0 ++ x) due.1;
      left = due.3;
    }

whole_body : (body : List ℕ) (has : HasCounts body) (all : HasObjectsInTurn 0 has.next has.due has.after) → all.rest ≡ []
    → IsComplete (from_entries all.objects) has.next → IsBody One body (from_entries all.objects) has.next
unfolding body_text
whole_body body has all none complete = record {
  objects = all.objects;
  next_fits = has.next_fits;
  few = subst (λ k. k < 2 ^ 32) (sym all.count) has.due_fits;
  is = has.is
      ∙ ap (with_counts One has.next has.due)
      (all.is ∙ ap (λ x. flat_map object_text all.objects ++ x) none ∙ append-nil (flat_map object_text all.objects))
      ∙ ap (λ k. with_counts One has.next k (flat_map object_text all.objects)) (sym all.count);
  turn = all.turn;
  state_is = refl;
  complete = complete;
}

-- objects are a complete state, or not
decided_complete : (state : Objects) (top : ℕ) → IsDecided (IsComplete state top)
decided_complete state top =
    by (decided_le top (2 ^ 31)) (decided_all IsObject (λ number. decided_some (get state number)) named)
    (decided_all IsKey (λ number. decided_true (can_be_key (get state number))) named_keys) (decided_whole state)
    (decided_le (len state) 1048576) (decided_le (units_in state) 4194304)
  where
    named : List ℕ
    named = flat_map (λ (object : ℕ × Value). named_in object.1) (entries state)

    named_keys : List ℕ
    named_keys = flat_map (λ (object : ℕ × Value). named_as_keys object.1) (entries state)

    IsObject : ℕ → Type 0
    IsObject number = IsSome (get state number)

    IsKey : ℕ → Type 0
    IsKey number = IsTrue (can_be_key (get state number))

    by : IsDecided (top ≤ 2 ^ 31) → IsDecided (AllByRecursion IsObject named) → IsDecided (AllByRecursion IsKey named_keys)
        → IsDecided (IsWhole (supers_in state)) → IsDecided (len state ≤ 1048576) → IsDecided (units_in state ≤ 4194304)
        → IsDecided (IsComplete state top)
    by (inl next) (inl references) (inl keys) (inl whole) (inl objects) (inl units) =
        inl (record { next = next; references = references; keys = keys; whole = whole; objects = objects; units = units })
    by (inr not) references keys whole objects units = inr (λ complete. not complete.next)
    by (inl next) (inr not) keys whole objects units = inr (λ complete. not complete.references)
    by (inl next) (inl references) (inr not) whole objects units = inr (λ complete. not complete.keys)
    by (inl next) (inl references) (inl keys) (inr not) objects units = inr (λ complete. not complete.whole)
    by (inl next) (inl references) (inl keys) (inl whole) (inr not) units = inr (λ complete. not complete.objects)
    by (inl next) (inl references) (inl keys) (inl whole) (inl objects) (inr not) = inr (λ complete. not complete.units)

-- a body says a state, or is malformed
abbrev BodyAnswer : List ℕ → Type 0
BodyAnswer body = ((state : Objects) × (next : ℕ) × IsBody One body state next) ⊎ ((items : ℕ) × IsMalformed One body items)

body_answer : (body : List ℕ) → AreBytes body → BodyAnswer body
body_answer body are = by (cases_lt (length body) 8)
  where
    at_end : (has : HasCounts body) (all : HasObjectsInTurn 0 has.next has.due has.after) (rest : List ℕ) → all.rest ≡ rest
        → IsDecided (IsComplete (from_entries all.objects) has.next) → BodyAnswer body
    at_end has all [] none (inl complete) = inl (from_entries all.objects, has.next, whole_body body has all none complete)
    at_end has all [] none (inr not) = inr (
      length all.objects,
      inr (record {
        next = has.next;
        due = has.due;
        objects = all.objects;
        rest = all.rest;
        next_fits = has.next_fits;
        due_fits = has.due_fits;
        is = has.is ∙ ap (with_counts One has.next has.due) all.is;
        turn = all.turn;
        count = refl;
        breaks = inr (all.count, inr not);
      }),
    )
    at_end has all (byte ∷ rest) some decided = inr (
      length all.objects,
      inr (record {
        next = has.next;
        due = has.due;
        objects = all.objects;
        rest = all.rest;
        next_fits = has.next_fits;
        due_fits = has.due_fits;
        is = has.is ∙ ap (with_counts One has.next has.due) all.is;
        turn = all.turn;
        count = refl;
        breaks = inr (all.count, inl (λ none. not_nil byte rest (sym some ∙ none)));
      }),
    )
      where
        not_nil : (byte : ℕ) (rest : List ℕ) → byte ∷ rest ≡ [] → ⊥
        not_nil byte rest e = cc

    read : (has : HasCounts body) → HasObjectsInTurn 0 has.next has.due has.after ⊎ HasFewer 0 has.next has.due has.after
        → BodyAnswer body
    read has (inl all) = at_end has all all.rest refl (decided_complete (from_entries all.objects) has.next)
    read has (inr fewer) = inr (
      length fewer.objects,
      inr (record {
        next = has.next;
        due = has.due;
        objects = fewer.objects;
        rest = fewer.rest;
        next_fits = has.next_fits;
        due_fits = has.due_fits;
        is = has.is ∙ ap (with_counts One has.next has.due) fewer.is;
        turn = fewer.turn;
        count = refl;
        breaks = inl (fewer.less, fewer.none);
      }),
    )

    by : (length body < 8) ⊎ (8 ≤ length body) → BodyAnswer body
    by (inl short) = inr (0, inl (short, refl))
    by (inr long) =
        let has = counts_there body are long in
        read has (all_or_fewer has.due 0 has.next has.after has.next_fits has.left)

-- a state that the bytes spell, or the rule by which they are refused
abbrev Answer : List ℕ → List ℕ → Type 0
Answer fingerprint bytes =
    ((state : Objects) × (next : ℕ) × Spells state next fingerprint bytes) ⊎ ((why : SnapshotRefusal) × IsRefused fingerprint bytes why)

enveloped : (version : Version) (fingerprint bytes : List ℕ) → AreBytes bytes → HasEnvelope version fingerprint bytes → Answer fingerprint bytes
enveloped One fingerprint bytes are envelope =
    by (body_answer (body_in bytes) (AreBytes-drop 42 (digested bytes) (AreBytes-take (length bytes - 32) bytes are)))
  where
    by : BodyAnswer (body_in bytes) → Answer fingerprint bytes
    by (inl (state, next, is)) = inl (state, next, spelled One fingerprint bytes (body_in bytes) state next envelope refl is)
    by (inr (items, is)) = inr (refusals.Malformed items, malformed One fingerprint bytes items envelope is)

-- bytes spell a state, or are refused by a rule
pub some_answer : (fingerprint bytes : List ℕ) → AreBytes bytes
    → ((state : Objects) × (next : ℕ) × Spells state next fingerprint bytes)
    ⊎ ((why : SnapshotRefusal) × IsRefused fingerprint bytes why)
some_answer fingerprint bytes are =
    by (decided_le (length bytes) state_limit) (decided_same (take 8 bytes) signature)
    (decided_same (take 2 (drop 8 bytes)) (little_endian 2 (number_of One)))
    (decided_same (take 32 (drop 10 bytes)) fingerprint) (cases_lt (length bytes) 74)
    (decided_same (digest_in bytes) (sha256 (digested bytes)))
  where
    refused : (why : SnapshotRefusal) → IsRefused fingerprint bytes why → Answer fingerprint bytes
    refused why is = inr (why, is)

    to_version : length bytes ≤ state_limit → take 8 bytes ≡ signature → IsGoodTo fingerprint bytes 3
    to_version short signed = good_signature fingerprint bytes (good_size fingerprint bytes short) signed

    to_image : length bytes ≤ state_limit → take 8 bytes ≡ signature → SaysVersion One bytes → IsGoodTo fingerprint bytes 4
    to_image short signed says = good_version One fingerprint bytes (to_version short signed) says

    to_digest : length bytes ≤ state_limit → take 8 bytes ≡ signature → SaysVersion One bytes → take 32 (drop 10 bytes) ≡ fingerprint
        → IsGoodTo fingerprint bytes 5
    to_digest short signed says image = good_image fingerprint bytes (to_image short signed says) image

    by : IsDecided (length bytes ≤ state_limit) → IsDecided (take 8 bytes ≡ signature) → IsDecided (SaysVersion One bytes)
        → IsDecided (take 32 (drop 10 bytes) ≡ fingerprint) → (length bytes < 74) ⊎ (74 ≤ length bytes)
        → IsDecided (digest_in bytes ≡ sha256 (digested bytes)) → Answer fingerprint bytes
    by (inr long) signed says image size digest =
        refused refusals.TooLong (refused_by fingerprint bytes refusals.TooLong (good_start fingerprint bytes) (above long))
      where
        above : ¬ (length bytes ≤ state_limit) → state_limit < length bytes
        above long = omega arith
    by (inl short) (inr unsigned) says image size digest =
        refused refusals.Signature (refused_by fingerprint bytes refusals.Signature (good_size fingerprint bytes short) unsigned)
    by (inl short) (inl signed) (inr other) image size digest =
        refused refusals.Version (refused_by fingerprint bytes refusals.Version (to_version short signed) (other_version bytes other))
    by (inl short) (inl signed) (inl says) (inr other) size digest =
        refused refusals.OtherImage (refused_by fingerprint bytes refusals.OtherImage (to_image short signed says) other)
    by (inl short) (inl signed) (inl says) (inl image) (inl none) digest =
        refused refusals.Digest (refused_by fingerprint bytes refusals.Digest (to_digest short signed says image) (inl none))
    by (inl short) (inl signed) (inl says) (inl image) (inr long) (inr other) =
        refused refusals.Digest (refused_by fingerprint bytes refusals.Digest (to_digest short signed says image) (inr other))
    by (inl short) (inl signed) (inl says) (inl image) (inr long) (inl digest) =
        enveloped One fingerprint bytes are
        (record { size = short; signed = signed; versioned = says; image = image; long = long; digest = digest })
