-- Bytes are refused by one rule.
use Rattle.std.proofs.Common.{◌≡◌, ℕ, ◌<◌, ◌≤◌, List, [], ◌++◌, length, refl, sym, ap, subst, ◌∙◌, arith, inl, inr}
use Rattle.std.specs.Prelude.{◌≢◌, ◌⊎◌, Result, Ok, Err}
use Rattle.std.specs.FinMap.{from_entries}
use Rattle.std.specs.List.{flat_map}
use Rattle.std.proofs.lemmas.List.{length-append}
use Rattle.std.proofs.lemmas.Bool.{cases_lt}
use Rattle.t3_holder.specs.NumberText.{little_endian}
use Rattle.t3_holder.proofs.Numbers.{length-little_endian}
use Rattle.t3_store.specs.Value.{Objects}
use Rattle.t3_snapshot.specs.Layout.{object_text, AreInTurn}
use Rattle.t3_snapshot.specs.State.{Version, One, counts_size, IsComplete}
use Rattle.t3_snapshot.specs.Refusal.{HasObjectInTurn, last_number, BreaksBody, IsMalformed, body_in, Breaks, IsRefused, Decodes, GivesRefusal, rank_of}
use Rattle.t3_snapshot.specs.declared.refusal.SnapshotRefusal.{SnapshotRefusal}
use Rattle.t3_snapshot.specs.declared.refusal.SnapshotRefusal.TheVariants as refusals
use Rattle.t3_snapshot.proofs.Envelopes.{same_rank}
use Rattle.t3_snapshot.proofs.OneState.{same_number, goes_on, one_version, not_refused}

-- no more objects than are due
within_due : (version : Version) (body : List ℕ) (items : ℕ) (b : BreaksBody version body items) → items ≤ b.due
within_due version body items b = by b.breaks
  where
    by : ((items < b.due) × ¬ HasObjectInTurn (last_number 0 b.objects) b.next b.rest)
        ⊎ ((items ≡ b.due) × ((b.rest ≢ []) ⊎ ¬ IsComplete (from_entries b.objects) b.next)) → items ≤ b.due
    by (inl stops) = let lt = stops.0 in omega arith
    by (inr ends) = let e = ends.0 in omega arith

-- fewer objects can't break where more follow in turn
not_fewer : (version : Version) (body : List ℕ) (i j : ℕ) → BreaksBody version body i → BreaksBody version body j → i < j → ⊥
not_fewer One body i j a b less =
    let nexts = same_number a.next b.next _ _ a.next_fits b.next_fits (sym a.is ∙ b.is) in
    let counts = same_number a.due b.due _ _ a.due_fits b.due_fits nexts.1 in
    let turn : AreInTurn 0 a.next b.objects = subst (λ k. AreInTurn 0 k b.objects) (sym nexts.0) b.turn in
    let goes = goes_on 0 a.next b.objects a.objects b.rest a.rest a.next_fits turn a.turn (omega (arith, a.count, b.count, less))
    (sym counts.1) in
    by goes (let w = within_due One body j b in omega (arith, w, less, counts.0)) a.breaks
  where
    by : HasObjectInTurn (last_number 0 a.objects) a.next a.rest → i < a.due
        → ((i < a.due) × ¬ HasObjectInTurn (last_number 0 a.objects) a.next a.rest)
        ⊎ ((i ≡ a.due) × ((a.rest ≢ []) ⊎ ¬ IsComplete (from_entries a.objects) a.next)) → ⊥
    by goes lt (inl stops) = stops.1 goes
    by goes lt (inr ends) = absurd (let e = ends.0 in omega arith)

long_enough : (version : Version) (body : List ℕ) (items : ℕ) → BreaksBody version body items → counts_size version ≤ length body
long_enough One body items b =
    omega (
      arith,
      ap length b.is,
      length-append (little_endian 4 b.next) (little_endian 4 b.due ++ (flat_map object_text b.objects ++ b.rest)),
      length-append (little_endian 4 b.due) (flat_map object_text b.objects ++ b.rest),
      length-little_endian 4 b.next,
      length-little_endian 4 b.due,
    )

one_body : (version : Version) (body : List ℕ) (i j : ℕ) → IsMalformed version body i → IsMalformed version body j → i ≡ j
one_body version body i j (inl a) (inl b) = a.1 ∙ sym b.1
one_body version body i j (inl a) (inr b) = let long = long_enough version body j b in absurd (omega (arith, a.0))
one_body version body i j (inr a) (inl b) = let long = long_enough version body i a in absurd (omega (arith, b.0))
one_body version body i j (inr a) (inr b) = by (cases_lt i j) (cases_lt j i)
  where
    by : (i < j) ⊎ (j ≤ i) → (j < i) ⊎ (i ≤ j) → i ≡ j
    by (inl lt) other = absurd (not_fewer version body i j a b lt)
    by (inr le) (inl lt) = absurd (not_fewer version body j i b a lt)
    by (inr le) (inr ge) = omega arith

last_rule : (why : SnapshotRefusal) → 6 ≤ rank_of why → (items : ℕ) × (why ≡ refusals.Malformed items)
last_rule refusals.TooLong le = absurd (omega arith)
last_rule refusals.Signature le = absurd (omega arith)
last_rule refusals.Version le = absurd (omega arith)
last_rule refusals.OtherImage le = absurd (omega arith)
last_rule refusals.Digest le = absurd (omega arith)
last_rule (refusals.Malformed items) le = (items, refl)
last_rule refusals.NoMemory le = absurd (omega arith)

-- bytes are refused by one rule
pub one_refusal : (fingerprint bytes : List ℕ) (why other : SnapshotRefusal) → IsRefused fingerprint bytes why
    → IsRefused fingerprint bytes other → why ≡ other
one_refusal fingerprint bytes why other a b =
    by (cases_lt (rank_of why) (rank_of other)) (cases_lt (rank_of other) (rank_of why)) (cases_lt (rank_of why) 6)
  where
    by : (rank_of why < rank_of other) ⊎ (rank_of other ≤ rank_of why) → (rank_of other < rank_of why) ⊎ (rank_of why ≤ rank_of other)
        → (rank_of why < 6) ⊎ (6 ≤ rank_of why) → why ≡ other
    by (inl lt) two three = absurd (b.first why lt a.broken)
    by (inr le) (inl lt) three = absurd (a.first other lt b.broken)
    by (inr le) (inr ge) (inl low) = same_rank other why (rank_of why) (omega arith) low refl
    by (inr le) (inr ge) (inr high) =
        let x = last_rule why high in
        let y = last_rule other (omega arith) in
        let broken_x : Breaks fingerprint bytes (refusals.Malformed x.0) = subst (Breaks fingerprint bytes) x.1 a.broken in
        let broken_y : Breaks fingerprint bytes (refusals.Malformed y.0) = subst (Breaks fingerprint bytes) y.1 b.broken in
        let same = one_version broken_y.0 broken_x.0 bytes broken_y.1 broken_x.1 in
        let malformed = subst (λ v. IsMalformed v (body_in bytes) y.0) same broken_y.2 in
        x.1 ∙ ap (λ n. refusals.Malformed n) (one_body broken_x.0 (body_in bytes) x.0 y.0 broken_x.2 malformed) ∙ sym y.1

pub refuses_so : (why : SnapshotRefusal) (fingerprint bytes : List ℕ) (result : Result (Objects × ℕ) SnapshotRefusal)
    → length fingerprint ≡ 32
    → Decodes fingerprint bytes result → IsRefused fingerprint bytes why → GivesRefusal why result
refuses_so why fingerprint bytes (Ok x) long is refused = not_refused x.0 x.1 fingerprint bytes why long is refused
refuses_so why fingerprint bytes (Err refusals.NoMemory) long is refused = tt
refuses_so why fingerprint bytes (Err refusals.TooLong) long is refused = one_refusal fingerprint bytes refusals.TooLong why is refused
refuses_so why fingerprint bytes (Err refusals.Signature) long is refused = one_refusal fingerprint bytes refusals.Signature why is refused
refuses_so why fingerprint bytes (Err refusals.Version) long is refused = one_refusal fingerprint bytes refusals.Version why is refused
refuses_so why fingerprint bytes (Err refusals.OtherImage) long is refused =
    one_refusal fingerprint bytes refusals.OtherImage why is refused
refuses_so why fingerprint bytes (Err refusals.Digest) long is refused = one_refusal fingerprint bytes refusals.Digest why is refused
refuses_so why fingerprint bytes (Err (refusals.Malformed items)) long is refused =
    one_refusal fingerprint bytes (refusals.Malformed items) why is refused
