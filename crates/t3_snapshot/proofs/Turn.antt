-- Objects in turn: their numbers rise, so that each is new.
use Rattle.std.proofs.Common.{◌≡◌, ℕ, ◌<◌, ◌≤◌, ◌^◌, ◌&&◌, cond, List, [], ◌∷◌, ◌++◌, Some, None, refl, sym, ap, subst, ◌∙◌, inl, inr, append_assoc, arith}
use Rattle.std.specs.Prelude.{nat_lt}
use Rattle.std.specs.FinMap.{get, insert, entries, from_entries, find, put, get-from_entries, entries-insert, from_entries_push, nat_cmp-IsAntisymmetric}
use Rattle.t3_undo.proofs.Maps.{entries-empty}
use Rattle.std.specs.Cmp.{nat_cmp_total}
use Rattle.std.specs.Ordering.{nat_cmp}
use Rattle.std.specs.List.{flat_map}
use Rattle.std.proofs.lemmas.Bool.{ltb-true, lt-ltb}
use Rattle.std.proofs.lemmas.List.{append-nil}
use Rattle.std.proofs.lemmas.List.Concat.{flat_map-cons}
use Rattle.std.proofs.lemmas.Grind.{flat_map-append}
use Rattle.t3_holder.specs.NumberText.{little_endian, AreBytes}
use Rattle.t3_store.specs.Value.{Value, Objects}
use Rattle.t3_store.proofs.Added.{added_len, added_units}
use Rattle.t3_snapshot.specs.Layout.{object_text, value_text, IsSpellable, AreInTurn}
use Rattle.t3_snapshot.specs.Refusal.{last_number, HasObjectInTurn}
use Rattle.t3_snapshot.specs.Building.{IsLost}
use Rattle.t3_snapshot.specs.Inner.Reading.{number_at, value_at, object_at}
use Rattle.t3_snapshot.proofs.Leaves.{bind_some, number_takes, number_again, both_true}
use Rattle.t3_snapshot.proofs.Sorted.{differ, less_put}
use Rattle.t3_snapshot.proofs.Readers.{Took, where_some}
use Rattle.t3_snapshot.proofs.ValueReaders.{values_read}

pub turn_more : (last next : ℕ) (objects : List (ℕ × Value)) (n : ℕ) (value : Value) → AreInTurn last next objects
    → last_number last objects < n → n < next
    → IsSpellable value → AreInTurn last next (objects ++ (n, value) ∷ [])
turn_more last next [] n value turn above below fits = (above, below, fits, tt)
turn_more last next (o ∷ objects) n value turn above below fits =
    (turn.0, turn.1, turn.2, turn_more o.0 next objects n value turn.3 above below fits)

pub last_more : (last : ℕ) (objects : List (ℕ × Value)) (n : ℕ) (value : Value) → last_number last (objects ++ (n, value) ∷ []) ≡ n
last_more last [] n value = refl
last_more last (o ∷ objects) n value = last_more o.0 objects n value

-- the last number is at least the first
pub last_from : (last next : ℕ) (objects : List (ℕ × Value)) → AreInTurn last next objects → last ≤ last_number last objects
last_from last next [] turn = omega arith
last_from last next (o ∷ objects) turn = let later = last_from o.0 next objects turn.3 in omega (arith, turn.0)

pub find_none : (last next : ℕ) (objects : List (ℕ × Value)) (n : ℕ) → AreInTurn last next objects → last_number last objects < n
    → find nat_cmp n objects ≡ None
find_none last next [] n turn above = refl
find_none last next (o ∷ objects) n turn above =
    let later = last_from o.0 next objects turn.3 in
    ap (λ b. cond b (Some o.1) (find nat_cmp n objects)) (differ n o.0 (omega arith)) ∙ find_none o.0 next objects n turn.3 above

-- a number above them is new
pub is_new : (next : ℕ) (objects : List (ℕ × Value)) (n : ℕ) → AreInTurn 0 next objects → last_number 0 objects < n
    → get (from_entries {R = nat_cmp} objects) n ≡ None
is_new next objects n turn above = get-from_entries nat_cmp_total objects n ∙ find_none 0 next objects n turn above

pub state_more : (next : ℕ) (objects : List (ℕ × Value)) (n : ℕ) (value : Value) → AreInTurn 0 next objects → last_number 0 objects < n
    → from_entries {R = nat_cmp} (objects ++ (n, value) ∷ []) ≡ insert (from_entries objects) n value
state_more next objects n value turn above =
    from_entries_push nat_cmp_total nat_cmp-IsAntisymmetric objects n value (find_none 0 next objects n turn above)

-- the entries of their map are they themselves
pub entries_are : (last next : ℕ) (objects : List (ℕ × Value)) → AreInTurn last next objects
    → entries (from_entries {R = nat_cmp} objects) ≡ objects
entries_are last next [] turn = entries-empty nat_cmp
entries_are last next (o ∷ objects) turn =
    entries-insert nat_cmp_total (from_entries objects) o.0 o.1 ∙ ap (put nat_cmp o.0 o.1) (entries_are o.0 next objects turn.3)
    ∙ put_first o objects turn.3
  where
    put_first : (o : ℕ × Value) (objects : List (ℕ × Value)) → AreInTurn o.0 next objects → put nat_cmp o.0 o.1 objects ≡ o ∷ objects
    put_first o [] turn = refl
    put_first o (p ∷ objects) turn = less_put o.0 0 o.1 p objects turn.0

-- what is lost stays lost
pub lost_more : (next : ℕ) (state : Objects) (n : ℕ) (value : Value) → get state n ≡ None → IsLost next state
    → IsLost next (insert state n value)
lost_more next state n value none (inl far) = inl far
lost_more next state n value none (inr (inl few)) = inr (inl (omega (arith, added_len state n value none)))
lost_more next state n value none (inr (inr units)) = inr (inr (omega (arith, added_units state n value none)))

pub texts_more : (objects : List (ℕ × Value)) (o : ℕ × Value)
    → flat_map object_text (objects ++ o ∷ []) ≡ flat_map object_text objects ++ object_text o
texts_more objects o =
    flat_map-append object_text objects (o ∷ [])
    ∙ ap (λ x. flat_map object_text objects ++ x) (flat_map-cons object_text o [] ∙ append-nil (object_text o))

-- ---- an object

pub record IsNext (last next : ℕ) (object : ℕ × Value) : Type 0 where
  pub above : last < object.0
  pub below : object.0 < next
  pub spellable : IsSpellable object.1

pub object_takes : (last next : ℕ) (bytes : List ℕ) (o : ℕ × Value) (rest : List ℕ) → AreBytes bytes
    → object_at last next bytes ≡ Some (o, rest)
    → Took object_text (IsNext last next) bytes o rest
unfolding object_at object_text
object_takes last next bytes o rest are e =
    let n = bind_some (number_at 4 bytes) _ (o, rest) e in
    let v = bind_some (value_at n.0.1) _ (o, rest) n.2 in
    let g = where_some (nat_lt last n.0.0 && nat_lt n.0.0 next) ((n.0.0, v.0.0), v.0.1) (o, rest) v.2 in
    let tests = both_true (nat_lt last n.0.0) (nat_lt n.0.0 next) g.0 in
    let first = number_takes 4 bytes n.0.0 n.0.1 are n.1 in
    let second = values_read.takes n.0.1 v.0.0 v.0.1 first.2 v.1 in
    let made : Took (λ (p : ℕ × Value). little_endian 4 p.0 ++ value_text p.1) (IsNext last next) bytes (n.0.0, v.0.0) v.0.1 = record {
      is = first.0 ∙ ap (λ r. little_endian 4 n.0.0 ++ r) second.is ∙ sym (append_assoc (little_endian 4 n.0.0) (value_text v.0.0) v.0.1);
      fits = record { above = ltb-true _ _ tests.0; below = ltb-true _ _ tests.1; spellable = second.fits };
      left = second.left;
    } in
    subst (λ (p : (ℕ × Value) × List ℕ). Took (λ (p : ℕ × Value). little_endian 4 p.0 ++ value_text p.1) (IsNext last next) bytes p.0 p.1)
    g.1 made

pub object_again : (last next : ℕ) (o : ℕ × Value) (rest : List ℕ) → next < 2 ^ 32 → IsNext last next o
    → object_at last next (object_text o ++ rest) ≡ Some (o, rest)
unfolding object_at object_text
object_again last next o rest lt is =
    rw (
      append_assoc (little_endian 4 o.0) (value_text o.1) rest,
      number_again 4 o.0 (value_text o.1 ++ rest) (omega (arith, is.below)),
      values_read.again o.1 rest is.spellable,
      lt-ltb last o.0 is.above,
      lt-ltb o.0 next is.below,
    ) refl

pub goes_not_on : (last next : ℕ) (bytes : List ℕ) → next < 2 ^ 32 → object_at last next bytes ≡ None → ¬ HasObjectInTurn last next bytes
goes_not_on last next bytes lt none goes =
    let again = object_again last next (goes.number, goes.value) goes.trailing lt
    (record { above = goes.above; below = goes.below; spellable = goes.spellable }) in
    let there : object_at last next bytes ≡ Some ((goes.number, goes.value), goes.trailing) = ap (object_at last next) goes.is ∙ again in
    absurd cc
