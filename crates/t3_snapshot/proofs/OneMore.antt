-- Objects added one after the other, and when there are too many.
use Rattle.std.proofs.Common.{◌≡◌, ℕ, ◌+◌, ◌≤◌, Bool, true, false, ◌||◌, cond, List, [], ◌∷◌, ◌++◌, map, Option, Some, None, IsTrue, IsSome, is_some, refl, sym, ap, subst, ◌∙◌, inl, inr, append_assoc, arith}
use Rattle.std.specs.Prelude.{nat_lt, sum_by, ◌⊎◌, option_and_then}
use Rattle.std.specs.Bool.{MatchBool}
use Rattle.std.specs.FinMap.{get, insert, len, same_map, get-insert, nat_cmp-IsAntisymmetric}
use Rattle.std.specs.Cmp.{nat_cmp_total}
use Rattle.std.specs.Ordering.{eq_by_cmp, nat_cmp}
use Rattle.std.specs.List.{IsDistinct, AllByRecursion}
use Rattle.std.proofs.lemmas.List.{append-nil}
use Rattle.std.proofs.lemmas.List.Sums.{sum_by-append, sum_by-cons}
use Rattle.t3_tables.specs.Order.{with_value}
use Rattle.t3_snapshot.proofs.Keys.{same_back}
use Rattle.std.proofs.lemmas.Bool.{ltb-true}
use Rattle.t3_holder.specs.declared.holder.Holder.{Holder}
use Rattle.t3_holder.specs.declared.holder.Holder.TheVariants as holders
use Rattle.t3_undo.specs.Key.{key_cmp}
use Rattle.t3_undo.specs.Objects.{adjust}
use Rattle.t3_undo.specs.declared.cell.Cell.TheVariants as cells
use Rattle.t3_undo.specs.declared.key.Key.{Key}
use Rattle.t3_tables.specs.declared.pair.Pair.{Pair}
use Rattle.t3_store.specs.Value.{Value, Objects, Table, units_in, units_of, is_past, is_past_units, with_cell, IsTableWithout, entries_in}
use Rattle.t3_undo.specs.Units.{key_units}
use Rattle.t3_tables.specs.Entries.{value_under}
use Rattle.t3_store.proofs.Added.{added_here, added_len, added_units}
use Rattle.t3_snapshot.specs.Layout.{keys_of, HasDistinctKeys}
use Rattle.t3_snapshot.specs.Building.{IsOver}

either_true : (a b : Bool) → IsTrue (a || b) → IsTrue a ⊎ IsTrue b
either_true true b t = inl refl
either_true false b t = inr t

-- an object more is too many
pub over_added : (state : Objects) (n : ℕ) (value : Value) → get state n ≡ None → IsTrue (is_past state (units_of value))
    → IsOver (insert state n value)
over_added state n value none past = by (either_true _ _ past)
  where
    by : IsTrue (nat_lt 1048576 (len state + 1)) ⊎ IsTrue (is_past_units state (units_of value)) → IsOver (insert state n value)
    by (inl few) = inl (let lt = ltb-true _ _ few in omega (arith, added_len state n value none))
    by (inr units) = inr (let lt = ltb-true _ _ units in omega (arith, added_units state n value none))

-- too many stay too many where the object counts more
pub over_more : (state : Objects) (n : ℕ) (value more : Value) → get state n ≡ None → units_of value ≤ units_of more
    → IsOver (insert state n value) → IsOver (insert state n more)
over_more state n value more none le (inl few) = inl (omega (arith, added_len state n value none, added_len state n more none))
over_more state n value more none le (inr units) = inr (omega (arith, added_units state n value none, added_units state n more none))

-- ---- tables

shadow : (b : Bool) (v w x : Option Value) → cond b w (cond b v x) ≡ cond b w x
shadow true v w x = refl
shadow false v w x = refl

insert_again : (state : Objects) (n : ℕ) (v w : Value) → insert (insert state n v) n w ≡ insert state n w
insert_again state n v w = same_map nat_cmp_total nat_cmp-IsAntisymmetric _ _ (λ q.
    get-insert nat_cmp_total (insert state n v) n w q ∙ ap (cond (eq_by_cmp nat_cmp q n) (Some w)) (get-insert nat_cmp_total state n v q)
    ∙ shadow (eq_by_cmp nat_cmp q n) (Some v) (Some w) (get state q) ∙ sym (get-insert nat_cmp_total state n w q))

adjust_added : (state : Objects) (n : ℕ) (v : Value) (f : Value → Value) → adjust (insert state n v) n f ≡ insert state n (f v)
unfolding adjust
adjust_added state n v f = rw (added_here state n v) (insert_again state n v (f v))

-- entries of a table were added, and these are left
pub record IsFilling (old now : Objects) (number : ℕ) (all : List Pair) (default : Holder) (left : List Pair) : Type 0 where
  pub front : List Pair
  pub is : front ++ left ≡ all
  pub state : now ≡ insert old number (Table front default)

pub begun : (old made now : Objects) (number : ℕ) (all : List Pair) (default : Holder) → made ≡ insert old number (Table [] holders.Nil)
    → now ≡ adjust made number (with_cell cells.Default default) → IsFilling old now number all default all
begun old made now number all default is set = record {
  front = [];
  is = refl;
  state = set ∙ ap (λ m. adjust m number (with_cell cells.Default default)) is
      ∙ adjust_added old number (Table [] holders.Nil) (with_cell cells.Default default);
}

at_last : (P : Key → Type 0) (front rest : List Pair) (pair : Pair) → AllByRecursion P (keys_of (front ++ pair ∷ rest)) → P pair.key
at_last P [] rest pair all = all.0
at_last P (x ∷ front) rest pair all = at_last P front rest pair all.1

absent : (front rest : List Pair) (pair : Pair) → HasDistinctKeys (front ++ pair ∷ rest) → value_under pair.key front ≡ None
unfolding IsDistinct
absent [] rest pair distinct = refl
absent (x ∷ front) rest pair distinct =
    let apart : eq_by_cmp key_cmp x.key pair.key ≡ false = at_last (λ y. eq_by_cmp key_cmp x.key y ≡ false) front rest pair distinct.0 in
    ap (λ b. cond b (Some x.value) (value_under pair.key front)) (same_back pair.key x.key ∙ apart) ∙ absent front rest pair distinct.1

pub table_without : (old now : Objects) (number : ℕ) (all : List Pair) (default : Holder) (pair : Pair) (left : List Pair)
    → IsFilling old now number all default (pair ∷ left) → HasDistinctKeys all → IsTableWithout pair.key (get now number)
table_without old now number all default pair left filling distinct =
    let here : get now number ≡ Some (Table filling.front default) =
    ap (λ m. get m number) filling.state ∙ added_here old number (Table filling.front default) in
    let none = absent filling.front left pair (subst HasDistinctKeys (sym filling.is) distinct) in
    subst (IsTableWithout pair.key) (sym here) (refl, none)

pub filled_more : (old now next : Objects) (number : ℕ) (all : List Pair) (default : Holder) (pair : Pair) (left : List Pair)
    → IsFilling old now number all default (pair ∷ left) → HasDistinctKeys all
    → next ≡ adjust now number (with_cell (cells.Key pair.key) pair.value)
    → IsFilling old next number all default left
filled_more old now next number all default pair left filling distinct set =
    let none = absent filling.front left pair (subst HasDistinctKeys (sym filling.is) distinct) in
    record {
      front = filling.front ++ pair ∷ [];
      is = append_assoc filling.front (pair ∷ []) left ∙ filling.is;
      state = set ∙ ap (λ m. adjust m number (with_cell (cells.Key pair.key) pair.value)) filling.state
          ∙ adjust_added old number (Table filling.front default) (with_cell (cells.Key pair.key) pair.value)
          ∙ ap (λ o. insert old number (Table
          (cond (is_some o) (map (with_value pair.key pair.value) filling.front)
          (filling.front ++ record { key = pair.key; value = pair.value } ∷ [])) default)) none;
    }

pub full_table : (old now : Objects) (number : ℕ) (all : List Pair) (default : Holder) (pair : Pair) (left : List Pair)
    → get old number ≡ None
    → IsFilling old now number all default (pair ∷ left) → IsTrue (is_past_units now (key_units pair.key))
    → IsOver (insert old number (Table all default))
full_table old now number all default pair left none filling past =
    let lt = ltb-true _ _ past in
    let so_far : units_in now ≡ units_in old + sum_by (λ p. key_units p.key) filling.front =
    ap units_in filling.state ∙ added_units old number (Table filling.front default) none in
    let whole : sum_by (λ p. key_units p.key) all
    ≡ sum_by (λ p. key_units p.key) filling.front + (key_units pair.key + sum_by (λ p. key_units p.key) left) =
    ap (sum_by (λ p. key_units p.key)) (sym filling.is) ∙ sum_by-append (λ p. key_units p.key) filling.front (pair ∷ left)
    ∙ ap (λ k. sum_by (λ p. key_units p.key) filling.front + k) (sum_by-cons (λ p. key_units p.key) pair left) in
    inr (omega (arith, added_units old number (Table all default) none))

pub all_filled : (old now : Objects) (number : ℕ) (all : List Pair) (default : Holder) → IsFilling old now number all default []
    → now ≡ insert old number (Table all default)
all_filled old now number all default filling =
    filling.state ∙ ap (λ ps. insert old number (Table ps default)) (sym (append-nil filling.front) ∙ filling.is)

pub emptied : (old : Objects) (number : ℕ) (all : List Pair) (default : Holder) → get old number ≡ None
    → IsOver (insert old number (Table [] holders.Nil)) → IsOver (insert old number (Table all default))
emptied old number all default none over = over_more old number (Table [] holders.Nil) (Table all default) none (omega arith) over

pub by_false : (b : Bool) (P Q : Type 0) → MatchBool b P Q → b ≡ false → Q
by_false true P Q is so = absurd cc
by_false false P Q is so = is

pub by_true : (b : Bool) (P Q : Type 0) → MatchBool b P Q → b ≡ true → P
by_true true P Q is so = is
by_true false P Q is so = absurd cc

pub is_table : (old made : Objects) (number : ℕ) → made ≡ insert old number (Table [] holders.Nil)
    → IsSome (option_and_then entries_in (get made number))
is_table old made number is =
    let here : get made number ≡ Some (Table [] holders.Nil) = ap (λ m. get m number) is ∙ added_here old number (Table [] holders.Nil) in
    subst (λ o. IsSome (option_and_then entries_in o)) (sym here) refl
