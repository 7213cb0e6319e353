-- Elements of vectors that are set and taken away one after the other.
use Rattle.std.proofs.Common.{◌≡◌, ℕ, zero, suc, ◌+◌, ◌-◌, ◌<◌, ◌≤◌, Bool, true, false, cond, List, [], ◌∷◌, ◌++◌, length, replicate, get_or, take, drop, Option, Some, None, refl, sym, ap, ◌∙◌, subst, arith, max, length-append, append-nil, ◌^◌, nat_lt, ltb-true, ltb-false}
use Rattle.std.specs.Prelude.{IfSome, is_none, ◌&&◌, slice_set}
use Rattle.std.specs.Option.{option_map}
use Rattle.std.proofs.lemmas.Option.{same_Some, none-some, slice_get-get_or}
use Rattle.std.proofs.lemmas.List.{length-set, length-take-le, length-drop, length-replicate, replicate_more, take_more, get_or-drop}
use Rattle.t3_holder.specs.declared.holder.Holder.{Holder}
use Rattle.t3_holder.specs.declared.holder.Holder.TheVariants.{Nil}
use Rattle.t3_undo.specs.declared.cell.Cell.{Cell}
use Rattle.t3_undo.specs.declared.cell.Cell.TheVariants.{Elem}
use Rattle.t3_store.specs.Value.{Value, Tads, Text, Items, Vector, Table, with_cell, without_cell, holder_at}
use Rattle.t3_lists.specs.Items.{set_item}
use Rattle.t3_undo.specs.Units.{cell_units}
use Rattle.t3_store.specs.Store.{StoreValue, value_at, written, taken, set_cell, is_full_with}
use Rattle.t3_store.proofs.Callers.{element-set, element-taken}
use Rattle.t3_store.proofs.SetCells.{value_at-set_cell, value_at-taken}
use Rattle.t3_ops.specs.Elements.{IsVectorOf, vector_items}
use Rattle.t3_ops.proofs.Appending.{vector-length, vector-element, vector-present}
use Rattle.t3_kinds.specs.Changes.{Change, Sets}
use Rattle.t3_kinds.specs.VectorMethods.{elements_set, elements_taken, length_changes, removing_changes}
use Rattle.t3_kinds.specs.Inner.Deeds.{CanAllBeDone}

if-some : {A : Type 0} (o : Option A) (P : A → Type 0) → ((x : A) → o ≡ Some x → P x) → IfSome o P
if-some None P each = tt
if-some (Some x) P each = each x refl

-- ---- the length after a change

set-long : (index : ℕ) (holder : Holder) (items : List Holder) → index ≤ length items
    → length (set_item index holder items) ≡ max (length items) (suc index)
set-long index holder items within = by (nat_lt index (length items)) refl
  where
    by : (b : Bool) → nat_lt index (length items) ≡ b
        → length (cond b (slice_set items index holder) (items ++ holder ∷ [])) ≡ max (length items) (suc index)
    by true e = let less = ltb-true index (length items) e in let long = length-set items index holder in omega arith
    by false e = let past = ltb-false index (length items) e in let long = length-append items (holder ∷ []) in omega arith

set-in : (o : Option Value) (count index : ℕ) (holder : Holder) → IsVectorOf o count → index ≤ count
    → IsVectorOf (option_map (with_cell (Elem (suc index)) holder) o) (max count (suc index))
set-in None count index holder is within = absurd (none-some count is)
set-in (Some (Tads supers class props)) count index holder is within = absurd (none-some count is)
set-in (Some (Text bytes)) count index holder is within = absurd (none-some count is)
set-in (Some (Items items)) count index holder is within = absurd (none-some count is)
set-in (Some (Vector items)) count index holder is within =
    let same : length items ≡ count = same_Some (length items) count is in
    ap Some (set-long index holder items (omega arith) ∙ ap (λ n. max n (suc index)) same)
set-in (Some (Table pairs default)) count index holder is within = absurd (none-some count is)

written-is : (s next : StoreValue) (n : ℕ) (cell : Cell) (holder : Holder) → written n cell holder s ≡ Some next
    → set_cell n cell holder s ≡ next
written-is s next n cell holder is = by (is_none (holder_at (value_at s n) cell) && is_full_with 0 (cell_units cell) s) is
  where
    by : (b : Bool) → cond {A = Option StoreValue} b None (Some (set_cell n cell holder s)) ≡ Some next → set_cell n cell holder s ≡ next
    by true e = absurd (none-some next e)
    by false e = same_Some (set_cell n cell holder s) next e

after-set : (s next : StoreValue) (n number count : ℕ) (holder : Holder) → IsVectorOf (value_at s n) count → 0 < number
    → number ≤ count + 1 → written n (Elem number) holder s ≡ Some next → IsVectorOf (value_at next n) (max count number)
after-set s next n zero count holder is from to was = absurd (omega arith)
after-set s next n (suc index) count holder is from to was =
    subst (λ (o : Option Value). IsVectorOf o (max count (suc index)))
    (sym (value_at-set_cell s n (Elem (suc index)) holder)
    ∙ ap (λ (t : StoreValue). value_at t n) (written-is s next n (Elem (suc index)) holder was))
    (set-in (value_at s n) count index holder is (omega arith))

taken-in : (o : Option Value) (count : ℕ) (number : ℕ) → IsVectorOf o count → IsVectorOf (option_map (without_cell (Elem number)) o) (count - 1)
taken-in None count number is = absurd (none-some count is)
taken-in (Some (Tads supers class props)) count number is = absurd (none-some count is)
taken-in (Some (Text bytes)) count number is = absurd (none-some count is)
taken-in (Some (Items items)) count number is = absurd (none-some count is)
taken-in (Some (Vector items)) count number is =
    let same : length items ≡ count = same_Some (length items) count is in
    let long = length-take-le (length items - 1) items (omega arith) in
    ap Some (omega (arith, long, same))
taken-in (Some (Table pairs default)) count number is = absurd (none-some count is)

after-taken : (s : StoreValue) (n count : ℕ) → IsVectorOf (value_at s n) count → 0 < count
    → IsVectorOf (value_at (taken n (Elem count) s) n) (count - 1)
after-taken s n count is some =
    subst (λ (o : Option Value). IsVectorOf o (count - 1))
    (sym (value_at-taken s n (Elem count) (vector-present (value_at s n) count count is some (omega arith))))
    (taken-in (value_at s n) count count is)

-- ---- a store can make the changes

pub can-set : (object first : ℕ) (items : List Holder) (rest : List Change) (count : ℕ) (s : StoreValue) → IsVectorOf (value_at s object) count
    → 0 < first → first ≤ count + 1 → first + length items ≤ 65536
    → ((t : StoreValue) → IsVectorOf (value_at t object) (max count (first + length items - 1)) → CanAllBeDone rest t)
    → CanAllBeDone (elements_set object first items ++ rest) s
can-set object first [] rest count s is from to few then =
    let same : count ≡ max count (first + 0 - 1) = omega arith in
    then s (subst (λ n. IsVectorOf (value_at s object) n) same is)
can-set object first (item ∷ items) rest count s is from to few then = (
  element-set (value_at s object) count first is from to (omega arith),
  if-some (written object (Elem first) item s) (CanAllBeDone (elements_set object (first + 1) items ++ rest))
      (λ next was. can-set object (first + 1) items rest (max count first) next (after-set s next object first count item is from to was)
      (omega arith) (omega arith) (omega arith)
      (λ t long. let same : max (max count first) (first + 1 + length items - 1) ≡ max count (first + suc (length items) - 1) = omega arith in
      then t (subst (λ n. IsVectorOf (value_at t object) n) same long))),
)

pub can-take : (object last count : ℕ) (s : StoreValue) → IsVectorOf (value_at s object) last → count ≤ last
    → CanAllBeDone (elements_taken object last count) s
can-take object last zero s is within = tt
can-take object last (suc count) s is within = (
  element-taken (value_at s object) last is (omega arith),
  can-take object (last - 1) count (taken object (Elem last) s) (after-taken s object last is (omega arith)) (omega arith),
)

-- ---- one change more

pub set-more : (object first : ℕ) (items : List Holder) (item : Holder) (number : ℕ) → number ≡ first + length items
    → elements_set object first items ++ Sets object (Elem number) (Some item) ∷ [] ≡ elements_set object first (items ++ item ∷ [])
set-more object first [] item number is =
    let same : number ≡ first = omega (arith, is) in ap (λ n. Sets object (Elem n) (Some item) ∷ []) same
set-more object first (x ∷ items) item number is =
    ap (λ (c : List Change). Sets object (Elem first) (Some x) ∷ c) (set-more object (first + 1) items item number (omega (arith, is)))

-- a nil more
pub nil-more : (object first count : ℕ)
    → elements_set object first (replicate count Nil) ++ Sets object (Elem (first + count)) (Some Nil) ∷ []
    ≡ elements_set object first (replicate (count + 1) Nil)
nil-more object first count =
    let long = length-replicate count Nil in
    set-more object first (replicate count Nil) Nil (first + count) (omega (arith, long))
    ∙ ap (elements_set object first) (replicate_more count Nil)

-- an element more that is set to the one after it
pub moved-more : (object first number count : ℕ) (value : Option Value) (next : Option Holder) → IsVectorOf value count
    → next ≡ holder_at value (Elem (number + 1)) → first ≤ number → number < count
    → elements_set object first (take (number - first) (drop first (vector_items value))) ++ Sets object (Elem number) next ∷ []
    ≡ elements_set object first (take (number + 1 - first) (drop first (vector_items value)))
moved-more object first number count value next is here from to =
    let items = vector_items value in
    let rest = drop first items in
    let at = number - first in
    let item = get_or items number Nil in
    let long = vector-length value count is in
    let left = length-drop first items in
    let some : next ≡ Some item = here ∙ vector-element value count number is ∙ slice_get-get_or items number Nil (omega (arith, long, to)) in
    let place : first + at ≡ number = omega arith in
    let same : get_or rest at Nil ≡ item = get_or-drop first items at Nil ∙ ap (λ n. get_or items n Nil) place in
    let more : take (at + 1) rest ≡ take at rest ++ item ∷ [] =
    take_more rest at Nil (omega (arith, left, long, to, from)) ∙ ap (λ x. take at rest ++ x ∷ []) same in
    let short = length-take-le at rest (omega (arith, left, long, to, from)) in
    let step : at + 1 ≡ number + 1 - first = omega arith in
    ap (λ (o : Option Holder). elements_set object first (take at rest) ++ Sets object (Elem number) o ∷ []) some
    ∙ set-more object first (take at rest) item number (omega (arith, short, place))
    ∙ ap (elements_set object first) (sym more ∙ ap (λ n. take n rest) step)

pub take-more : (object last count number : ℕ) → number + count ≡ last
    → elements_taken object last count ++ Sets object (Elem number) None ∷ [] ≡ elements_taken object last (suc count)
take-more object last zero number is =
    let same : number ≡ last = omega (arith, is) in ap (λ n. Sets object (Elem n) None ∷ []) same
take-more object last (suc count) number is =
    ap (λ (c : List Change). Sets object (Elem last) None ∷ c) (take-more object (last - 1) count number (omega (arith, is)))

pub length-set_all : (object first : ℕ) (items : List Holder) → length (elements_set object first items) ≡ length items
length-set_all object first [] = refl
length-set_all object first (item ∷ items) = ap suc (length-set_all object (first + 1) items)

pub length-taken : (object last count : ℕ) → length (elements_taken object last count) ≡ count
length-taken object last zero = refl
length-taken object last (suc count) = ap suc (length-taken object (last - 1) count)

-- ---- the changes of methods

some-length : (object first : ℕ) (items : List Holder) (change : Change) → length (elements_set object first items ++ change ∷ []) ≡ length items + 1
some-length object first items change =
    length-append (elements_set object first items) (change ∷ []) ∙ ap (λ n. n + 1) (length-set_all object first items)

-- those by which a vector gets a length
pub resizing : (object long wanted : ℕ) (s : StoreValue) → IsVectorOf (value_at s object) long → long ≤ 65535 → wanted ≤ 65535
    → CanAllBeDone (length_changes object long wanted) s × (length (length_changes object long wanted) < 2 ^ 17)
resizing object long wanted s is few fits = by (nat_lt long wanted) refl
  where
    nils : List Change
    nils = elements_set object (long + 1) (replicate (wanted - long) Nil)

    by : (b : Bool) → nat_lt long wanted ≡ b
        → CanAllBeDone (cond b nils (elements_taken object long (long - wanted))) s
        × (length (cond b nils (elements_taken object long (long - wanted))) < 2 ^ 17)
    by true more =
        let less = ltb-true long wanted more in
        let count = length-replicate (wanted - long) Nil in
        let can = can-set object (long + 1) (replicate (wanted - long) Nil) [] long s is (omega arith) (omega arith) (omega (arith, count, less))
        (λ t _. tt) in
        let all = length-set_all object (long + 1) (replicate (wanted - long) Nil) in
        (subst (λ (x : List Change). CanAllBeDone x s) (append-nil nils) can, omega (arith, all, count))
    by false past =
        let all = length-taken object long (long - wanted) in
        (can-take object long (long - wanted) s is (omega arith), omega (arith, all))

-- those by which an element is removed
pub removing : (object long index : ℕ) (items : List Holder) (s : StoreValue) → IsVectorOf (value_at s object) long → length items ≡ long
    → long ≤ 65535 → index < long
    → CanAllBeDone (removing_changes object items index) s × (length (removing_changes object items index) < 2 ^ 17)
removing object long index items s is same few within =
    let rest = drop (index + 1) items in
    let last = Sets object (Elem (length items)) None in
    let left = length-drop (index + 1) items in
    let all = some-length object (index + 1) rest last in (
      can-set object (index + 1) rest (last ∷ []) long s is (omega arith) (omega arith) (omega (arith, left, same, within))
          (λ t long_is. let count : max long (index + 1 + length rest - 1) ≡ length items = omega (arith, left, same, within) in
          let now : IsVectorOf (value_at t object) (length items) = subst (λ n. IsVectorOf (value_at t object) n) count long_is in
          (element-taken (value_at t object) (length items) now (omega (arith, same, within)), tt)),
      omega (arith, all, left, same),
    )
