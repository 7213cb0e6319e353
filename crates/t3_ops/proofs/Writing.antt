-- What elements that are written leave.
use Rattle.std.proofs.Common.{◌≡◌, ℕ, zero, suc, ◌+◌, ◌-◌, ◌<◌, ◌≤◌, Bool, true, false, cond, List, [], ◌∷◌, ◌++◌, length, length-append, take, Option, Some, None, refl, sym, ap, subst, ◌∙◌, arith}
use Rattle.std.specs.Prelude.{IsSome, is_none, not, ◌&&◌, option_map, nat_lt}
use Rattle.std.specs.List.{slice_set}
use Rattle.std.proofs.lemmas.Bool.{false≢true}
use Rattle.std.proofs.lemmas.Option.{same_Some, none-some}
use Rattle.t3_holder.specs.declared.holder.Holder.{Holder}
use Rattle.t3_holder.specs.declared.holder.Holder.TheVariants.{Nil}
use Rattle.t3_undo.specs.declared.cell.Cell.{Cell}
use Rattle.t3_undo.specs.declared.cell.Cell.TheVariants.{Elem}
use Rattle.t3_store.specs.Value.{Value, Tads, Text, Items, Vector, Table, with_cell, holder_at}
use Rattle.t3_lists.specs.Items.{set_item}
use Rattle.t3_undo.specs.Units.{cell_units}
use Rattle.t3_store.specs.Store.{StoreValue, value_at, set_cell, written, is_full_with}
use Rattle.t3_store.proofs.SetCells.{value_at-set_cell}
use Rattle.t3_ops.specs.Inner.Outcomes.{IsWritten}
use Rattle.t3_ops.specs.Elements.{IsVectorOf, IsFrontWritten, after_writes, write_and_then, element_writes, nil_writes}

-- ---- the writes by which an element is set

pub writes-first : (count index : ℕ) (value : Holder) → count < index - 1
    → element_writes count index value ≡ (Elem (count + 1), Nil) ∷ element_writes (count + 1) index value
unfolding element_writes
writes-first count index value below =
    let more : index - (count + 1) ≡ suc (index - (count + 1 + 1)) = omega arith in
    ap (λ n. nil_writes n (count + 1) ++ (Elem index, value) ∷ []) more

pub writes-last : (count index : ℕ) (value : Holder) → index - 1 ≤ count → element_writes count index value ≡ (Elem index, value) ∷ []
unfolding element_writes
writes-last count index value above =
    let none : index - (count + 1) ≡ 0 = omega arith in
    ap (λ n. nil_writes n (count + 1) ++ (Elem index, value) ∷ []) none

pub after-some : (number : ℕ) (cell : Cell) (value : Holder) (writes : List (Cell × Holder)) (s next : StoreValue)
    → written number cell value s ≡ Some next → after_writes number ((cell, value) ∷ writes) s ≡ after_writes number writes next
unfolding after_writes
after-some number cell value writes s next is = ap (λ o. write_and_then o s (λ next. after_writes number writes next)) is

pub after-none : (number : ℕ) (cell : Cell) (value : Holder) (writes : List (Cell × Holder)) (s : StoreValue)
    → written number cell value s ≡ None → after_writes number ((cell, value) ∷ writes) s ≡ (false, s)
unfolding after_writes
after-none number cell value writes s is = ap (λ o. write_and_then o s (λ next. after_writes number writes next)) is

pub after-end : (number : ℕ) (s : StoreValue) → after_writes number [] s ≡ (true, s)
unfolding after_writes
after-end number s = refl

-- where there was room for each of the writes before, those after them go on from the store that they leave
writes-then : (number : ℕ) (writes more : List (Cell × Holder)) (s t : StoreValue) → after_writes number writes s ≡ (true, t)
    → after_writes number (writes ++ more) s ≡ after_writes number more t
unfolding after_writes
writes-then number [] more s t is = ap (λ (r : Bool × StoreValue). after_writes number more r.1) is
writes-then number (write ∷ writes) more s t is =
    let on : (next : StoreValue) → after_writes number writes next ≡ (true, t)
    → after_writes number (writes ++ more) next ≡ after_writes number more t = λ next. writes-then number writes more next t in
    let by : (o : Option StoreValue) → write_and_then o s (λ next. after_writes number writes next) ≡ (true, t)
    → write_and_then o s (λ next. after_writes number (writes ++ more) next) ≡ after_writes number more t
    = λ o. elim o as (λ o. write_and_then o s (λ next. after_writes number writes next) ≡ (true, t)
    → write_and_then o s (λ next. after_writes number (writes ++ more) next) ≡ after_writes number more t) [
      | None ↦ λ e. absurd (false≢true (ap (λ (r : Bool × StoreValue). r.0) e))
      | Some next ↦ λ e. on next e
    ] in by (written number write.0 write.1 s) is

nils-more : (count first : ℕ) → nil_writes count first ++ (Elem (first + count), Nil) ∷ [] ≡ nil_writes (suc count) first
nils-more zero first =
    let same : first + 0 ≡ first = omega arith in
    ap (λ n. (Elem n, Nil) ∷ []) same
nils-more (suc count) first =
    let same : first + suc count ≡ first + 1 + count = omega arith in
    ap (λ n. (Elem first, Nil) ∷ nil_writes count (first + 1) ++ (Elem n, Nil) ∷ []) same
    ∙ ap (λ w. (Elem first, Nil) ∷ w) (nils-more count (first + 1))

-- one more element is nil
pub nils-next : (number count first : ℕ) (s t next : StoreValue) → after_writes number (nil_writes count first) s ≡ (true, t)
    → written number (Elem (first + count)) Nil t ≡ Some next → after_writes number (nil_writes (suc count) first) s ≡ (true, next)
nils-next number count first s t next is some =
    ap (λ (w : List (Cell × Holder)). after_writes number w s) (sym (nils-more count first))
    ∙ writes-then number (nil_writes count first) ((Elem (first + count), Nil) ∷ []) s t is
    ∙ after-some number (Elem (first + count)) Nil [] t next some ∙ after-end number next

take-nils : (made count first : ℕ) (more : List (Cell × Holder)) → made ≤ count
    → take made (nil_writes count first ++ more) ≡ nil_writes made first
take-nils zero count first more within = refl
take-nils (suc made) zero first more within = absurd (omega arith)
take-nils (suc made) (suc count) first more within = ap (λ w. (Elem first, Nil) ∷ w) (take-nils made count (first + 1) more (omega arith))

long-nils : (count first : ℕ) (write : Cell × Holder) → length (nil_writes count first ++ write ∷ []) ≡ count + 1
long-nils zero first write = refl
long-nils (suc count) first write =
    let one : suc (count + 1) ≡ suc count + 1 = omega arith in
    ap suc (long-nils count (first + 1) write) ∙ one

-- elements that were set to nil are the first of the writes
pub front-written : (number made count index : ℕ) (value : Holder) (s t : StoreValue) → made ≤ index - (count + 1)
    → after_writes number (nil_writes made (count + 1)) s ≡ (true, t)
    → IsFrontWritten number (element_writes count index value) s t
unfolding element_writes
front-written number made count index value s t within is =
    let missing = index - (count + 1) in
    let last : List (Cell × Holder) = (Elem index, value) ∷ [] in
    let long = long-nils missing (count + 1) (Elem index, value) in
    (made, omega arith, ap (λ (w : List (Cell × Holder)). after_writes number w s) (take-nils made missing (count + 1) last within) ∙ is)

-- the last write, with what it answers
pub last-write : (number : ℕ) (cell : Cell) (value : Holder) (s next : StoreValue) (all : Bool)
    → IsWritten s (written number cell value s) all next → after_writes number ((cell, value) ∷ []) s ≡ (all, next)
last-write number cell value s next true is = after-some number cell value [] s next is ∙ after-end number next
last-write number cell value s next false is = after-none number cell value [] s is.0 ∙ ap (λ (n : StoreValue). (false, n)) (sym is.1)

-- a present cell is set, and there is room for that
pub written-present : (s : StoreValue) (n : ℕ) (cell : Cell) (holder : Holder) → IsSome (holder_at (value_at s n) cell)
    → written n cell holder s ≡ Some (set_cell n cell holder s)
written-present s n cell holder is =
    ap (λ b. cond (not b && is_full_with 0 (cell_units cell) s) None (Some (set_cell n cell holder s))) is

-- ---- a vector while it grows

grown : (count : ℕ) (holder : Holder) (items : List Holder) → length items ≡ count → length (set_item count holder items) ≡ count + 1
grown count holder items long =
    let same : nat_lt count (length items) ≡ false = grind arith in
    let more = length-append items (holder ∷ []) in
    ap (λ b. length (cond b (slice_set items count holder) (items ++ holder ∷ []))) same ∙ omega arith

grows : (value : Option Value) (count : ℕ) (holder : Holder) → IsVectorOf value count
    → IsVectorOf (option_map (with_cell (Elem (suc count)) holder) value) (count + 1)
grows None count holder is = absurd (none-some count is)
grows (Some (Tads supers class props)) count holder is = absurd (none-some count is)
grows (Some (Text bytes)) count holder is = absurd (none-some count is)
grows (Some (Items items)) count holder is = absurd (none-some count is)
grows (Some (Vector items)) count holder is = ap Some (grown count holder items (same_Some (length items) count is))
grows (Some (Table pairs default)) count holder is = absurd (none-some count is)

written-set : (s next : StoreValue) (n : ℕ) (cell : Cell) (holder : Holder) → written n cell holder s ≡ Some next
    → set_cell n cell holder s ≡ next
written-set s next n cell holder is =
    let set : StoreValue = set_cell n cell holder s in
    let by : (b : Bool) → ◌≡◌ {A = Option StoreValue} (cond b None (Some set)) (Some next) → set ≡ next
    = λ b. elim b as (λ b. ◌≡◌ {A = Option StoreValue} (cond b None (Some set)) (Some next) → set ≡ next) [
      | true ↦ λ e. absurd (none-some next e)
      | false ↦ λ e. same_Some set next e
    ] in by (is_none (holder_at (value_at s n) cell) && is_full_with 0 (cell_units cell) s) is

-- a vector has one element more, once the one behind its last is written
pub vector-next : (s next : StoreValue) (n count : ℕ) (holder : Holder) → IsVectorOf (value_at s n) count
    → written n (Elem (count + 1)) holder s ≡ Some next → IsVectorOf (value_at next n) (count + 1)
vector-next s next n count holder is was =
    let number : count + 1 ≡ suc count = omega arith in
    let now : set_cell n (Elem (suc count)) holder s ≡ next =
    ap (λ k. set_cell n (Elem k) holder s) (sym number) ∙ written-set s next n (Elem (count + 1)) holder was in
    subst (λ (o : Option Value). IsVectorOf o (count + 1))
    (sym (value_at-set_cell s n (Elem (suc count)) holder) ∙ ap (λ (t : StoreValue). value_at t n) now)
    (grows (value_at s n) count holder is)
