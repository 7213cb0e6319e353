-- What is present can be set: there is always room for that.
use Rattle.std.proofs.Common.{◌≡◌, ℕ, zero, suc, ◌+◌, ◌-◌, ◌<◌, ◌≤◌, ◌==◌, ◌&&◌, ◌||◌, Bool, true, false, cond, List, [], ◌∷◌, ◌++◌, length, Option, Some, None, Result, Ok, Err, is_some, refl, ap, subst, ◌∙◌, arith, rules}
use Rattle.std.specs.Prelude.{IsTrue, not, option_and_then}
use Rattle.std.specs.List.{slice_get}
use Rattle.std.proofs.lemmas.Option.{none-some, same_Some}
use Rattle.t3_holder.specs.declared.holder.Holder.{Holder}
use Rattle.t3_undo.specs.declared.cell.Cell.{Cell}
use Rattle.t3_undo.specs.declared.cell.Cell.TheVariants.{Elem}
use Rattle.t3_store.specs.Value.{Value, Tads, Text, Items, Vector, Table, holder_at, length_of}
use Rattle.t3_undo.specs.Units.{cell_units}
use Rattle.t3_store.specs.Store.{StoreValue, value_at, set_cell, written, is_full_with}
use Rattle.t3_ops.specs.declared.fault.Fault.{Fault}
use Rattle.t3_ops.specs.declared.builtins.PureBuiltin.{PureBuiltin}
use Rattle.t3_ops.specs.Builtins.{pure_at}
use Rattle.t3_ops.specs.Elements.{IsVectorOf, after_writes, write_and_then, element_writes, nil_writes}
use Rattle.t3_load.specs.declared.sets.SetKind.TheVariants.{Gen}
use Rattle.t3_object_instructions.specs.Steady.{is_savepoint_call, has_element_at}

-- ---- an element of a vector

some-within : (items : List Holder) (index : ℕ) → is_some (slice_get items index) ≡ true → index < length items
some-within [] zero is = absurd cc
some-within [] (suc index) is = absurd cc
some-within (item ∷ items) zero is = omega arith
some-within (item ∷ items) (suc index) is = let less = some-within items index is in omega (arith, less)

-- its index is within the length
pub element-within : (value : Option Value) (count index : ℕ) → IsVectorOf value count → is_some (holder_at value (Elem index)) ≡ true
    → index ≤ count
element-within None count index is there = absurd (none-some count is)
element-within (Some (Tads supers class props)) count index is there = absurd (none-some count is)
element-within (Some (Text bytes)) count index is there = absurd (none-some count is)
element-within (Some (Items items)) count index is there = absurd (none-some count is)
element-within (Some (Vector items)) count zero is there = omega arith
element-within (Some (Vector items)) count (suc index) is there =
    let less = some-within items index there in
    let long : length items ≡ count = same_Some (length items) count is in
    omega (arith, less, long)
element-within (Some (Table pairs default)) count index is there = absurd (none-some count is)

-- what is no vector has none
no-element : (value : Option Value) (index : ℕ) → option_and_then length_of value ≡ None → is_some (holder_at value (Elem index)) ≡ true → ⊥
no-element None index short there = absurd cc
no-element (Some (Tads supers class props)) index short there = absurd cc
no-element (Some (Text bytes)) index short there = absurd cc
no-element (Some (Items items)) index short there = absurd cc
no-element (Some (Vector items)) index short there = absurd cc
no-element (Some (Table pairs default)) index short there = absurd cc

pub no-element-at : (value : Option Value) (index : Result ℕ Fault) → option_and_then length_of value ≡ None
    → has_element_at value index ≡ true → ⊥
no-element-at value (Ok index) short there = no-element value index short there
no-element-at value (Err fault) short there = absurd cc

one-write : (count index : ℕ) (value : Holder) → index ≤ count → element_writes count index value ≡ (Elem index, value) ∷ []
unfolding element_writes
one-write count index value within =
    let none : index - (count + 1) ≡ 0 = omega arith in
    ap (λ n. nil_writes n (count + 1) ++ (Elem index, value) ∷ []) none

written-present : (s : StoreValue) (object : ℕ) (cell : Cell) (value : Holder) → is_some (holder_at (value_at s object) cell) ≡ true
    → written object cell value s ≡ Some (set_cell object cell value s)
written-present s object cell value there =
    ap (λ b. cond (not b && is_full_with 0 (cell_units cell) s) None (Some (set_cell object cell value s))) there

last-write : (object : ℕ) (cell : Cell) (value : Holder) (s : StoreValue) → is_some (holder_at (value_at s object) cell) ≡ true
    → (after_writes object ((cell, value) ∷ []) s).0 ≡ true
unfolding after_writes
last-write object cell value s there =
    ap (λ next. (write_and_then next s (λ t. after_writes object [] t)).0) (written-present s object cell value there)

-- an element that is present is set
pub element-set : (s : StoreValue) (object count index : ℕ) (value : Holder) → IsVectorOf (value_at s object) count
    → is_some (holder_at (value_at s object) (Elem index)) ≡ true → (after_writes object (element_writes count index value) s).0 ≡ true
element-set s object count index value vector there =
    ap (λ writes. (after_writes object writes s).0) (one-write count index value (element-within (value_at s object) count index vector there))
    ∙ last-write object (Elem index) value s there

-- ---- savepoint() and undo()

-- they make no object
pub not-pure : (builtin : PureBuiltin) (index count : ℕ) → pure_at index ≡ Some builtin → IsTrue (is_savepoint_call (Some Gen) index count) → ⊥
not-pure builtin index count is calls = by (index == 13) (index == 14) (count == 0) (λ same. search rules) (λ same. search rules) calls
  where
    by : (saves undoes bare : Bool) → (saves ≡ true → index ≡ 13) → (undoes ≡ true → index ≡ 14) → (saves && bare) || (undoes && bare) ≡ true → ⊥
    by true undoes bare saved back calls = none-some builtin (subst (λ n. pure_at n ≡ Some builtin) (saved refl) is)
    by false true bare saved back calls = none-some builtin (subst (λ n. pure_at n ≡ Some builtin) (back refl) is)
    by false false bare saved back calls = absurd cc
