-- What a caller knows of an object, by its kind and its length, meets the conditions of the calls. Other crates may use these.
use Rattle.std.proofs.Common.{◌≡◌, ◌∙◌, ap, refl, ℕ, zero, suc, ◌+◌, ◌<◌, ◌≤◌, ◌==◌, Bool, true, false, ◌&&◌, ◌||◌, length, Option, None, Some, IsTrue, IsSome, nat_lt, lt-ltb, ltb-false, arith}
use Rattle.std.proofs.lemmas.Bool.{eqb-false}
use Rattle.std.specs.Option.{option_map, option_and_then}
use Rattle.t3_holder.specs.declared.holder.Holder.{Holder}
use Rattle.t3_undo.specs.declared.cell.Cell.TheVariants as cells
use Rattle.t3_undo.specs.declared.key.Key.{Key}
use Rattle.t3_store.specs.Value.{Value, Tads, Text, Items, Vector, Table, kind_of, length_of, entries_in, can_have_at, can_lose_at, can_be_written}
use Rattle.t3_lists.specs.Items.{is_element_within}
use Rattle.t3_store.specs.declared.kind.Kind.TheVariants as kinds

-- a property of a tads-object can be set and taken away
pub prop-written : (value : Option Holder) (o : Option Value) (number : ℕ) → option_map kind_of o ≡ Some kinds.Tads
    → IsTrue (can_be_written value o (cells.Prop number))
prop-written value None number is = cc
prop-written None (Some (Tads supers class props)) number is = refl
prop-written (Some holder) (Some (Tads supers class props)) number is = refl
prop-written value (Some (Text bytes)) number is = cc
prop-written value (Some (Items items)) number is = cc
prop-written value (Some (Vector items)) number is = cc
prop-written value (Some (Table pairs default)) number is = cc

-- so can an entry of a table
pub key-written : (value : Option Holder) (o : Option Value) (key : Key) → option_map kind_of o ≡ Some kinds.Table
    → IsTrue (can_be_written value o (cells.Key key))
key-written value None key is = cc
key-written None (Some (Table pairs default)) key is = refl
key-written (Some holder) (Some (Table pairs default)) key is = refl
key-written value (Some (Tads supers class props)) key is = cc
key-written value (Some (Text bytes)) key is = cc
key-written value (Some (Items items)) key is = cc
key-written value (Some (Vector items)) key is = cc

-- which has entries
pub table-entries : (o : Option Value) → option_map kind_of o ≡ Some kinds.Table → IsSome (option_and_then entries_in o)
table-entries None is = cc
table-entries (Some (Table pairs default)) is = refl
table-entries (Some (Tads supers class props)) is = cc
table-entries (Some (Text bytes)) is = cc
table-entries (Some (Items items)) is = cc
table-entries (Some (Vector items)) is = cc

-- an element of a vector can be set up to one behind the last, and to number 65,535
within : (number count : ℕ) → 0 < number → number ≤ count + 1 → number ≤ 65535 → is_element_within number count ≡ true
within zero count from to most = absurd (omega arith)
within (suc index) count from to most = by (nat_lt index count) refl (index == count) refl
  where
    by : (a : Bool) → nat_lt index count ≡ a → (b : Bool) → (index == count) ≡ b → (a || (b && nat_lt index 65535)) ≡ true
    by true e b f = refl
    by false e true f = lt-ltb index 65535 (omega arith)
    by false e false f = let apart = eqb-false index count f in let past = ltb-false index count e in absurd (omega arith)

pub element-set : (o : Option Value) (count number : ℕ) → option_and_then length_of o ≡ Some count → 0 < number → number ≤ count + 1
    → number ≤ 65535 → IsTrue (can_have_at o (cells.Elem number))
element-set None count number is from to most = cc
element-set (Some (Vector items)) count number is from to most =
    let same : length items ≡ count = cc in within number (length items) from (omega arith) most
element-set (Some (Tads supers class props)) count number is from to most = cc
element-set (Some (Text bytes)) count number is from to most = cc
element-set (Some (Items items)) count number is from to most = cc
element-set (Some (Table pairs default)) count number is from to most = cc

-- and the last one can be taken away
pub element-taken : (o : Option Value) (count : ℕ) → option_and_then length_of o ≡ Some count → 0 < count
    → IsTrue (can_lose_at o (cells.Elem count))
element-taken None count is from = cc
element-taken (Some (Vector items)) count is from =
    let same : length items ≡ count = cc in
    ap (λ n. nat_lt 0 count && (count == n)) same ∙ ap (λ b. b && (count == count)) (lt-ltb 0 count from) ∙ by (count == count) refl
  where
    by : (b : Bool) → (count == count) ≡ b → b ≡ true
    by true e = refl
    by false e = absurd (eqb-false count count e refl)
element-taken (Some (Tads supers class props)) count is from = cc
element-taken (Some (Text bytes)) count is from = cc
element-taken (Some (Items items)) count is from = cc
element-taken (Some (Table pairs default)) count is from = cc
