-- How many units a table's entries count, and tables that have just these entries. Other crates may use these.
use Rattle.std.proofs.Common.{◌≡◌, ◌∙◌, ap, sym, subst, refl, ℕ, suc, ◌+◌, ◌-◌, ◌^◌, ◌<◌, ◌≤◌, Bool, true, false, cond, not, ◌&&◌, List, [], ◌∷◌, ◌++◌, length, map, Option, Some, IsTrue, IsSome, is_some, true≢false, lt-ltb, arith}
use Rattle.std.specs.Ordering.{eq_by_cmp}
use Rattle.std.specs.Cmp.{Equal-is}
use Rattle.std.specs.List.{AllByRecursion, IsDistinct, sum_by}
use Rattle.std.proofs.lemmas.List.Sums.{sum_by-cons, sum_by-append}
use Rattle.std.specs.FinMap.{get, get-empty}
use Rattle.t3_holder.specs.declared.holder.Holder.{Holder}
use Rattle.t3_holder.specs.declared.holder.Holder.TheVariants as holders
use Rattle.t3_undo.specs.Cell.{cell_cmp, cell_cmp_total}
use Rattle.t3_undo.specs.Content.{Parts, shown, is_form}
use Rattle.t3_undo.specs.Present.{Present}
use Rattle.t3_undo.specs.Key.{key_cmp, key_cmp-IsAntisymmetric}
use Rattle.t3_undo.specs.Slots as slots
use Rattle.t3_undo.specs.Units.{key_units}
use Rattle.t3_undo.specs.declared.cell.Cell.{Cell}
use Rattle.t3_undo.specs.declared.cell.Cell.TheVariants as cells
use Rattle.t3_undo.specs.declared.content.Content.TheVariants.{Slot}
use Rattle.t3_undo.specs.declared.key.Key.{Key}
use Rattle.t3_undo.specs.declared.key.Key.TheVariants as keys
use Rattle.t3_undo.proofs.Maps.{get-set_at}
use Rattle.t3_undo.proofs.SlotLists.{same-is}
use Rattle.t3_tables.specs.Order.{with_value}
use Rattle.t3_tables.specs.Entries.{IsWholeTable, value_or_nil, default_of, value_under, set_entry, without_key}
use Rattle.t3_tables.specs.Table.{TableValue, new_table, parts_of, entries_of, is_cell, numbered, filled, with_default}
use Rattle.t3_tables.specs.declared.pair.Pair.{Pair}
use Rattle.t3_tables.proofs.OrderedEntries.{same_key}
use Rattle.t3_tables.proofs.Defaults.{get-default, get-other}
use Rattle.t3_tables.proofs.TableLists.{entries-filled}

-- how many units entries count
abbrev Units : List Pair → ℕ
Units pairs = sum_by (λ pair. key_units pair.key) pairs

same-units : (key : Key) (value : Holder) (pairs : List Pair) → Units (map (with_value key value) pairs) ≡ Units pairs
same-units key value [] = refl
same-units key value (pair ∷ pairs) =
    let one : key_units (with_value key value pair).key ≡ key_units pair.key = by (same_key key pair.key) in
    let rest = same-units key value pairs in
    let new = sum_by-cons (λ (pair : Pair). key_units pair.key) (with_value key value pair) (map (with_value key value) pairs) in
    let old = sum_by-cons (λ (pair : Pair). key_units pair.key) pair pairs in
    omega (arith, one, rest, new, old)
  where
    by : (b : Bool) → key_units (cond b (record { key = pair.key; value = value }) pair).key ≡ key_units pair.key
    by true = refl
    by false = refl

one-more : (key : Key) (value : Holder) (pairs : List Pair) → Units (pairs ++ record { key = key; value = value } ∷ []) ≡ Units pairs + key_units key
one-more key value pairs =
    let all = sum_by-append (λ (pair : Pair). key_units pair.key) pairs (record { key = key; value = value } ∷ []) in
    let own = sum_by-cons (λ (pair : Pair). key_units pair.key) (record { key = key; value = value }) [] in
    let none : Units [] ≡ 0 = refl in
    omega (arith, all, own, none)

pub units-entry : (key : Key) (value : Holder) (pairs : List Pair)
    → Units (set_entry key value pairs) ≡ cond (is_some (value_under key pairs)) (Units pairs) (Units pairs + key_units key)
units-entry key value pairs = by (is_some (value_under key pairs))
  where
    by : (b : Bool) → Units (cond b (map (with_value key value) pairs) (pairs ++ record { key = key; value = value } ∷ []))
        ≡ cond b (Units pairs) (Units pairs + key_units key)
    by true = same-units key value pairs
    by false = one-more key value pairs

unfoldable pub HasDistinctKeys : List Pair → Type 0
HasDistinctKeys pairs = IsDistinct same_key (map (λ pair. pair.key) pairs)

-- where the key isn't among the others, all stay
others-all : (key : Key) (pairs : List Pair) → AllByRecursion (λ other. same_key key other ≡ false) (map (λ pair. pair.key) pairs)
    → without_key key pairs ≡ pairs
others-all key [] all = refl
others-all key (pair ∷ pairs) all =
    ap (λ b. cond (not b) (pair ∷ without_key key pairs) (without_key key pairs)) all.0 ∙ ap (λ xs. pair ∷ xs) (others-all key pairs all.1)

key-is : (key other : Key) → same_key key other ≡ true → key ≡ other
key-is key other e = key_cmp-IsAntisymmetric key other ((Equal-is (key_cmp key other)).0 e)

pub units-without : (key : Key) (pairs : List Pair) → HasDistinctKeys pairs → IsSome (value_under key pairs)
    → Units (without_key key pairs) + key_units key ≡ Units pairs
unfolding HasDistinctKeys IsDistinct
units-without key [] apart some = absurd (true≢false (sym some))
units-without key (pair ∷ pairs) apart some = by (units-without key pairs apart.1) (same_key key pair.key) refl some
  where
    by : (IsSome (value_under key pairs) → Units (without_key key pairs) + key_units key ≡ Units pairs) → (b : Bool)
        → same_key key pair.key ≡ b → IsSome (cond b (Some pair.value) (value_under key pairs))
        → Units (cond (not b) (pair ∷ without_key key pairs) (without_key key pairs)) + key_units key ≡ Units (pair ∷ pairs)
    by rest true is some =
        let same = key-is key pair.key is in
        let P : Key → Type 0 = λ k. AllByRecursion (λ other. same_key k other ≡ false) (map (λ (p : Pair). p.key) pairs) in
        let others : Units (without_key key pairs) ≡ Units pairs = ap Units (others-all key pairs (subst P (sym same) apart.0)) in
        let own : key_units key ≡ key_units pair.key = ap key_units same in
        let all = sum_by-cons (λ (pair : Pair). key_units pair.key) pair pairs in
        omega (arith, others, own, all)
    by rest false is some =
        let less = rest some in
        let new = sum_by-cons (λ (pair : Pair). key_units pair.key) pair (without_key key pairs) in
        let old = sum_by-cons (λ (pair : Pair). key_units pair.key) pair pairs in
        omega (arith, less, new, old)

-- a table that has just these entries
form-numbered : (tick : ℕ) (pairs : List Pair) (cell : Cell) (present : Present) → tick + length pairs < 2 ^ 64 - 1
    → get (slots.parts_of (numbered tick pairs)) cell ≡ Some present → IsTrue (is_cell cell && is_form cell (Some present))
unfolding slots.parts_of
form-numbered tick [] cell present few e = absurd (true≢false (ap is_some (sym e ∙ get-empty cell_cmp cell)))
form-numbered tick (pair ∷ pairs) cell present few e =
    by (eq_by_cmp cell_cmp cell (cells.Key pair.key)) refl
    (sym (get-set_at cell_cmp_total (slots.parts_of (numbered (suc tick) pairs)) (cells.Key pair.key) (shown (Slot tick pair.value)) cell) ∙ e)
    (form-numbered (suc tick) pairs cell present (omega arith))
  where
    by : (b : Bool) → eq_by_cmp cell_cmp cell (cells.Key pair.key) ≡ b
        → cond b (shown (Slot tick pair.value)) (get (slots.parts_of (numbered (suc tick) pairs)) cell) ≡ Some present
        → (get (slots.parts_of (numbered (suc tick) pairs)) cell ≡ Some present → IsTrue (is_cell cell && is_form cell (Some present)))
        → IsTrue (is_cell cell && is_form cell (Some present))
    by true t e rest =
        let P : Cell → Type 0 = λ d. IsTrue (is_cell d && is_form d (Some present)) in
        let Q : Option Present → Type 0 = λ p. IsTrue (is_form (cells.Key pair.key) p) in
        subst P (sym (same-is cell (cells.Key pair.key) t))
        (subst Q e (lt-ltb tick (2 ^ 64 - 1) (omega arith)))
    by false t e rest = rest e

pub whole-filled : (default : Holder) (pairs : List Pair) → 1 + length pairs < 2 ^ 64 - 1 → IsWholeTable (filled default pairs)
whole-filled default pairs few = record {
  only = λ cell present e. by cell present (eq_by_cmp cell_cmp cell cells.Default) refl e;
  default = ap is_some (get-default (slots.parts_of (numbered 1 pairs)) default);
}
  where
    by : (cell : Cell) (present : Present) (b : Bool) → eq_by_cmp cell_cmp cell cells.Default ≡ b → get (filled default pairs) cell ≡ Some present
        → IsTrue (is_cell cell && is_form cell (Some present))
    by cell present true t e =
        let P : Cell → Type 0 = λ d. get (filled default pairs) d ≡ Some present in
        let Q : Cell → Type 0 = λ d. IsTrue (is_cell d && is_form d (Some present)) in
        let R : Option Present → Type 0 = λ p. IsTrue (is_form cells.Default p) in
        let same = same-is cell cells.Default t in
        subst Q (sym same) (subst R (sym (get-default (slots.parts_of (numbered 1 pairs)) default) ∙ subst P same e) refl)
    by cell present false t e =
        form-numbered 1 pairs cell present few (sym (get-other (slots.parts_of (numbered 1 pairs)) default cell t) ∙ e)

-- the default of a table
pub default-of : (parts : Parts) (default : Holder) → default_of (with_default parts default) ≡ default
default-of parts default = ap value_or_nil (get-default parts default)

-- a new table
new-parts : parts_of new_table ≡ filled holders.Nil []
unfolding slots.parts_of
new-parts = refl

pub entries-new : entries_of (parts_of new_table) ≡ []
unfolding IsDistinct
entries-new = ap entries_of new-parts ∙ entries-filled holders.Nil [] tt

pub default-new : default_of (parts_of new_table) ≡ holders.Nil
default-new = ap default_of new-parts ∙ default-of (slots.parts_of (numbered 1 [])) holders.Nil

pub whole-new : IsWholeTable (parts_of new_table)
whole-new = subst IsWholeTable (sym new-parts) (whole-filled holders.Nil [] (omega arith))

-- each entry counts
pub least-units : (key : Key) → 1 ≤ key_units key
least-units keys.Nil = omega arith
least-units keys.True = omega arith
least-units (keys.Int n) = omega arith
least-units (keys.Enum n) = omega arith
least-units (keys.Prop n) = omega arith
least-units (keys.Func n) = omega arith
least-units (keys.Obj n) = omega arith
least-units (keys.Text bytes) = omega arith

pub fewer-entries : (pairs : List Pair) → length pairs ≤ Units pairs
fewer-entries [] = omega arith
fewer-entries (pair ∷ pairs) =
    let rest = fewer-entries pairs in
    let all = sum_by-cons (λ (pair : Pair). key_units pair.key) pair pairs in
    let own = least-units pair.key in
    omega (arith, rest, all, own)

-- a copy has the same entries and the same default, is whole, and has a tick for each entry
pub record IsTableCopy (table copy : TableValue) : Type 0 where
  pub entries : entries_of (parts_of copy) ≡ entries_of (parts_of table)
  pub default : default_of (parts_of copy) ≡ default_of (parts_of table)
  pub whole : IsWholeTable (parts_of copy)
  pub tick : copy.next_tick ≤ Units (entries_of (parts_of copy)) + 1

pub table-copy : (table copy : TableValue) → parts_of copy ≡ filled table.default (entries_of (parts_of table))
    → entries_of (parts_of copy) ≡ entries_of (parts_of table) → copy.next_tick ≡ 1 + length (entries_of (parts_of table))
    → copy.next_tick ≤ 2 ^ 63 → IsTableCopy table copy
table-copy table copy parts pairs next few = record {
  entries = pairs;
  default = ap default_of parts ∙ default-of (slots.parts_of (numbered 1 (entries_of (parts_of table)))) table.default
      ∙ sym (default-of table.entries table.default);
  whole = subst IsWholeTable (sym parts) (whole-filled table.default (entries_of (parts_of table)) (omega (arith, next, few)));
  tick =
      let all = fewer-entries (entries_of (parts_of copy)) in
      let same = ap length pairs in
      omega (arith, all, same, next);
}
