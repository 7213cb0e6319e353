-- The methods of tables change and answer what is good.
use Rattle.std.proofs.Common.{◌≡◌, ◌<◌, ◌≤◌, ◌^◌, ℕ, ◌+◌, Bool, true, false, refl, arith, nat_lt, if◌then◌else◌, List, [], ◌∷◌, length, map, Option, Some, None, is_some, option_map, Result, Ok, Err}
use Rattle.std.specs.Prelude.{option_and_then}
use Rattle.std.specs.List.{AllByRecursion}
use Rattle.std.specs.Ordering.{eq_by_cmp}
use Rattle.std.proofs.lemmas.Bool.{ltb-false}
use Rattle.t3_holder.specs.declared.holder.Holder.{Holder}
use Rattle.t3_holder.specs.declared.holder.Holder.TheVariants as holders
use Rattle.t3_undo.specs.Key.{key_cmp}
use Rattle.t3_undo.specs.declared.key.Key.{Key}
use Rattle.t3_undo.specs.declared.key.Key.TheVariants as keys
use Rattle.t3_tables.specs.declared.pair.Pair.{Pair}
use Rattle.t3_pools.specs.Pool.{Pool}
use Rattle.t3_store.specs.Value.{Value, Tads, Text, Items, Vector, Table}
use Rattle.t3_tables.specs.Entries.{value_under}
use Rattle.t3_store.specs.Store.{StoreValue, value_at}
use Rattle.t3_ops.specs.declared.fault.Fault.{Fault}
use Rattle.t3_ops.specs.declared.fault.Fault.TheVariants.{TextLong, ListLong}
use Rattle.t3_ops.specs.Values.{kind_fault}
use Rattle.t3_ops.specs.Keys.{key_of}
use Rattle.t3_ops.specs.Making.{fitting_list_of}
use Rattle.t3_kinds.specs.Changes.{Change, Makes}
use Rattle.t3_kinds.specs.declared.methods.TableMethod.{TableMethod}
use Rattle.t3_kinds.specs.declared.methods.TableMethod.TheVariants as table
use Rattle.t3_kinds.specs.Deeds.{answers_truth, first_of}
use Rattle.t3_kinds.specs.TableMethods.{TableValue, table_in, table_of, when_table, removed_entry, key_value, key_text, with_string, key_strings, next_after, key_values, number_after, have_fitting_texts, listed_keys, key_list_of}
use Rattle.t3_kinds.specs.Methods.{table_deed}
use Rattle.t3_snapshot.specs.State.{named_as_keys}
use Rattle.t3_snapshot.specs.Good.{IsGoodKey, IsGoodPair, IsGoodTable, HasGoodParts}
use Rattle.t3_good_values.specs.Values.{IsClosed, IsGoodResult}
use Rattle.t3_good_values.specs.Stores.{IsGoodStore, IsGoodChange, IsGoodDeed}
use Rattle.t3_good_values.proofs.Lists.{IfThere, all-append, all-map}
use Rattle.t3_good_values.proofs.Outcomes.{good-needed, good-if, good-list_of}
use Rattle.t3_good_values.proofs.Parts.{AreGiven, good-value}
use Rattle.t3_good_values.proofs.Deeds.{IsGoodAnswer, good-answer, good-truth, good-count, good-new, good-ok, good-first}

-- ---- self

-- a reference, and contents that are good
abbrev pub IsGoodTableAt : (Holder → Type 0) → ℕ × TableValue → Type 0
IsGoodTableAt Good table = Good (holders.Obj table.0) × IsGoodTable Good table.1.pairs table.1.default

contents-of : (Good : Holder → Type 0) (number : ℕ) → Good (holders.Obj number) → (value : Option Value) → IfThere (HasGoodParts Good) value
    → IfThere (IsGoodTableAt Good) (option_map (λ table. (number, table)) (option_and_then table_in value))
contents-of Good number self None good = tt
contents-of Good number self (Some (Table pairs default)) good = (self, good)
contents-of Good number self (Some (Tads supers class props)) good = tt
contents-of Good number self (Some (Text bytes)) good = tt
contents-of Good number self (Some (Items items)) good = tt
contents-of Good number self (Some (Vector items)) good = tt

table-of : {Good : Holder → Type 0} {store : StoreValue} → IsGoodStore Good store → (this : Holder) → Good this
    → IfThere (IsGoodTableAt Good) (table_of store this)
table-of {Good} {store} good (holders.Obj number) self = contents-of Good number self (value_at store number) (good-value good number)
table-of good this self = tt

pub good-when_table : {Good : Holder → Type 0} {store : StoreValue} {A : Type 0} (Q : A → Type 0) → IsGoodStore Good store → (this : Holder)
    → Good this → (result : ℕ → TableValue → Result A Fault)
    → ((number : ℕ) (value : TableValue) → IsGoodTable Good value.pairs value.default → IsGoodResult Q (result number value))
    → IsGoodResult Q (when_table store this result)
good-when_table {Good} {store} Q good this self result goes =
    good-needed (IsGoodTableAt Good) Q (kind_fault store (this ∷ [])) (table_of store this) (λ table. result table.0 table.1)
    (table-of good this self) (λ table parts. goes table.0 table.1 parts.1)

-- ---- entries

pub good-under : (Good : Holder → Type 0) (key : Key) (pairs : List Pair) → AllByRecursion (IsGoodPair Good) pairs
    → IfThere Good (value_under key pairs)
good-under Good key [] all = tt
good-under Good key (pair ∷ pairs) all = by (good-under Good key pairs all.1) (eq_by_cmp key_cmp key pair.key)
  where
    by : IfThere Good (value_under key pairs) → (same : Bool)
        → IfThere Good (if same then Some pair.value else value_under key pairs)
    by rest true = all.0.value
    by rest false = rest

good-removed : {Good : Holder → Type 0} → IsClosed Good → (object : ℕ) (key : Key) (former : Option Holder) → IfThere Good former
    → IsGoodAnswer Good (removed_entry object key former)
good-removed {Good} closed object key None good = good-answer Good holders.Nil closed.nil
good-removed closed object key (Some former) good = record { changes = (tt, tt); answer = good }

-- ---- all keys

good-key_value : {Good : Holder → Type 0} → IsClosed Good → (next : ℕ) → 0 < next → next < 2 ^ 32 → (key : Key) → IsGoodKey Good key
    → Good (key_value next key)
good-key_value closed next some less (keys.Text bytes) good = closed.object next some less
good-key_value closed next some less keys.Nil good = good
good-key_value closed next some less keys.True good = good
good-key_value closed next some less (keys.Int z) good = good
good-key_value closed next some less (keys.Enum n) good = good
good-key_value closed next some less (keys.Prop n) good = good
good-key_value closed next some less (keys.Func address) good = good
good-key_value closed next some less (keys.Obj number) good = good

-- a string takes one number at most
one-more : (text : Option (List ℕ)) (next : ℕ) → (next ≤ next_after text next) × (next_after text next ≤ next + 1)
one-more None next = (omega arith, omega arith)
one-more (Some bytes) next = (omega arith, omega arith)

good-key_values : {Good : Holder → Type 0} → IsClosed Good → (next : ℕ) (pairs : List Pair) → 0 < next → next + length pairs < 2 ^ 32
    → AllByRecursion (IsGoodPair Good) pairs → AllByRecursion Good (key_values next pairs)
good-key_values closed next [] some less all = tt
good-key_values closed next (pair ∷ pairs) some less all =
    let more = one-more (key_text pair.key) next in (
      good-key_value closed next some (omega arith) pair.key all.0.key,
      good-key_values closed (next_after (key_text pair.key) next) pairs (omega (arith, more.0)) (omega (arith, more.1)) all.1,
    )

number-within : (next : ℕ) (pairs : List Pair) → (next ≤ number_after next pairs) × (number_after next pairs ≤ next + length pairs)
number-within next [] = (omega arith, omega arith)
number-within next (pair ∷ pairs) =
    let more = one-more (key_text pair.key) next in
    let rest = number-within (next_after (key_text pair.key) next) pairs in
    (omega (arith, more.0, rest.0), omega (arith, more.1, rest.1))

good-string : (Good : Holder → Type 0) (key : Key) → IsGoodKey Good key → (changes : List Change)
    → AllByRecursion (IsGoodChange Good) changes → AllByRecursion (IsGoodChange Good) (with_string (key_text key) changes)
unfolding named_as_keys
good-string Good (keys.Text bytes) good changes all = (record { parts = good; keyless = refl }, all)
good-string Good keys.Nil good changes all = all
good-string Good keys.True good changes all = all
good-string Good (keys.Int z) good changes all = all
good-string Good (keys.Enum n) good changes all = all
good-string Good (keys.Prop n) good changes all = all
good-string Good (keys.Func address) good changes all = all
good-string Good (keys.Obj number) good changes all = all

good-strings : (Good : Holder → Type 0) (pairs : List Pair) → AllByRecursion (IsGoodPair Good) pairs
    → AllByRecursion (IsGoodChange Good) (key_strings pairs)
good-strings Good [] all = tt
good-strings Good (pair ∷ pairs) all = good-string Good pair.key all.0.key (key_strings pairs) (good-strings Good pairs all.1)

good-listed : {Good : Holder → Type 0} {store : StoreValue} → IsClosed Good → IsGoodStore Good store → (pairs : List Pair)
    → length pairs ≤ 65535 → AllByRecursion (IsGoodPair Good) pairs → IsGoodDeed Good (listed_keys store pairs)
unfolding named_as_keys
good-listed {Good} {store} closed good pairs few all =
    let within = number-within store.next pairs in
    record {
      changes = all-append (IsGoodChange Good) (key_strings pairs) (Makes (Items (key_values store.next pairs)) ∷ [])
          (good-strings Good pairs all)
          (record { parts = good-key_values closed store.next pairs good.next.0 (omega (arith, good.next.1)) all; keyless = refl }, tt);
      answer = closed.object (number_after store.next pairs) (omega (arith, within.0, good.next.0)) (omega (arith, within.1, good.next.1));
    }

good-keys : {Good : Holder → Type 0} {store : StoreValue} → IsClosed Good → IsGoodStore Good store → (pairs : List Pair)
    → AllByRecursion (IsGoodPair Good) pairs → IsGoodAnswer Good (key_list_of store pairs)
good-keys {Good} {store} closed good pairs all = by (nat_lt 65535 (length pairs)) refl
  where
    by : (past : Bool) → nat_lt 65535 (length pairs) ≡ past
        → IsGoodAnswer Good (if past then Err ListLong else if have_fitting_texts pairs then Ok (listed_keys store pairs) else Err TextLong)
    by true is = tt
    by false is =
        good-if (IsGoodDeed Good) (have_fitting_texts pairs) TextLong (Ok (listed_keys store pairs))
        (good-listed closed good pairs (ltb-false 65535 (length pairs) is) all)

-- ---- all of them

pub good-table_deed : {Good : Holder → Type 0} {constants : Pool} {store : StoreValue} → AreGiven Good constants store
    → (method : TableMethod)
    (args : List Holder) → AllByRecursion Good args → (object : ℕ) (value : TableValue) → IsGoodTable Good value.pairs value.default
    → IsGoodAnswer Good (table_deed constants store method args object value)
good-table_deed {Good} {constants} {store} given table.IsKeyPresent args given_args object value good =
    good-ok (IsGoodDeed Good) (key_of constants store (first_of args)) (λ key. answers_truth (is_some (value_under key value.pairs)))
    (λ key. good-truth given.closed (is_some (value_under key value.pairs)))
good-table_deed {Good} {constants} {store} given table.RemoveElement args given_args object value good =
    good-ok (IsGoodDeed Good) (key_of constants store (first_of args)) (λ key. removed_entry object key (value_under key value.pairs))
    (λ key. good-removed given.closed object key (value_under key value.pairs) (good-under Good key value.pairs good.pairs))
good-table_deed given table.GetEntryCount args given_args object value good = good-count given.closed (length value.pairs)
good-table_deed given table.KeysToList args given_args object value good = good-keys given.closed given.store_good value.pairs good.pairs
good-table_deed {Good} given table.ValsToList args given_args object value good =
    let values = map (λ (pair : Pair). pair.value) value.pairs in
    good-new given.closed given.store_good (fitting_list_of values)
    (good-list_of Good values
    (all-map (IsGoodPair Good) Good (λ (pair : Pair). pair.value) (λ pair good. good.value) value.pairs good.pairs))
good-table_deed {Good} given table.GetDefaultValue args given_args object value good = good-answer Good value.default good.default
good-table_deed given table.SetDefaultValue args given_args object value good =
    record { changes = (good-first given.closed args given_args, tt); answer = given.closed.nil }
