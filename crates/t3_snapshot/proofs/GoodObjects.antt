-- Objects whose holders are good can be saved.
use Rattle.std.proofs.Common.{◌≡◌, ℕ, ◌<◌, ◌≤◌, ◌^◌, List, [], ◌∷◌, length, Some, arith}
use Rattle.std.specs.Prelude.{sum_by}
use Rattle.std.specs.FinMap.{get, len, entries}
use Rattle.std.specs.List.{AllByRecursion}
use Rattle.t3_holder.specs.declared.holder.Holder.{Holder}
use Rattle.t3_holder.specs.declared.holder.Holder.TheVariants as holders
use Rattle.t3_undo.specs.declared.key.Key.{Key}
use Rattle.t3_undo.specs.declared.key.Key.TheVariants as keys
use Rattle.t3_tables.specs.declared.pair.Pair.{Pair}
use Rattle.t3_store.specs.Distinct.{HasDistinctEntries}
use Rattle.t3_store.specs.Value.{Value, Objects, Tads, Text, Items, Vector, Table, units_of, units_in, HasFittingLength}
use Rattle.t3_tadsobj.specs.Props.{PropMap}
use Rattle.t3_undo.specs.Units.{key_units}
use Rattle.t3_store.specs.Whole.{IsWhole, supers_in}
use Rattle.t3_snapshot.specs.Good.{IsGoodKey, IsGoodPair, HasGoodProps, HasGoodParts, AreGoodObjects}
use Rattle.t3_snapshot.specs.Layout.{IsGoodHolder, IsKey, IsEntry, IsProp, AreCounted, IsSpellable}
use Rattle.t3_snapshot.specs.Savable.{IsSavable}
use Rattle.t3_snapshot.proofs.Entries.{all_entries, of_entry, few_entries, all_within, count_within}

-- ---- parts

good_key : (key : Key) → IsGoodKey IsGoodHolder key → IsKey key
good_key keys.Nil good = good
good_key keys.True good = good
good_key (keys.Int number) good = good
good_key (keys.Enum number) good = good
good_key (keys.Prop number) good = good
good_key (keys.Func address) good = good
good_key (keys.Obj number) good = good
good_key (keys.Text bytes) good = good

entries_of : (pairs : List Pair) → AllByRecursion (IsGoodPair IsGoodHolder) pairs → AllByRecursion IsEntry pairs
entries_of [] good = tt
entries_of (pair ∷ pairs) good = (record { key = good_key pair.key good.0.key; value = good.0.value }, entries_of pairs good.1)

numbers_fit : (supers : List ℕ) → AllByRecursion (λ number. IsGoodHolder (holders.Obj number)) supers
    → AllByRecursion (λ number. number < 2 ^ 32) supers
numbers_fit [] good = tt
numbers_fit (number ∷ supers) good = (good.0.fits, numbers_fit supers good.1)

-- properties with numbers from 1 on, below 2^16, can be counted
props_of : (props : PropMap) → HasGoodProps IsGoodHolder props → AreCounted 2 IsProp (entries props)
props_of props good = record {
  few = few_entries props (2 ^ 16) (omega arith)
      (all_entries (λ e. 0 < e.0) props (λ n v there. (good n v there).named))
      (all_entries (λ e. e.0 < 2 ^ 16) props (λ n v there. (good n v there).fits));
  each = all_entries IsProp props (λ n v there. is_prop n v there);
}
  where
    is_prop : (n : ℕ) (v : Holder) → get props n ≡ Some v → IsProp (n, v)
    is_prop n v there = let own = good n v there in record { named = own.named; fits = own.fits; value = own.value }

one_unit : (key : Key) → 1 ≤ key_units key
one_unit keys.Nil = omega arith
one_unit keys.True = omega arith
one_unit (keys.Int number) = omega arith
one_unit (keys.Enum number) = omega arith
one_unit (keys.Prop number) = omega arith
one_unit (keys.Func address) = omega arith
one_unit (keys.Obj number) = omega arith
one_unit (keys.Text bytes) = omega arith

-- ---- a value

value_spellable : (value : Value) → HasGoodParts IsGoodHolder value → HasFittingLength value → HasDistinctEntries value
    → units_of value ≤ 4194304 → IsSpellable value
value_spellable (Tads supers class props) good fits distinct few =
    (record { few = good.0.few; each = numbers_fit supers good.0.each }, props_of props good.1)
value_spellable (Text bytes) good fits distinct few = good
value_spellable (Items items) good fits distinct few = record { few = omega (arith, fits); each = good }
value_spellable (Vector items) good fits distinct few = record { few = omega (arith, fits); each = good }
value_spellable (Table pairs default) good fits distinct few =
    let count : length pairs ≤ sum_by (λ (pair : Pair). key_units pair.key) pairs =
    count_within (λ (pair : Pair). key_units pair.key) pairs (λ pair. one_unit pair.key) in
    (good.default, record { few = omega (arith, few); each = entries_of pairs good.pairs }, distinct)

-- ---- objects

pub good_savable : (objects : Objects) (next : ℕ) → AreGoodObjects IsGoodHolder next objects → next ≤ 2 ^ 31 → IsWhole (supers_in objects)
    → len objects ≤ 1048576 → units_in objects ≤ 4194304
    → ((number : ℕ) (value : Value) → get objects number ≡ Some value → HasFittingLength value × HasDistinctEntries value)
    → IsSavable next objects
good_savable objects next good fits whole few few_units known = record {
  next = fits;
  numbers = good.numbered;
  spellable = λ number value there.
      let own = known number value there in
      let units : units_of value ≤ units_in objects =
      of_entry (λ (e : ℕ × Value). units_of e.1 ≤ units_in objects) objects number value
      (all_within (λ (e : ℕ × Value). units_of e.1) (entries objects)) there in
      value_spellable value (good.parts number value there) own.0 own.1 (omega arith);
  keys = good.keys;
  whole = whole;
  few = few;
  few_units = few_units;
}
