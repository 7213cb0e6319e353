-- A value of good parts has such parts with a cell set to what is good, and with a cell taken away; and what its keys name then.
use Rattle.std.proofs.Common.{◌≡◌, ◌∙◌, sym, subst, refl, ℕ, zero, suc, ◌-◌, ◌<◌, ◌^◌, Bool, true, false, cond, nat_lt, List, [], ◌∷◌, ◌++◌, length, map, Some, None, is_some}
use Rattle.std.specs.Prelude.{not, slice_set}
use Rattle.std.specs.List.{AllByRecursion, flat_map}
use Rattle.std.specs.Ordering.{eq_by_cmp}
use Rattle.std.specs.Cmp.{nat_cmp_total}
use Rattle.std.specs.FinMap.{get, get-insert, get-remove}
use Rattle.std.proofs.lemmas.List.Concat.{flat_map-cons}
use Rattle.t3_holder.specs.declared.holder.Holder.{Holder}
use Rattle.t3_undo.specs.Key.{key_cmp}
use Rattle.t3_undo.specs.declared.cell.Cell.{Cell}
use Rattle.t3_undo.specs.declared.cell.Cell.TheVariants as cells
use Rattle.t3_undo.specs.declared.key.Key.{Key}
use Rattle.t3_tables.specs.declared.pair.Pair.{Pair}
use Rattle.t3_tables.specs.Order.{with_value}
use Rattle.t3_store.specs.Value.{Value, Tads, Text, Items, Vector, Table, with_cell, without_cell}
use Rattle.t3_tadsobj.specs.Props.{PropMap, with_prop, without_prop}
use Rattle.t3_lists.specs.Items.{with_element, set_item, without_element}
use Rattle.t3_tables.specs.Entries.{set_entry, value_under, without_entry, without_key}
use Rattle.t3_store.proofs.Rows.{same, same-is}
use Rattle.t3_snapshot.specs.Good.{IsGoodKey, IsGoodPair, IsGoodProp, HasGoodProps, HasGoodParts}
use Rattle.t3_snapshot.specs.State.{named_by_key, named_as_keys, can_be_key}
use Rattle.t3_good_values.proofs.Lists.{all-append, all-set, all-take}

-- ---- a cell set

-- what a cell is made of: the number of a property, or a key
abbrev pub IsCellOf : (Holder → Type 0) → Cell → Type 0
IsCellOf Good (cells.Prop number) = (0 < number) × (number < 2 ^ 16)
IsCellOf Good (cells.Elem number) = Unit {0}
IsCellOf Good (cells.Key key) = IsGoodKey Good key
IsCellOf Good cells.Default = Unit {0}

module _ (Good : Holder → Type 0) (holder : Holder) (own : Good holder) where
  props-set : (cell : Cell) (props : PropMap) → IsCellOf Good cell → HasGoodProps Good props
      → HasGoodProps Good (with_prop cell holder props)
  props-set (cells.Prop number) props cell all =
      λ q value e. by q value (same q number) refl (sym (get-insert nat_cmp_total props number holder q) ∙ e)
    where
      by : (q : ℕ) (value : Holder) (b : Bool) → same q number ≡ b → cond b (Some holder) (get props q) ≡ Some value
          → IsGoodProp Good q value
      by q value true is so =
          let it : holder ≡ value = cc in
          subst (λ k. IsGoodProp Good k value) (sym (same-is q number is))
          (subst (IsGoodProp Good number) it (record { named = cell.0; fits = cell.1; value = own }))
      by q value false is so = all q value so
  props-set (cells.Elem number) props cell all = all
  props-set (cells.Key key) props cell all = all
  props-set cells.Default props cell all = all

  item-set : (index : ℕ) (items : List Holder) → AllByRecursion Good items → AllByRecursion Good (set_item index holder items)
  item-set index items all = by (nat_lt index (length items))
    where
      by : (b : Bool) → AllByRecursion Good (cond b (slice_set items index holder) (items ++ holder ∷ []))
      by true = all-set Good items index holder own all
      by false = all-append Good items (holder ∷ []) all (own, tt)

  elements-set : (cell : Cell) (items : List Holder) → AllByRecursion Good items → AllByRecursion Good (with_element cell holder items)
  elements-set (cells.Elem zero) items all = all
  elements-set (cells.Elem (suc index)) items all = item-set index items all
  elements-set (cells.Prop number) items all = all
  elements-set (cells.Key key) items all = all
  elements-set cells.Default items all = all

  pairs-mapped : (key : Key) (pairs : List Pair) → AllByRecursion (IsGoodPair Good) pairs
      → AllByRecursion (IsGoodPair Good) (map (with_value key holder) pairs)
  pairs-mapped key [] all = tt
  pairs-mapped key (pair ∷ pairs) all = (by (eq_by_cmp key_cmp key pair.key), pairs-mapped key pairs all.1)
    where
      by : (b : Bool) → IsGoodPair Good (cond b (record { key = pair.key; value = holder }) pair)
      by true = record { key = all.0.key; value = own }
      by false = all.0

  pairs-set : (key : Key) (pairs : List Pair) → IsGoodKey Good key → AllByRecursion (IsGoodPair Good) pairs
      → AllByRecursion (IsGoodPair Good) (set_entry key holder pairs)
  pairs-set key pairs good all = by (is_some (value_under key pairs))
    where
      added : List Pair
      added = record { key = key; value = holder } ∷ []

      by : (b : Bool) → AllByRecursion (IsGoodPair Good) (cond b (map (with_value key holder) pairs) (pairs ++ added))
      by true = pairs-mapped key pairs all
      by false = all-append (IsGoodPair Good) pairs added all (record { key = good; value = own }, tt)

  -- a value with a cell set
  pub parts-set : (cell : Cell) → IsCellOf Good cell → (value : Value) → HasGoodParts Good value
      → HasGoodParts Good (with_cell cell holder value)
  parts-set cell is (Tads supers class props) good = (good.0, props-set cell props is good.1)
  parts-set cell is (Text bytes) good = good
  parts-set cell is (Items items) good = good
  parts-set cell is (Vector items) good = elements-set cell items good
  parts-set (cells.Key key) is (Table pairs default) good = record { pairs = pairs-set key pairs is good.pairs; default = good.default }
  parts-set cells.Default is (Table pairs default) good = record { pairs = good.pairs; default = own }
  parts-set (cells.Prop number) is (Table pairs default) good = good
  parts-set (cells.Elem number) is (Table pairs default) good = good

-- ---- a cell taken away

module _ (Good : Holder → Type 0) where
  props-left : (cell : Cell) (props : PropMap) → HasGoodProps Good props → HasGoodProps Good (without_prop cell props)
  props-left (cells.Prop number) props all =
      λ q value e. by q value (same q number) (sym (get-remove nat_cmp_total props number q) ∙ e)
    where
      by : (q : ℕ) (value : Holder) (b : Bool) → cond b None (get props q) ≡ Some value → IsGoodProp Good q value
      by q value true so = absurd cc
      by q value false so = all q value so
  props-left (cells.Elem number) props all = all
  props-left (cells.Key key) props all = all
  props-left cells.Default props all = all

  elements-left : (cell : Cell) (items : List Holder) → AllByRecursion Good items → AllByRecursion Good (without_element cell items)
  elements-left (cells.Elem number) items all = all-take Good (length items - 1) items all
  elements-left (cells.Prop number) items all = all
  elements-left (cells.Key key) items all = all
  elements-left cells.Default items all = all

  pairs-kept : (key : Key) (pairs : List Pair) → AllByRecursion (IsGoodPair Good) pairs
      → AllByRecursion (IsGoodPair Good) (without_key key pairs)
  pairs-kept key [] all = tt
  pairs-kept key (pair ∷ pairs) all = by (not (eq_by_cmp key_cmp key pair.key)) (pairs-kept key pairs all.1)
    where
      by : (b : Bool) → AllByRecursion (IsGoodPair Good) (without_key key pairs)
          → AllByRecursion (IsGoodPair Good) (cond b (pair ∷ without_key key pairs) (without_key key pairs))
      by true rest = (all.0, rest)
      by false rest = rest

  pairs-left : (cell : Cell) (pairs : List Pair) → AllByRecursion (IsGoodPair Good) pairs
      → AllByRecursion (IsGoodPair Good) (without_entry cell pairs)
  pairs-left (cells.Key key) pairs all = pairs-kept key pairs all
  pairs-left (cells.Prop number) pairs all = all
  pairs-left (cells.Elem number) pairs all = all
  pairs-left cells.Default pairs all = all

  -- a value with a cell taken away
  pub parts-left : (cell : Cell) (value : Value) → HasGoodParts Good value → HasGoodParts Good (without_cell cell value)
  parts-left cell (Tads supers class props) good = (good.0, props-left cell props good.1)
  parts-left cell (Text bytes) good = good
  parts-left cell (Items items) good = good
  parts-left cell (Vector items) good = elements-left cell items good
  parts-left cell (Table pairs default) good = record { pairs = pairs-left cell pairs good.pairs; default = good.default }

-- ---- keys

-- the objects that the key of a cell names
abbrev pub named_by_cell : Cell → List ℕ
named_by_cell (cells.Key key) = named_by_key key
named_by_cell (cells.Prop number) = []
named_by_cell (cells.Elem number) = []
named_by_cell cells.Default = []

abbrev names_of : List Pair → List ℕ
names_of pairs = flat_map (λ (pair : Pair). named_by_key pair.key) pairs

module _ (P : ℕ → Type 0) where
  all-front : (xs ys : List ℕ) → AllByRecursion P (xs ++ ys) → AllByRecursion P xs
  all-front [] ys all = tt
  all-front (x ∷ xs) ys all = (all.0, all-front xs ys all.1)

  all-rest : (xs ys : List ℕ) → AllByRecursion P (xs ++ ys) → AllByRecursion P ys
  all-rest [] ys all = all
  all-rest (x ∷ xs) ys all = all-rest xs ys all.1

  names-step : (pair other : Pair) (pairs others : List Pair) → pair.key ≡ other.key
      → (AllByRecursion P (names_of pairs) → AllByRecursion P (names_of others))
      → AllByRecursion P (names_of (pair ∷ pairs)) → AllByRecursion P (names_of (other ∷ others))
  names-step pair other pairs others is rest all =
      let f : Pair → List ℕ = λ p. named_by_key p.key in
      let parts : AllByRecursion P (f pair ++ names_of pairs) = subst (AllByRecursion P) (flat_map-cons f pair pairs) all in
      subst (AllByRecursion P) (sym (flat_map-cons f other others))
      (all-append P (f other) (names_of others)
      (subst (λ k. AllByRecursion P (named_by_key k)) is (all-front (f pair) (names_of pairs) parts))
      (rest (all-rest (f pair) (names_of pairs) parts)))

  names-later : (pair : Pair) (pairs : List Pair) → AllByRecursion P (names_of (pair ∷ pairs)) → AllByRecursion P (names_of pairs)
  names-later pair pairs all =
      let f : Pair → List ℕ = λ p. named_by_key p.key in
      all-rest (f pair) (names_of pairs) (subst (AllByRecursion P) (flat_map-cons f pair pairs) all)

  names-mapped : (key : Key) (holder : Holder) (pairs : List Pair) → AllByRecursion P (names_of pairs)
      → AllByRecursion P (names_of (map (with_value key holder) pairs))
  names-mapped key holder [] all = tt
  names-mapped key holder (pair ∷ pairs) all =
      names-step pair (with_value key holder pair) pairs (map (with_value key holder) pairs) (by (eq_by_cmp key_cmp key pair.key))
      (names-mapped key holder pairs) all
    where
      by : (b : Bool) → pair.key ≡ (cond b (record { key = pair.key; value = holder }) pair).key
      by true = refl
      by false = refl

  names-added : (key : Key) (holder : Holder) (pairs : List Pair) → AllByRecursion P (named_by_key key) → AllByRecursion P (names_of pairs)
      → AllByRecursion P (names_of (pairs ++ record { key = key; value = holder } ∷ []))
  names-added key holder [] own all =
      let f : Pair → List ℕ = λ p. named_by_key p.key in
      subst (AllByRecursion P) (sym (flat_map-cons f (record { key = key; value = holder }) []))
      (all-append P (named_by_key key) [] own tt)
  names-added key holder (pair ∷ pairs) own all =
      names-step pair pair pairs (pairs ++ record { key = key; value = holder } ∷ []) refl (names-added key holder pairs own) all

  names-set : (key : Key) (holder : Holder) (pairs : List Pair) → AllByRecursion P (named_by_key key) → AllByRecursion P (names_of pairs)
      → AllByRecursion P (names_of (set_entry key holder pairs))
  names-set key holder pairs own all = by (is_some (value_under key pairs))
    where
      added : List Pair
      added = record { key = key; value = holder } ∷ []

      by : (b : Bool) → AllByRecursion P (names_of (cond b (map (with_value key holder) pairs) (pairs ++ added)))
      by true = names-mapped key holder pairs all
      by false = names-added key holder pairs own all

  names-kept : (key : Key) (pairs : List Pair) → AllByRecursion P (names_of pairs) → AllByRecursion P (names_of (without_key key pairs))
  names-kept key [] all = tt
  names-kept key (pair ∷ pairs) all = by (names-kept key pairs) (not (eq_by_cmp key_cmp key pair.key))
    where
      by : (AllByRecursion P (names_of pairs) → AllByRecursion P (names_of (without_key key pairs)))
          → (b : Bool) → AllByRecursion P (names_of (cond b (pair ∷ without_key key pairs) (without_key key pairs)))
      by rest true = names-step pair pair pairs (without_key key pairs) refl rest all
      by rest false = rest (names-later pair pairs all)

  -- what holds of what the keys name does so with a cell set, if it holds of what the cell's key names
  pub names-with : (cell : Cell) (holder : Holder) (value : Value) → AllByRecursion P (named_by_cell cell)
      → AllByRecursion P (named_as_keys value) → AllByRecursion P (named_as_keys (with_cell cell holder value))
  unfolding named_as_keys
  names-with cell holder (Tads supers class props) own all = tt
  names-with cell holder (Text bytes) own all = tt
  names-with cell holder (Items items) own all = tt
  names-with cell holder (Vector items) own all = tt
  names-with (cells.Key key) holder (Table pairs default) own all = names-set key holder pairs own all
  names-with cells.Default holder (Table pairs default) own all = all
  names-with (cells.Prop number) holder (Table pairs default) own all = all
  names-with (cells.Elem number) holder (Table pairs default) own all = all

  -- and with a cell taken away
  pub names-without : (cell : Cell) (value : Value) → AllByRecursion P (named_as_keys value)
      → AllByRecursion P (named_as_keys (without_cell cell value))
  unfolding named_as_keys
  names-without cell (Tads supers class props) all = tt
  names-without cell (Text bytes) all = tt
  names-without cell (Items items) all = tt
  names-without cell (Vector items) all = tt
  names-without (cells.Key key) (Table pairs default) all = names-kept key pairs all
  names-without (cells.Prop number) (Table pairs default) all = all
  names-without (cells.Elem number) (Table pairs default) all = all
  names-without cells.Default (Table pairs default) all = all

-- whether a value can be a key goes by its kind, which stays
pub able-with : (cell : Cell) (holder : Holder) (value : Value) → can_be_key (Some (with_cell cell holder value)) ≡ can_be_key (Some value)
able-with cell holder (Tads supers class props) = refl
able-with cell holder (Text bytes) = refl
able-with cell holder (Items items) = refl
able-with cell holder (Vector items) = refl
able-with (cells.Key key) holder (Table pairs default) = refl
able-with cells.Default holder (Table pairs default) = refl
able-with (cells.Prop number) holder (Table pairs default) = refl
able-with (cells.Elem number) holder (Table pairs default) = refl

pub able-without : (cell : Cell) (value : Value) → can_be_key (Some (without_cell cell value)) ≡ can_be_key (Some value)
able-without cell (Tads supers class props) = refl
able-without cell (Text bytes) = refl
able-without cell (Items items) = refl
able-without cell (Vector items) = refl
able-without cell (Table pairs default) = refl
