-- What is left of values once they are trimmed: it can be spelled, names what is there, and counts no more.
use Rattle.std.proofs.Common.{◌≡◌, ℕ, suc, ◌≤◌, Bool, true, false, cond, List, [], ◌∷◌, ◌++◌, length, map, Option, Some, None, IsTrue, IsSome, refl, sym, ap, subst, ◌∙◌, inl, inr, arith}
use Rattle.std.specs.Prelude.{◌⊎◌, filter, sum_by, is_some, option_map, option_and_then}
use Rattle.std.specs.FinMap.{get, entries, find, get-entries, len-entries}
use Rattle.std.specs.Ordering.{nat_cmp, eq_by_cmp}
use Rattle.std.specs.List.{AllByRecursion, flat_map, IsDistinct}
use Rattle.std.proofs.lemmas.List.{length-map}
use Rattle.std.proofs.lemmas.List.Concat.{flat_map-cons}
use Rattle.std.proofs.lemmas.List.Sums.{sum_by-cons}
use Rattle.t3_holder.specs.declared.holder.Holder.{Holder}
use Rattle.t3_holder.specs.declared.holder.Holder.TheVariants as holders
use Rattle.t3_undo.specs.Key.{key_cmp}
use Rattle.t3_undo.specs.declared.key.Key.{Key}
use Rattle.t3_undo.specs.declared.key.Key.TheVariants as keys
use Rattle.t3_tables.specs.declared.pair.Pair.{Pair}
use Rattle.t3_store.specs.Value.{Value, Objects, Tads, Text, Items, Vector, Table, units_of, supers_of}
use Rattle.t3_undo.specs.Units.{key_units}
use Rattle.t3_store.specs.Whole.{supers_in}
use Rattle.t3_snapshot.specs.Layout.{IsSpellable, AreCounted, IsGoodHolder, IsProp, IsEntry, HasDistinctKeys, keys_of}
use Rattle.t3_snapshot.specs.State.{trimmed, trimmed_value, trimmed_prop, trimmed_props, trimmed_holder, trimmed_entry, trimmed_entries, keeps_key, named_by, named_by_key, named_in, named_as_keys, can_be_key}
use Rattle.t3_snapshot.specs.Savable.{IsHeldKey}
use Rattle.t3_snapshot.proofs.Sorted.{mapped_are}
use Rattle.t3_snapshot.proofs.Trim.{trim, trimmed_entries_are}

-- ---- lists

all_append : {X : Type 0} (P : X → Type 0) (xs ys : List X) → AllByRecursion P xs → AllByRecursion P ys → AllByRecursion P (xs ++ ys)
all_append P [] ys front back = back
all_append P (x ∷ xs) ys front back = (front.0, all_append P xs ys front.1 back)

-- what holds of what each gives
pub all_flat : {A X : Type 0} (P : X → Type 0) (Q : A → Type 0) (f : A → List X) → ((a : A) → Q a → AllByRecursion P (f a)) → (xs : List A)
    → AllByRecursion Q xs
    → AllByRecursion P (flat_map f xs)
all_flat P Q f each [] all = tt
all_flat P Q f each (x ∷ xs) all =
    subst (AllByRecursion P) (sym (flat_map-cons f x xs)) (all_append P (f x) (flat_map f xs) (each x all.0) (all_flat P Q f each xs all.1))

all_any : {A X : Type 0} (P : X → Type 0) (f : A → List X) → ((a : A) → AllByRecursion P (f a)) → (xs : List A)
    → AllByRecursion P (flat_map f xs)
all_any P f each [] = tt
all_any P f each (x ∷ xs) =
    subst (AllByRecursion P) (sym (flat_map-cons f x xs)) (all_append P (f x) (flat_map f xs) (each x) (all_any P f each xs))

pub all_to : {A B : Type 0} (P : A → Type 0) (Q : B → Type 0) (f : A → B) → ((a : A) → P a → Q (f a)) → (xs : List A) → AllByRecursion P xs
    → AllByRecursion Q (map f xs)
all_to P Q f each [] all = tt
all_to P Q f each (x ∷ xs) all = (each x all.0, all_to P Q f each xs all.1)

-- ---- what is found

option_step : {A B : Type 0} (f : A → B) (b : Bool) (v : A) (o : Option A) (p : Option B) → p ≡ option_map f o
    → cond b (Some (f v)) p ≡ option_map f (cond b (Some v) o)
option_step f true v o p e = refl
option_step f false v o p e = e

find_trim : (state : Objects) (n : ℕ) (es : List (ℕ × Value))
    → find nat_cmp n (map (trim state) es) ≡ option_map (trimmed_value state) (find nat_cmp n es)
find_trim state n [] = refl
find_trim state n (e ∷ es) =
    option_step (trimmed_value state) (eq_by_cmp nat_cmp n e.0) e.1 (find nat_cmp n es) (find nat_cmp n (map (trim state) es))
    (find_trim state n es)

pub get_trimmed : (state : Objects) (n : ℕ) → get (trimmed state) n ≡ option_map (trimmed_value state) (get state n)
get_trimmed state n =
    get-entries (trimmed state) n ∙ ap (find nat_cmp n) (trimmed_entries_are state) ∙ find_trim state n (entries state)
    ∙ ap (option_map (trimmed_value state)) (sym (get-entries state n))

some_map : {A B : Type 0} (f : A → B) (o : Option A) → is_some (option_map f o) ≡ is_some o
some_map f None = refl
some_map f (Some x) = refl

there : (state : Objects) (n : ℕ) → is_some (get state n) ≡ true → IsSome (get (trimmed state) n)
there state n so = ap is_some (get_trimmed state n) ∙ some_map (trimmed_value state) (get state n) ∙ so

key_map : (state : Objects) (o : Option Value) → can_be_key (option_map (trimmed_value state) o) ≡ can_be_key o
key_map state None = refl
key_map state (Some (Tads supers class props)) = refl
key_map state (Some (Text bytes)) = refl
key_map state (Some (Items items)) = refl
key_map state (Some (Vector items)) = refl
key_map state (Some (Table pairs default)) = refl

supers_map : (state : Objects) (o : Option Value)
    → option_and_then supers_of (option_map (trimmed_value state) o) ≡ option_and_then supers_of o
supers_map state None = refl
supers_map state (Some (Tads supers class props)) = refl
supers_map state (Some (Text bytes)) = refl
supers_map state (Some (Items items)) = refl
supers_map state (Some (Vector items)) = refl
supers_map state (Some (Table pairs default)) = refl

pub supers_trim : (state : Objects) → supers_in (trimmed state) ≡ supers_in state
supers_trim state = λ i. λ n. (ap (option_and_then supers_of) (get_trimmed state n) ∙ supers_map state (get state n)) i

-- ---- a value

holder_good : (state : Objects) (h : Holder) → IsGoodHolder h → IsGoodHolder (trimmed_holder state h)
holder_good state holders.Nil good = good
holder_good state holders.True good = good
holder_good state (holders.Obj n) good = by (is_some (get state n))
  where
    by : (b : Bool) → IsGoodHolder (cond b (holders.Obj n) holders.Nil)
    by true = good
    by false = record { fits = tt; good = tt }
holder_good state (holders.Prop n) good = good
holder_good state (holders.Int n) good = good
holder_good state (holders.Text n) good = good
holder_good state (holders.Shown n) good = good
holder_good state (holders.List n) good = good
holder_good state (holders.Code n) good = good
holder_good state (holders.Func n) good = good
holder_good state (holders.Enum n) good = good

abbrev pub Named : Objects → ℕ → Type 0
Named state n = IsSome (get (trimmed state) n)

holder_named : (state : Objects) (h : Holder) → AllByRecursion (Named state) (named_by (trimmed_holder state h))
holder_named state holders.Nil = tt
holder_named state holders.True = tt
holder_named state (holders.Obj n) = by (is_some (get state n)) refl
  where
    by : (b : Bool) → is_some (get state n) ≡ b → AllByRecursion (Named state) (named_by (cond b (holders.Obj n) holders.Nil))
    by true so = (there state n so, tt)
    by false so = tt
holder_named state (holders.Prop n) = tt
holder_named state (holders.Int n) = tt
holder_named state (holders.Text n) = tt
holder_named state (holders.Shown n) = tt
holder_named state (holders.List n) = tt
holder_named state (holders.Code n) = tt
holder_named state (holders.Func n) = tt
holder_named state (holders.Enum n) = tt

holders_named : (state : Objects) (items : List Holder)
    → AllByRecursion (Named state) (flat_map named_by (map (trimmed_holder state) items))
holders_named state [] = tt
holders_named state (h ∷ items) =
    subst (AllByRecursion (Named state)) (sym (flat_map-cons named_by (trimmed_holder state h) (map (trimmed_holder state) items)))
    (all_append (Named state) (named_by (trimmed_holder state h)) (flat_map named_by (map (trimmed_holder state) items))
    (holder_named state h) (holders_named state items))

-- what is left of an entry and of those behind it
abbrev pub Left : Objects → Pair → List Pair → Bool → List Pair
Left state pair pairs b =
    map (trimmed_entry state) (cond b (pair ∷ filter (λ p. keeps_key state p.key) pairs) (filter (λ p. keeps_key state p.key) pairs))

fewer : (state : Objects) (pairs : List Pair) → length (trimmed_entries state pairs) ≤ length pairs
unfolding trimmed_entries
fewer state [] = omega arith
fewer state (pair ∷ pairs) = by (keeps_key state pair.key) (fewer state pairs)
  where
    by : (b : Bool) → length (map (trimmed_entry state) (filter (λ p. keeps_key state p.key) pairs)) ≤ length pairs
        → length (Left state pair pairs b) ≤ suc (length pairs)
    by true le = omega (arith, le)
    by false le = omega (arith, le)

less : (state : Objects) (pairs : List Pair)
    → sum_by (λ pair. key_units pair.key) (trimmed_entries state pairs) ≤ sum_by (λ pair. key_units pair.key) pairs
unfolding trimmed_entries
less state [] = omega arith
less state (pair ∷ pairs) = by (keeps_key state pair.key) (less state pairs)
  where
    units : List Pair → ℕ
    units ps = sum_by (λ p. key_units p.key) ps

    by : (b : Bool) → units (map (trimmed_entry state) (filter (λ p. keeps_key state p.key) pairs)) ≤ units pairs
        → units (Left state pair pairs b) ≤ units (pair ∷ pairs)
    by true le =
        omega (
          arith,
          le,
          sum_by-cons (λ p. key_units p.key) pair pairs,
          sum_by-cons (λ p. key_units p.key) (trimmed_entry state pair)
              (map (trimmed_entry state) (filter (λ p. keeps_key state p.key) pairs)),
        )
    by false le = omega (arith, le, sum_by-cons (λ p. key_units p.key) pair pairs)

entries_fit : (state : Objects) (pairs : List Pair) → AllByRecursion IsEntry pairs → AllByRecursion IsEntry (trimmed_entries state pairs)
unfolding trimmed_entries
entries_fit state [] all = tt
entries_fit state (pair ∷ pairs) all = by (keeps_key state pair.key) (entries_fit state pairs all.1)
  where
    by : (b : Bool) → AllByRecursion IsEntry (map (trimmed_entry state) (filter (λ p. keeps_key state p.key) pairs))
        → AllByRecursion IsEntry (Left state pair pairs b)
    by true rest = (record { key = all.0.key; value = holder_good state pair.value all.0.value }, rest)
    by false rest = rest

keys_fit : (P : Key → Type 0) (state : Objects) (pairs : List Pair) → AllByRecursion P (keys_of pairs)
    → AllByRecursion P (keys_of (trimmed_entries state pairs))
unfolding trimmed_entries
keys_fit P state [] all = tt
keys_fit P state (pair ∷ pairs) all = by (keeps_key state pair.key) (keys_fit P state pairs all.1)
  where
    by : (b : Bool) → AllByRecursion P (keys_of (map (trimmed_entry state) (filter (λ p. keeps_key state p.key) pairs)))
        → AllByRecursion P (keys_of (Left state pair pairs b))
    by true rest = (all.0, rest)
    by false rest = rest

distinct_left : (state : Objects) (pairs : List Pair) → HasDistinctKeys pairs → HasDistinctKeys (trimmed_entries state pairs)
unfolding trimmed_entries IsDistinct
distinct_left state [] all = tt
distinct_left state (pair ∷ pairs) all =
    by (keeps_key state pair.key) (distinct_left state pairs all.1) (keys_fit (λ y. eq_by_cmp key_cmp pair.key y ≡ false) state pairs all.0)
  where
    by : (b : Bool) → HasDistinctKeys (map (trimmed_entry state) (filter (λ p. keeps_key state p.key) pairs))
        → AllByRecursion (λ y. eq_by_cmp key_cmp pair.key y ≡ false)
        (keys_of (map (trimmed_entry state) (filter (λ p. keeps_key state p.key) pairs)))
        → HasDistinctKeys (Left state pair pairs b)
    by true rest apart = (apart, rest)
    by false rest apart = rest

values_named : (state : Objects) (pairs : List Pair)
    → AllByRecursion (Named state) (flat_map (λ p. named_by p.value) (trimmed_entries state pairs))
unfolding trimmed_entries
values_named state [] = tt
values_named state (pair ∷ pairs) = by (keeps_key state pair.key) (values_named state pairs)
  where
    by : (b : Bool) → AllByRecursion (Named state)
        (flat_map (λ p. named_by p.value) (map (trimmed_entry state) (filter (λ p. keeps_key state p.key) pairs)))
        → AllByRecursion (Named state) (flat_map (λ p. named_by p.value) (Left state pair pairs b))
    by true rest =
        subst (AllByRecursion (Named state))
        (sym (flat_map-cons (λ (p : Pair). named_by p.value) (trimmed_entry state pair)
        (map (trimmed_entry state) (filter (λ p. keeps_key state p.key) pairs))))
        (all_append (Named state) (named_by (trimmed_holder state pair.value))
        (flat_map (λ p. named_by p.value) (map (trimmed_entry state) (filter (λ p. keeps_key state p.key) pairs)))
        (holder_named state pair.value) rest)
    by false rest = rest

abbrev pub AsKey : Objects → ℕ → Type 0
AsKey state n = IsTrue (can_be_key (get (trimmed state) n))

key_there : (top : ℕ) (state : Objects) (n : ℕ) → IsHeldKey top state n → is_some (get state n) ≡ true → AsKey state n
key_there top state n held so = ap can_be_key (get_trimmed state n) ∙ key_map state (get state n) ∙ by held.able
  where
    by : (get state n ≡ None) ⊎ IsTrue (can_be_key (get state n)) → can_be_key (get state n) ≡ true
    by (inl none) = absurd (not_none (sym so ∙ ap is_some none))
      where
        not_none : true ≡ false → ⊥
        not_none e = cc
    by (inr able) = able

key_named : (top : ℕ) (state : Objects) (key : Key) → AllByRecursion (IsHeldKey top state) (named_by_key key) → keeps_key state key ≡ true
    → AllByRecursion (AsKey state) (named_by_key key)
key_named top state keys.Nil held kept = tt
key_named top state keys.True held kept = tt
key_named top state (keys.Int n) held kept = tt
key_named top state (keys.Enum n) held kept = tt
key_named top state (keys.Prop n) held kept = tt
key_named top state (keys.Func n) held kept = tt
key_named top state (keys.Obj n) held kept = (key_there top state n held.0 kept, tt)
key_named top state (keys.Text bytes) held kept = tt

pub all_parts : {X : Type 0} (P : X → Type 0) (xs ys : List X) → AllByRecursion P (xs ++ ys) → AllByRecursion P xs × AllByRecursion P ys
all_parts P [] ys all = (tt, all)
all_parts P (x ∷ xs) ys all = let p = all_parts P xs ys all.1 in ((all.0, p.0), p.1)

keys_named : (top : ℕ) (state : Objects) (pairs : List Pair)
    → AllByRecursion (IsHeldKey top state) (flat_map (λ p. named_by_key p.key) pairs)
    → AllByRecursion (AsKey state) (flat_map (λ p. named_by_key p.key) (trimmed_entries state pairs))
unfolding trimmed_entries
keys_named top state [] held = tt
keys_named top state (pair ∷ pairs) held =
    let parts = all_parts (IsHeldKey top state) (named_by_key pair.key) (flat_map (λ p. named_by_key p.key) pairs)
    (subst (AllByRecursion (IsHeldKey top state)) (flat_map-cons (λ (p : Pair). named_by_key p.key) pair pairs) held) in
    by (keeps_key state pair.key) refl parts.0 (keys_named top state pairs parts.1)
  where
    by : (b : Bool) → keeps_key state pair.key ≡ b → AllByRecursion (IsHeldKey top state) (named_by_key pair.key)
        → AllByRecursion (AsKey state) (flat_map (λ p. named_by_key p.key)
        (map (trimmed_entry state) (filter (λ p. keeps_key state p.key) pairs)))
        → AllByRecursion (AsKey state) (flat_map (λ p. named_by_key p.key) (Left state pair pairs b))
    by true so mine rest =
        subst (AllByRecursion (AsKey state))
        (sym (flat_map-cons (λ (p : Pair). named_by_key p.key) (trimmed_entry state pair)
        (map (trimmed_entry state) (filter (λ p. keeps_key state p.key) pairs))))
        (all_append (AsKey state) (named_by_key pair.key)
        (flat_map (λ p. named_by_key p.key) (map (trimmed_entry state) (filter (λ p. keeps_key state p.key) pairs)))
        (key_named top state pair.key mine so) rest)
    by false so mine rest = rest

prop_good : (state : Objects) (prop : ℕ × Holder) → IsProp prop → IsProp (trimmed_prop state prop)
prop_good state prop good = record { named = good.named; fits = good.fits; value = holder_good state prop.1 good.value }

props_named : (state : Objects) (props : List (ℕ × Holder))
    → AllByRecursion (Named state) (flat_map (λ (p : ℕ × Holder). named_by p.1) (map (trimmed_prop state) props))
props_named state [] = tt
props_named state (prop ∷ props) =
    subst (AllByRecursion (Named state))
    (sym (flat_map-cons (λ (p : ℕ × Holder). named_by p.1) (trimmed_prop state prop) (map (trimmed_prop state) props)))
    (all_append (Named state) (named_by (trimmed_holder state prop.1))
    (flat_map (λ (p : ℕ × Holder). named_by p.1) (map (trimmed_prop state) props))
    (holder_named state prop.1) (props_named state props))

pub value_good : (state : Objects) (v : Value) → IsSpellable v → IsSpellable (trimmed_value state v)
value_good state (Tads supers class props) good = (
  good.0,
  subst (AreCounted 2 IsProp) (sym (mapped_are (trimmed_holder state) props))
      (record {
        few = omega (arith, good.1.few, length-map (entries props) (trimmed_prop state));
        each = all_to IsProp IsProp (trimmed_prop state) (prop_good state) (entries props) good.1.each;
      }),
)
value_good state (Text bytes) good = good
value_good state (Items items) good =
    record {
      few = omega (arith, good.few, length-map items (trimmed_holder state));
      each =
          all_to IsGoodHolder IsGoodHolder (trimmed_holder state) (holder_good state) items good.each;
    }
value_good state (Vector items) good =
    record {
      few = omega (arith, good.few, length-map items (trimmed_holder state));
      each =
          all_to IsGoodHolder IsGoodHolder (trimmed_holder state) (holder_good state) items good.each;
    }
value_good state (Table pairs default) good = (
  holder_good state default good.0,
  record { few = omega (arith, good.1.few, fewer state pairs); each = entries_fit state pairs good.1.each },
  distinct_left state pairs good.2,
)

pub value_named : (state : Objects) (v : Value) → IsSpellable v → AllByRecursion (Named state) (named_in (trimmed_value state v))
unfolding named_in
value_named state (Tads supers class props) good =
    subst (λ ps. AllByRecursion (Named state) (flat_map (λ (p : ℕ × Holder). named_by p.1) ps))
    (sym (mapped_are (trimmed_holder state) props))
    (props_named state (entries props))
value_named state (Text bytes) good = tt
value_named state (Items items) good = holders_named state items
value_named state (Vector items) good = holders_named state items
value_named state (Table pairs default) good =
    all_append (Named state) (named_by (trimmed_holder state default)) (flat_map (λ p. named_by p.value) (trimmed_entries state pairs))
    (holder_named state default) (values_named state pairs)

pub value_keys : (top : ℕ) (state : Objects) (v : Value) → AllByRecursion (IsHeldKey top state) (named_as_keys v)
    → AllByRecursion (AsKey state) (named_as_keys (trimmed_value state v))
unfolding named_as_keys
value_keys top state (Tads supers class props) held = tt
value_keys top state (Text bytes) held = tt
value_keys top state (Items items) held = tt
value_keys top state (Vector items) held = tt
value_keys top state (Table pairs default) held = keys_named top state pairs held

pub value_less : (state : Objects) (v : Value) → IsSpellable v → units_of (trimmed_value state v) ≤ units_of v
value_less state (Tads supers class props) good =
    omega (
      arith,
      len-entries props,
      len-entries (trimmed_props state props),
      ap length (mapped_are (trimmed_holder state) props),
      length-map (entries props) (trimmed_prop state),
    )
value_less state (Text bytes) good = omega arith
value_less state (Items items) good = omega (arith, length-map items (trimmed_holder state))
value_less state (Vector items) good = omega (arith, length-map items (trimmed_holder state))
value_less state (Table pairs default) good = less state pairs
