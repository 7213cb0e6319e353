-- When what a builder has is a complete state.
use Rattle.std.proofs.Common.{◌≡◌, ℕ, ◌≤◌, ◌^◌, Bool, true, false, List, Option, Some, None, IsTrue, IsSome, refl, sym, ap, subst, ◌∙◌, inl, inr, arith}
use Rattle.std.specs.Prelude.{is_some, not}
use Rattle.std.specs.Bool.{MatchBool}
use Rattle.std.specs.FinMap.{get, len, entries, from_entries}
use Rattle.std.specs.Ordering.{nat_cmp}
use Rattle.std.specs.List.{flat_map, AllByRecursion}
use Rattle.t3_store.specs.Value.{Value, Objects, units_in}
use Rattle.t3_store.specs.Whole.{IsWhole, supers_in}
use Rattle.t3_snapshot.specs.State.{named_in, named_as_keys, can_be_key, IsComplete}
use Rattle.t3_snapshot.specs.Building.{IsLost, IsKept, HasObjects}
use Rattle.t3_snapshot.specs.Inner.Body.{NamesObjects}
use Rattle.t3_snapshot.specs.declared.builder.StateBuilder.{StateBuilder}
use Rattle.t3_snapshot.proofs.Turn.{entries_are}

lost_incomplete : (next : ℕ) (state : Objects) → IsLost next state → ¬ IsComplete state next
lost_incomplete next state (inl far) complete = absurd (omega (arith, complete.next))
lost_incomplete next state (inr (inl few)) complete = absurd (omega (arith, complete.objects))
lost_incomplete next state (inr (inr units)) complete = absurd (omega (arith, complete.units))

if_lost : (next : ℕ) (state : Objects) (objects : List (ℕ × Value)) (b : Bool) → IsKept next state objects b → b ≡ false
    → IsLost next (from_entries objects)
if_lost next state objects true kept so = absurd cc
if_lost next state objects false kept so = kept

if_kept : (next : ℕ) (state : Objects) (objects : List (ℕ × Value)) (b : Bool) → IsKept next state objects b → b ≡ true
    → (state ≡ from_entries objects) × (next ≤ 2 ^ 31)
if_kept next state objects true kept so = kept
if_kept next state objects false kept so = absurd cc

pub not_kept : (next : ℕ) (objects : List (ℕ × Value)) (builder : StateBuilder) → HasObjects next objects builder
    → builder.is_kept ≡ false → ¬ IsComplete (from_entries objects) next
not_kept next objects builder has so =
    lost_incomplete next (from_entries objects) (if_lost next builder.state objects builder.is_kept has.so_far so)

-- the objects that the entries of the map name
abbrev all_named : List (ℕ × Value) → List ℕ
all_named objects = flat_map (λ (o : ℕ × Value). named_in o.1) (entries (from_entries {R = nat_cmp} objects))

-- and those that they name as keys
abbrev all_keys : List (ℕ × Value) → List ℕ
all_keys objects = flat_map (λ (o : ℕ × Value). named_as_keys o.1) (entries (from_entries {R = nat_cmp} objects))

holders_are : (next : ℕ) (objects : List (ℕ × Value)) (builder : StateBuilder) → HasObjects next objects builder
    → builder.named.items ≡ all_named objects
holders_are next objects builder has =
    has.holders ∙ ap (flat_map (λ (o : ℕ × Value). named_in o.1)) (sym (entries_are 0 next objects has.turn))

keys_are : (next : ℕ) (objects : List (ℕ × Value)) (builder : StateBuilder) → HasObjects next objects builder
    → builder.named_as_keys.items ≡ all_keys objects
keys_are next objects builder has =
    has.keys ∙ ap (flat_map (λ (o : ℕ × Value). named_as_keys o.1)) (sym (entries_are 0 next objects has.turn))

-- each of these is an object
abbrev AreObjects : Objects → List ℕ → Type 0
AreObjects state numbers = AllByRecursion (λ number. IsSome (get state number)) numbers

-- each of these is an object that can be a key
abbrev CanBeKeys : Objects → List ℕ → Type 0
CanBeKeys state numbers = AllByRecursion (λ number. IsTrue (can_be_key (get state number))) numbers

named_there : (next : ℕ) (objects : List (ℕ × Value)) (builder : StateBuilder) → HasObjects next objects builder
    → builder.is_kept ≡ true → IsComplete (from_entries objects) next → NamesObjects builder
named_there next objects builder has so complete =
    let whole = if_kept next builder.state objects builder.is_kept has.so_far so in
    record {
      holders = subst (λ m. AreObjects m builder.named.items) (sym whole.0)
          (subst (AreObjects (from_entries objects)) (sym (holders_are next objects builder has)) complete.references);
      keys = subst (λ m. CanBeKeys m builder.named_as_keys.items) (sym whole.0)
          (subst (CanBeKeys (from_entries objects)) (sym (keys_are next objects builder has)) complete.keys);
    }

pub not_named : (next : ℕ) (objects : List (ℕ × Value)) (builder : StateBuilder) → HasObjects next objects builder
    → builder.is_kept ≡ true → ¬ NamesObjects builder → ¬ IsComplete (from_entries objects) next
not_named next objects builder has so none complete = none (named_there next objects builder has so complete)

pub not_whole : (next : ℕ) (objects : List (ℕ × Value)) (builder : StateBuilder) → HasObjects next objects builder
    → builder.is_kept ≡ true → ¬ IsWhole (supers_in builder.state) → ¬ IsComplete (from_entries objects) next
not_whole next objects builder has so none complete =
    let whole = if_kept next builder.state objects builder.is_kept has.so_far so in
    none (subst (λ m. IsWhole (supers_in m)) (sym whole.0) complete.whole)

pub is_whole : (next : ℕ) (objects : List (ℕ × Value)) (builder : StateBuilder) → HasObjects next objects builder
    → builder.is_kept ≡ true → NamesObjects builder → IsWhole (supers_in builder.state) → len builder.state ≤ 1048576
    → units_in builder.state ≤ 4194304 → (builder.state ≡ from_entries objects) × IsComplete (from_entries objects) next
is_whole next objects builder has so named whole few units =
    let is = if_kept next builder.state objects builder.is_kept has.so_far so in (
      is.0,
      record {
        next = is.1;
        references = subst (AreObjects (from_entries objects)) (holders_are next objects builder has)
            (subst (λ m. AreObjects m builder.named.items) is.0 named.holders);
        keys = subst (CanBeKeys (from_entries objects)) (keys_are next objects builder has)
            (subst (λ m. CanBeKeys m builder.named_as_keys.items) is.0 named.keys);
        whole = subst (λ m. IsWhole (supers_in m)) is.0 whole;
        objects = subst (λ m. len m ≤ 1048576) is.0 few;
        units = subst (λ m. units_in m ≤ 4194304) is.0 units;
      },
    )

pub none_of : {X : Type 0} (o : Option X) (b : Bool) → is_some o ≡ not b → b ≡ true → o ≡ None
none_of None b told so = refl
none_of (Some x) true told so = absurd cc
none_of (Some x) false told so = absurd cc

pub some_of : {X : Type 0} (o : Option X) (b : Bool) → is_some o ≡ not b → b ≡ false → o ≡ None → ⊥
some_of None true told so none = absurd cc
some_of None false told so none = absurd cc
some_of (Some x) b told so none = absurd cc

pub told : (b : Bool) (P Q : Type 0) → (b ≡ true → P) → (b ≡ false → Q) → MatchBool b P Q
told true P Q is_so is_not = is_so refl
told false P Q is_so is_not = is_not refl
