-- For other crates too: the objects of a sound state have good holders.
use Rattle.std.proofs.Common.{◌≡◌, ℕ, ◌<◌, ◌≤◌, ◌^◌, List, [], ◌∷◌, Option, Some, None, IsTrue, IsSome, refl, ap, subst, inl, inr, arith}
use Rattle.std.specs.Prelude.{option_and_then}
use Rattle.std.specs.FinMap.{get, entries}
use Rattle.std.specs.List.{AllByRecursion, flat_map}
use Rattle.std.proofs.lemmas.List.Concat.{flat_map-cons}
use Rattle.t3_holder.specs.declared.holder.Holder.{Holder}
use Rattle.t3_holder.specs.declared.holder.Holder.TheVariants as holders
use Rattle.t3_undo.specs.declared.key.Key.{Key}
use Rattle.t3_undo.specs.declared.key.Key.TheVariants as keys
use Rattle.t3_tables.specs.declared.pair.Pair.{Pair}
use Rattle.t3_store.specs.Value.{Value, Objects, Tads, Text, Items, Vector, Table, supers_of}
use Rattle.t3_tadsobj.specs.Props.{PropMap}
use Rattle.t3_store.specs.Whole.{supers_in, AreThere}
use Rattle.t3_snapshot.specs.Good.{IsGoodKey, IsGoodPair, HasGoodProps, HasGoodParts, AreNumbered, HasHeldKeys, AreGoodObjects}
use Rattle.t3_snapshot.specs.Layout.{IsGoodHolder, IsKey, IsEntry, IsProp, IsSpellable, AreInTurn}
use Rattle.t3_snapshot.specs.Savable.{IsHeldKey}
use Rattle.t3_snapshot.specs.State.{named_as_keys, can_be_key, IsSoundState}
use Rattle.t3_snapshot.proofs.Entries.{of_entry}
use Rattle.t3_snapshot.proofs.TrimmedValues.{all_parts}

-- ---- what stands in turn

-- what is known of an object that stands in turn
record IsInTurn (next : ℕ) (e : ℕ × Value) : Type 0 where
  numbered : (0 < e.0) × (e.0 < next)
  spellable : IsSpellable e.1

each_in_turn : (last next : ℕ) (es : List (ℕ × Value)) → AreInTurn last next es → AllByRecursion (IsInTurn next) es
each_in_turn last next [] turn = tt
each_in_turn last next (e ∷ es) turn =
    (record { numbered = (omega (arith, turn.0), turn.1); spellable = turn.2 }, each_in_turn e.0 next es turn.3)

in_turn_at : (objects : Objects) (next number : ℕ) (value : Value) → IsSoundState objects next → get objects number ≡ Some value
    → IsInTurn next (number, value)
in_turn_at objects next number value sound there =
    of_entry (IsInTurn next) objects number value (each_in_turn 0 next (entries objects) sound.turn) there

sound_numbered : (objects : Objects) (next : ℕ) → IsSoundState objects next → AreNumbered next objects
sound_numbered objects next sound number value there = (in_turn_at objects next number value sound there).numbered

-- ---- keys

-- what holds of what each gives holds of what one of them gives
parts_of : {A X : Type 0} (P : X → Type 0) (f : A → List X) (xs : List A) → AllByRecursion P (flat_map f xs)
    → AllByRecursion (λ x. AllByRecursion P (f x)) xs
parts_of P f [] all = tt
parts_of P f (x ∷ xs) all =
    let parts = all_parts P (f x) (flat_map f xs) (subst (AllByRecursion P) (flat_map-cons f x xs) all) in
    (parts.0, parts_of P f xs parts.1)

held_key : (objects : Objects) (next : ℕ) → AreNumbered next objects → (number : ℕ) → IsTrue (can_be_key (get objects number))
    → IsHeldKey next objects number
held_key objects next numbered number able = by (get objects number) refl
  where
    by : (o : Option Value) → get objects number ≡ o → IsHeldKey next objects number
    by None is = let none : IsTrue (can_be_key None) = subst (λ o. IsTrue (can_be_key o)) is able in absurd cc
    by (Some value) is = record { given = inl (numbered number value is).1; able = inr able }

held_keys : (objects : Objects) (next : ℕ) → AreNumbered next objects → (numbers : List ℕ)
    → AllByRecursion (λ number. IsTrue (can_be_key (get objects number))) numbers
    → AllByRecursion (IsHeldKey next objects) numbers
held_keys objects next numbered [] able = tt
held_keys objects next numbered (number ∷ numbers) able =
    (held_key objects next numbered number able.0, held_keys objects next numbered numbers able.1)

sound_keys : (objects : Objects) (next : ℕ) → IsSoundState objects next → HasHeldKeys next objects
sound_keys objects next sound number value there =
    held_keys objects next (sound_numbered objects next sound) (named_as_keys value)
    (of_entry (λ (e : ℕ × Value). AllByRecursion IsAble (named_as_keys e.1)) objects number value
    (parts_of IsAble (λ (e : ℕ × Value). named_as_keys e.1) (entries objects) sound.complete.keys) there)
  where
    IsAble : ℕ → Type 0
    IsAble n = IsTrue (can_be_key (get objects n))

-- objects of a sound state, with the parts given
pub sound_with_parts : (Good : Holder → Type 0) (objects : Objects) (next : ℕ) → IsSoundState objects next
    → ((number : ℕ) (value : Value) → get objects number ≡ Some value → HasGoodParts Good value) → AreGoodObjects Good next objects
sound_with_parts Good objects next sound parts =
    record { parts = parts; numbered = sound_numbered objects next sound; keys = sound_keys objects next sound }

-- ---- parts

good_key : (key : Key) → IsKey key → IsGoodKey IsGoodHolder key
good_key keys.Nil good = good
good_key keys.True good = good
good_key (keys.Int number) good = good
good_key (keys.Enum number) good = good
good_key (keys.Prop number) good = good
good_key (keys.Func address) good = good
good_key (keys.Obj number) good = good
good_key (keys.Text bytes) good = good

good_pairs : (pairs : List Pair) → AllByRecursion IsEntry pairs → AllByRecursion (IsGoodPair IsGoodHolder) pairs
good_pairs [] fit = tt
good_pairs (pair ∷ pairs) fit = (record { key = good_key pair.key fit.0.key; value = fit.0.value }, good_pairs pairs fit.1)

good_props : (props : PropMap) → AllByRecursion IsProp (entries props) → HasGoodProps IsGoodHolder props
good_props props fit number value there =
    let own = of_entry IsProp props number value fit there in
    record { named = own.named; fits = own.fits; value = own.value }

-- superclasses are objects, whose numbers begin at 1
good_supers : (objects : Objects) (next : ℕ) → AreNumbered next objects → (supers : List ℕ) → AreThere (supers_in objects) supers
    → AllByRecursion (λ number. number < 2 ^ 32) supers → AllByRecursion (λ number. IsGoodHolder (holders.Obj number)) supers
good_supers objects next numbered [] there fit = tt
good_supers objects next numbered (number ∷ supers) there fit =
    (record { fits = fit.0; good = positive (get objects number) refl there.0 }, good_supers objects next numbered supers there.1 fit.1)
  where
    positive : (o : Option Value) → get objects number ≡ o → IsSome (option_and_then supers_of o) → 0 < number
    positive None is there = absurd cc
    positive (Some value) is there = (numbered number value is).0

good_parts : (objects : Objects) (next : ℕ) → IsSoundState objects next → (number : ℕ) (value : Value) → get objects number ≡ Some value
    → IsSpellable value → HasGoodParts IsGoodHolder value
good_parts objects next sound number (Tads supers class props) there fit = (
  record {
    few = fit.0.few;
    each = good_supers objects next (sound_numbered objects next sound) supers
        (sound.complete.whole.there number supers (ap (option_and_then supers_of) there)) fit.0.each;
  },
  good_props props fit.1.each,
)
good_parts objects next sound number (Text bytes) there fit = fit
good_parts objects next sound number (Items items) there fit = fit.each
good_parts objects next sound number (Vector items) there fit = fit.each
good_parts objects next sound number (Table pairs default) there fit = record { pairs = good_pairs pairs fit.1.each; default = fit.0 }

pub sound_good : (objects : Objects) (next : ℕ) → IsSoundState objects next → AreGoodObjects IsGoodHolder next objects × (next ≤ 2 ^ 31)
sound_good objects next sound = (
  sound_with_parts IsGoodHolder objects next sound
      (λ number value there.
      good_parts objects next sound number value there (in_turn_at objects next number value sound there).spellable),
  sound.complete.next,
)
