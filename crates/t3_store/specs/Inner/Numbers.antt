-- That a tads-object's number is among those of the objects, for the trait's law.
use Rattle.std.proofs.Common.{◌≡◌, ◌∙◌, ap, sym, refl, ℕ, Bool, true, false, ◌||◌, List, [], ◌∷◌, ◌++◌, Option, None, Some, is_some, true≢false, arith}
use Rattle.std.specs.Prelude.{IsSome, Contains, option_and_then}
use Rattle.std.specs.List.{list_any}
use Rattle.std.specs.Ordering.{nat_cmp, eq_by_cmp}
use Rattle.std.specs.Cmp.{Equal-is}
use Rattle.std.specs.FinMap.{get, keys, contains_key-keys, nat_cmp-IsAntisymmetric}
use Rattle.std.proofs.lemmas.List.Elements.{Contains-append_left, Contains-append_right}
use Rattle.t3_store.specs.Value.{Value, Objects, supers_of}
use Rattle.t3_store.specs.Store.{StoreValue, value_at, either}

found : (n : ℕ) (ns : List ℕ) → list_any (eq_by_cmp nat_cmp n) ns ≡ true → Contains ns n
found n [] e = absurd (true≢false (sym e))
found n (m ∷ ns) e = by (found n ns) (eq_by_cmp nat_cmp n m) refl e
  where
    by : (list_any (eq_by_cmp nat_cmp n) ns ≡ true → Contains ns n) → (b : Bool) → eq_by_cmp nat_cmp n m ≡ b → (b || list_any (eq_by_cmp nat_cmp n) ns) ≡ true → Contains (m ∷ ns) n
    by rest true t e = (0, omega arith, sym (nat_cmp-IsAntisymmetric n m ((Equal-is (nat_cmp n m)).0 t)))
    by rest false t e = Contains-append_right (m ∷ []) ns n (rest e)

some-value : (o : Option Value) → IsSome (option_and_then supers_of o) → is_some o ≡ true
some-value None live = live
some-value (Some value) live = refl

-- a live object's number is a key of the map
pub has_key : (objects : Objects) (n : ℕ) → is_some (get objects n) ≡ true → Contains (keys objects) n
has_key objects n live = found n (keys objects) (sym (contains_key-keys objects n) ∙ live)

pub has_number : (objects : Objects) (n : ℕ) → IsSome (option_and_then supers_of (get objects n)) → Contains (keys objects) n
has_number objects n live = has_key objects n (some-value (get objects n) live)

-- and in a store it is a key of one of the two
pub has_number_in : (s : StoreValue) (n : ℕ) → IsSome (option_and_then supers_of (value_at s n)) → Contains (keys s.persistent ++ keys s.transient) n
has_number_in s n live = by (get s.persistent n) refl (some-value (value_at s n) live)
  where
    by : (o : Option Value) → get s.persistent n ≡ o → is_some (either o (get s.transient n)) ≡ true
        → Contains (keys s.persistent ++ keys s.transient) n
    by None e live = Contains-append_right (keys s.persistent) (keys s.transient) n (has_key s.transient n live)
    by (Some v) e live = Contains-append_left (keys s.persistent) (keys s.transient) n (has_key s.persistent n (ap is_some e))
