-- The superclass order of an object in a store: that it is the one there is, what stands first in it, and how a search goes along it.
use Rattle.std.proofs.Common.{◌≡◌, ℕ, zero, suc, ◌+◌, ◌≤◌, Vec, Result, Ok, Err, ◌⊎◌, inl, inr, ⊎_elim, Bool, true, false, eqb, List, [], ◌∷◌, ◌++◌, length, Option, Some, None, refl, sym, ap, subst, ◌∙◌, arith}
use Rattle.std.specs.Prelude.{IfOk, Contains, option_and_then}
use Rattle.std.specs.List.{flat_map, list_any}
use Rattle.std.specs.FinMap.{keys, entries, len-entries}
use Rattle.std.proofs.lemmas.List.{length-append, length-map}
use Rattle.t3_holder.specs.declared.holder.Holder.{Holder}
use Rattle.t3_holder.specs.declared.no_memory.NoMemory.{NoMemory}
use Rattle.t3_undo.specs.declared.cell.Cell.TheVariants.{Prop}
use Rattle.t3_tadsobj.specs.Order.{SupersAt, list_from, preorder, last_places, IsSuperclass, IsAncestor, IsAcyclicFrom, IsLinearOrder}
use Rattle.t3_tadsobj.proofs.OrderMembers.{Has, Has-cases, Has-either, Has-from_contains, last_places-new}
use Rattle.t3_tadsobj.proofs.OrderDepth.{EndsWithin, ends, is_preorder, nearer, acyclic_above}
use Rattle.t3_tadsobj.proofs.OrderChains.{one_order, order_step, order_missing, order_last}
use Rattle.t3_store.specs.Value.{Value, Tads, Text, Items, Vector, Table, Objects, supers_of, holder_at}
use Rattle.t3_store.specs.Store.{StoreValue, value_at, objects_in}
use Rattle.t3_store.specs.Whole.{supers_of_live}
use Rattle.t3_store.specs.Inner.Numbers.{has_number_in}
use Rattle.t3_kinds.specs.declared.search.Place.TheVariants.{Here, Above, Nowhere}
use Rattle.t3_kinds.specs.Search.{order_of, searched, here_or_behind, property_of}
use Rattle.t3_kinds.specs.Inner.Finding.{place_at, place_by}

-- ---- the order is the one that there is

length-keys : (objects : Objects) → length (keys objects) ≡ length (entries objects)
length-keys objects = length-map (entries objects) (λ e. e.0)

numbers_fit : (s : StoreValue) → length (keys s.persistent ++ keys s.transient) ≤ objects_in s
numbers_fit s =
    let each = length-append (keys s.persistent) (keys s.transient) in
    let persistent = length-keys s.persistent ∙ sym (len-entries s.persistent) in
    let transient = length-keys s.transient ∙ sym (len-entries s.transient) in
    omega (arith, each, persistent, transient)

pub order_is : (s : StoreValue) (n : ℕ) → IsAcyclicFrom (supers_of_live s) n → IsLinearOrder (supers_of_live s) n (order_of s n)
unfolding order_of
order_is s n acyclic =
    let at = supers_of_live s in
    let depth = objects_in s in
    let numbers = keys s.persistent ++ keys s.transient in
    let all : EndsWithin at depth n = ends at depth numbers (numbers_fit s) n
    (λ m supers is. inl (Has-from_contains numbers m (has_number_in s m (rw is refl)))) acyclic in
    record { list = preorder at depth n; preorder = is_preorder at depth n all; is = refl }

pub same_order : (s : StoreValue) (n : ℕ) (order : List ℕ) → IsAcyclicFrom (supers_of_live s) n → IsLinearOrder (supers_of_live s) n order
    → order ≡ order_of s n
same_order s n order acyclic is = one_order (supers_of_live s) n order (order_of s n) is (order_is s n acyclic)

-- ---- what a preorder list has

abbrev Reaches : SupersAt → ℕ → ℕ → Type 0
Reaches at m k = (k ≡ m) ⊎ IsAncestor at m k

among_lists : (at : SupersAt) (list : ℕ → List ℕ) (k : ℕ) → ((m : ℕ) → Has (list m) k → Reaches at m k) → (supers : List ℕ)
    → Has (flat_map list supers) k → (j : ℕ) × Contains supers j × Reaches at j k
among_lists at list k each [] has = absurd cc
among_lists at list k each (m ∷ supers) has =
    ⊎_elim
    (λ here. (m, (0, omega arith, refl), each m here))
    (λ later.
    let found = among_lists at list k each supers later in
    (found.0, (suc found.1.0, omega (arith, found.1.1), found.1.2), found.2))
    (Has-either (list m) (flat_map list supers) k has)

above_all : (at : SupersAt) (list : ℕ → List ℕ) (m k : ℕ) (supers : List ℕ) → ((j : ℕ) → Has (list j) k → Reaches at j k) → at m ≡ Some supers
    → Has (flat_map list supers) k → IsAncestor at m k
above_all at list m k supers each is has =
    let found = among_lists at list k each supers has in
    let step : IsSuperclass at m found.0 = record { supers = supers; are = is; among = found.1 } in
    ⊎_elim
    (λ same. subst (λ (j : ℕ). IsAncestor at m j) (sym same) ([], step))
    (λ further. nearer at m found.0 k step further)
    found.2

reached : (at : SupersAt) (depth m k : ℕ) → Has (preorder at depth m) k → Reaches at m k
unfolding preorder
reached at zero m k has = absurd cc
reached at (suc depth) m k has = by (λ j. reached at depth j k) (at m) refl has
  where
    by : ((j : ℕ) → Has (preorder at depth j) k → Reaches at j k) → (o : Option (List ℕ)) → at m ≡ o
        → Has (list_from (preorder at depth) m o) k → Reaches at m k
    by each None is has = absurd cc
    by each (Some supers) is has =
        ⊎_elim (λ same. inl same)
        (λ later. inr (above_all at (preorder at depth) m k supers each is later))
        (Has-cases m k (flat_map (preorder at depth) supers) has)

-- ---- the object stands first

pub order_live : (at : SupersAt) (n : ℕ) (order supers : List ℕ) → IsLinearOrder at n order → IsAcyclicFrom at n → at n ≡ Some supers
    → (rest : List ℕ) × (order ≡ n ∷ rest)
unfolding preorder
order_live at n order supers whole acyclic is =
    let depth = whole.preorder.depth in
    let later : List ℕ = flat_map (preorder at depth) supers in
    let list : whole.list ≡ n ∷ later = sym (whole.preorder.is 1) ∙ deeper depth in
    let new : list_any (λ m. eqb n m) later ≡ false = absent depth _ refl in
    (last_places later, whole.is ∙ ap last_places list ∙ last_places-new n later new)
  where
    from : (depth : ℕ) (o : Option (List ℕ)) → at n ≡ o → o ≡ Some supers → preorder at (suc depth) n ≡ n ∷ flat_map (preorder at depth) supers
    from depth o same some = ap (list_from (preorder at depth) n) (same ∙ some)

    deeper : (depth : ℕ) → preorder at (depth + 1) n ≡ n ∷ flat_map (preorder at depth) supers
    deeper depth = let next : depth + 1 ≡ suc depth = omega arith in ap (λ d. preorder at d n) next ∙ from depth (at n) refl is

    absent : (depth : ℕ) (has : Bool) → list_any (λ m. eqb n m) (flat_map (preorder at depth) supers) ≡ has → has ≡ false
    absent depth true has = absurd (acyclic.itself (above_all at (preorder at depth) n n supers (λ j. reached at depth j n) is has))
    absent depth false has = refl

-- ---- a search goes along the order

abbrev has_prop : StoreValue → ℕ → ℕ → Option Holder
has_prop s n p = holder_at (value_at s n) (Prop p)

-- what has a property is a tads-object
live_by : (o : Option Value) (p : ℕ) (v : Holder) → holder_at o (Prop p) ≡ Some v → (supers : List ℕ) × (option_and_then supers_of o ≡ Some supers)
live_by None p v is = absurd cc
live_by (Some (Tads supers class props)) p v is = (supers, refl)
live_by (Some (Text bytes)) p v is = absurd cc
live_by (Some (Items items)) p v is = absurd cc
live_by (Some (Vector items)) p v is = absurd cc
live_by (Some (Table entries default)) p v is = absurd cc

first_of : (s : StoreValue) (p n : ℕ) (rest : List ℕ) (o : Option Holder) → has_prop s n p ≡ o
    → searched s p (n ∷ rest) ≡ here_or_behind n o (searched s p rest)
first_of s p n rest o is = ap (λ h. here_or_behind n h (searched s p rest)) is

pub found_here : (s : StoreValue) (n p : ℕ) (v : Holder) → IsAcyclicFrom (supers_of_live s) n → has_prop s n p ≡ Some v
    → property_of s n p ≡ Some (n, v)
found_here s n p v acyclic is =
    let live = live_by (value_at s n) p v is in
    let first = order_live (supers_of_live s) n (order_of s n) live.0 (order_is s n acyclic) acyclic live.1 in
    ap (searched s p) first.1 ∙ first_of s p n first.0 (Some v) is

pub found_above : (s : StoreValue) (n above p : ℕ) → IsAcyclicFrom (supers_of_live s) n → has_prop s n p ≡ None
    → supers_of_live s n ≡ Some (above ∷ []) → property_of s n p ≡ property_of s above p
found_above s n above p acyclic is supers =
    let at = supers_of_live s in
    let next = acyclic_above at n above (record { supers = above ∷ []; are = supers; among = (0, omega arith, refl) }) acyclic in
    let order = order_step at n above (order_of s above) supers (order_is s above next) in
    ap (searched s p) (sym (same_order s n (n ∷ order_of s above) acyclic order)) ∙ first_of s p n (order_of s above) None is

pub acyclic_next : (s : StoreValue) (n above : ℕ) → IsAcyclicFrom (supers_of_live s) n → supers_of_live s n ≡ Some (above ∷ [])
    → IsAcyclicFrom (supers_of_live s) above
acyclic_next s n above acyclic supers =
    acyclic_above (supers_of_live s) n above (record { supers = above ∷ []; are = supers; among = (0, omega arith, refl) }) acyclic

pub found_nowhere : (s : StoreValue) (n p : ℕ) → IsAcyclicFrom (supers_of_live s) n → has_prop s n p ≡ None
    → supers_of_live s n ≡ None → property_of s n p ≡ None
found_nowhere s n p acyclic is supers =
    ap (searched s p) (sym (same_order s n [] acyclic (order_missing (supers_of_live s) n supers)))

pub found_at_last : (s : StoreValue) (n p : ℕ) → IsAcyclicFrom (supers_of_live s) n → has_prop s n p ≡ None
    → supers_of_live s n ≡ Some [] → property_of s n p ≡ None
found_at_last s n p acyclic is supers =
    ap (searched s p) (sym (same_order s n (n ∷ []) acyclic (order_last (supers_of_live s) n supers)))
    ∙ first_of s p n [] None is

-- ---- by the place at which a search has come

place_here : (o : Option Holder) (supers : Option (List ℕ)) (v : Holder) → place_by o supers ≡ Here v → o ≡ Some v
place_here (Some w) supers v is = cc
place_here None None v is = absurd cc
place_here None (Some []) v is = absurd cc
place_here None (Some (n ∷ [])) v is = absurd cc
place_here None (Some (n ∷ m ∷ rest)) v is = absurd cc

place_above_one : (o : Option Holder) (supers : Option (List ℕ)) (above : ℕ) → place_by o supers ≡ Above above
    → (o ≡ None) × (supers ≡ Some (above ∷ []))
place_above_one (Some w) supers above is = absurd cc
place_above_one None None above is = absurd cc
place_above_one None (Some []) above is = absurd cc
place_above_one None (Some (n ∷ [])) above is = let same : n ≡ above = cc in (refl, ap (λ m. Some (m ∷ [])) same)
place_above_one None (Some (n ∷ m ∷ rest)) above is = absurd cc

place_nowhere : (o : Option Holder) (supers : Option (List ℕ)) → place_by o supers ≡ Nowhere
    → (o ≡ None) × ((supers ≡ None) ⊎ (supers ≡ Some []))
place_nowhere (Some w) supers is = absurd cc
place_nowhere None None is = (refl, inl refl)
place_nowhere None (Some []) is = (refl, inr refl)
place_nowhere None (Some (n ∷ [])) is = absurd cc
place_nowhere None (Some (n ∷ m ∷ rest)) is = absurd cc

pub here_by : (s : StoreValue) (n p : ℕ) (v : Holder) → IsAcyclicFrom (supers_of_live s) n → place_at s n p ≡ Here v
    → Some (n, v) ≡ property_of s n p
here_by s n p v acyclic is =
    sym (found_here s n p v acyclic (place_here (has_prop s n p) (supers_of_live s n) v is))

pub above_by : (s : StoreValue) (n p above : ℕ) → IsAcyclicFrom (supers_of_live s) n → place_at s n p ≡ Above above
    → (property_of s above p ≡ property_of s n p) × IsAcyclicFrom (supers_of_live s) above
above_by s n p above acyclic is =
    let place = place_above_one (has_prop s n p) (supers_of_live s n) above is in
    (sym (found_above s n above p acyclic place.0 place.1), acyclic_next s n above acyclic place.1)

pub nowhere_by : (s : StoreValue) (n p : ℕ) → IsAcyclicFrom (supers_of_live s) n → place_at s n p ≡ Nowhere → None ≡ property_of s n p
nowhere_by s n p acyclic is =
    let place = place_nowhere (has_prop s n p) (supers_of_live s n) is in
    sym (⊎_elim (found_nowhere s n p acyclic place.0) (found_at_last s n p acyclic place.0) place.1)

pub ok_order : {Z : Type 0} (s : StoreValue) (n : ℕ) (result : Result (Vec ℕ Z) NoMemory) → IsAcyclicFrom (supers_of_live s) n
    → IfOk result (λ order. IsLinearOrder (supers_of_live s) n order.items) → IfOk result (λ order. order.items ≡ order_of s n)
ok_order s n (Ok order) acyclic is = same_order s n order.items acyclic is
ok_order s n (Err e) acyclic is = tt
