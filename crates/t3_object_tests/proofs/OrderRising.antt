-- Objects whose superclasses have smaller numbers: no walk comes back.
use Rattle.std.proofs.Common.{◌≡◌, ℕ, ◌<◌, ◌≤◌, Bool, true, false, cond, ltb, get_or, ◌&&◌, Option, Some, None, List, [], ◌∷◌, length, sym, refl, subst, arith}
use Rattle.std.specs.Prelude.{Contains, slice_get}
use Rattle.std.specs.List.{list_all, AllByRecursion}
use Rattle.std.specs.Global.{Vec}
use Rattle.std.proofs.lemmas.List.Elements.{All-contains, All-from_recursion}
use Rattle.std.proofs.lemmas.Option.{slice_get_past, slice_get_read}
use Rattle.std.proofs.lemmas.Bool.{ltb-true}
use Rattle.t3_tadsobj.specs.Order.{IsSuperclass, IsWalk, IsAcyclicFrom}
use Rattle.t3_object_tests.specs.Rising.{rising, rising_at}

passes_both : (b rest : Bool) → (b && rest) ≡ true → (b ≡ true) × (rest ≡ true)
passes_both true rest is = (refl, is)
passes_both false rest is = absurd cc

each_passes : (p : ℕ → Bool) (list : List ℕ) → list_all p list ≡ true → AllByRecursion (λ k. p k ≡ true) list
each_passes p [] all = tt
each_passes p (k ∷ list) all = let parts = passes_both (p k) (list_all p list) all in (parts.0, each_passes p list parts.1)

all_smaller : (n : ℕ) (list : List ℕ) (m : ℕ) → list_all (λ k. ltb k n) list ≡ true → Contains list m → m < n
all_smaller n list m all among =
    ltb-true m n (All-contains (λ k. ltb k n ≡ true) list m (All-from_recursion (λ k. ltb k n ≡ true) list
    (each_passes (λ k. ltb k n) list all)) among)

kept : (n : ℕ) (list supers : List ℕ) (above : ℕ) (b : Bool) → list_all (λ k. ltb k n) list ≡ b
    → cond b (Some list) None ≡ Some supers → Contains supers above → above < n
kept n list supers above true all is among =
    let equal : list ≡ supers = cc in all_smaller n list above all (subst (λ (xs : List ℕ). Contains xs above) (sym equal) among)
kept n list supers above false all is among = absurd cc

smaller : (n : ℕ) (o : Option (Vec ℕ)) (supers : List ℕ) (above : ℕ) → rising n o ≡ Some supers → Contains supers above → above < n
smaller n None supers above is among = absurd cc
smaller n (Some list) supers above is among = kept n list.items supers above (list_all (λ k. ltb k n) list.items) refl is among

steps_down : (lists : List (Vec ℕ)) (n above : ℕ) → IsSuperclass (rising_at lists) n above → above < n
steps_down lists n above step = smaller n (slice_get lists n) step.supers above step.are step.among

walks_down : (lists : List (Vec ℕ)) (n : ℕ) (path : List ℕ) (above : ℕ) → IsWalk (rising_at lists) n path above → above < n
walks_down lists n [] above walk = steps_down lists n above walk
walks_down lists n (next ∷ path) above walk =
    let first = steps_down lists n next walk.0 in
    let rest = walks_down lists next path above walk.1 in
    omega arith

pub rising_acyclic : (lists : List (Vec ℕ)) (n : ℕ) → IsAcyclicFrom (rising_at lists) n
rising_acyclic lists n = record {
  itself = λ walk. let less = walks_down lists n walk.0 n walk.1 in absurd (omega arith);
  ancestors = λ above up walk. let less = walks_down lists above walk.0 above walk.1 in absurd (omega arith);
}

-- ---- what a look-up answers

pub rising-past : (lists : List (Vec ℕ)) (n : ℕ) → length lists ≤ n → rising_at lists n ≡ None
rising-past lists n past = rw (slice_get_past lists n past) refl

pub rising-at : (lists : List (Vec ℕ)) (n : ℕ) (list : Vec ℕ) (b : Bool) → n < length lists → list ≡ get_or lists n list
    → b ≡ list_all (λ k. ltb k n) list.items → rising_at lists n ≡ cond b (Some list.items) None
rising-at lists n list b within read is = rw (slice_get_read lists (length lists) n list refl within read, is) refl
