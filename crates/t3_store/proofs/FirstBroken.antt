-- What is broken is found by rising number, and where nothing is, superclasses are whole. Other crates may use these.
use Rattle.std.proofs.Common.{◌≡◌, ◌∙◌, ap, sym, subst, refl, ℕ, zero, suc, ◌<◌, ◌≤◌, Bool, true, false, nat_lt, length, ⊎_elim, List, [], ◌∷◌, Option, None, Some, true≢false, ltb-false, arith}
use Rattle.std.specs.Prelude.{Contains, IsSome, MatchOption, is_some, option_and_then, filter, cond}
use Rattle.std.specs.List.{AllByRecursion}
use Rattle.std.specs.FinMap.{get, keys}
use Rattle.std.proofs.lemmas.Bool.{cases_lt}
use Rattle.std.proofs.lemmas.List.Elements.{Contains-append_cases}
use Rattle.t3_tadsobj.specs.Order.{SupersAt, IsSuperclass, IsWalk}
use Rattle.t3_tadsobj.specs.Cycles.{IsFirstCyclic}
use Rattle.t3_tadsobj.proofs.OrderMembers.{each}
use Rattle.t3_store.specs.Value.{Objects, supers_of, IsNextAbove}
use Rattle.t3_store.specs.Whole.{AreThere, IsWhole, supers_in}
use Rattle.t3_store.specs.Broken.{LacksSuper, has_superclass, supers_or_none, IsOwnAncestor, IsNever, IsLeast, IsFirstBroken}
use Rattle.t3_store.specs.declared.broken.Broken.{Broken}
use Rattle.t3_store.specs.declared.broken.Broken.TheVariants.{Missing, Cycle}
use Rattle.t3_store.specs.Inner.Numbers.{has_number}
use Rattle.t3_store.proofs.RowNumbers.{NumbersRise, keys-rise, from-on}
use Rattle.t3_store.proofs.WholeWritten.{alike}

-- what isn't there has no superclass
pub apart-none : (objects : Objects) (n : ℕ) → get objects n ≡ None → supers_in objects n ≡ None
apart-none objects n none = ap (λ o. option_and_then supers_of o) none

pub lacks-there : (at : SupersAt) (n : ℕ) → at n ≡ None → LacksSuper at n → ⊥
lacks-there at n none lacks = absurd (cc (none, lacks.step.are))

own-live : (at : SupersAt) (n : ℕ) → IsOwnAncestor at n → IsSome (at n)
own-live at n walk = first walk.0 n walk.1
  where
    first : (path : List ℕ) (above : ℕ) → IsWalk at n path above → IsSome (at n)
    first [] above walk = ap is_some walk.are
    first (x ∷ path) above walk = ap is_some walk.0.are

-- a property of objects, by rising number
pub none-below : (objects : Objects) (P : ℕ → Type 0) → ((q : ℕ) → get objects q ≡ None → P q → ⊥) → get objects 0 ≡ None
    → (smaller : ℕ) → smaller ≤ 0 → P smaller → ⊥
none-below objects P there zero_none smaller least holds =
    there smaller (subst (λ (k : ℕ). get objects k ≡ None) (omega (arith, least)) zero_none) holds

between : (objects : Objects) (P : ℕ → Type 0) (n next : ℕ) → ((q : ℕ) → get objects q ≡ None → P q → ⊥)
    → IsNextAbove objects n (Some next) → ((smaller : ℕ) → smaller ≤ n → P smaller → ⊥)
    → (smaller : ℕ) → smaller < next → P smaller → ⊥
between objects P n next there above none smaller less holds =
    ⊎_elim
    (λ past. there smaller (above.2 smaller past less) holds)
    (λ before. none smaller before holds)
    (cases_lt n smaller)

pub least-found : (objects : Objects) (P : ℕ → Type 0) (n next : ℕ) → ((q : ℕ) → get objects q ≡ None → P q → ⊥)
    → IsNextAbove objects n (Some next) → ((smaller : ℕ) → smaller ≤ n → P smaller → ⊥) → P next → IsLeast P next
least-found objects P n next there above none holds = (holds, between objects P n next there above none)

pub none-left : (objects : Objects) (P : ℕ → Type 0) (n : ℕ) → ((q : ℕ) → get objects q ≡ None → P q → ⊥)
    → IsNextAbove objects n None → ((smaller : ℕ) → smaller ≤ n → P smaller → ⊥) → IsNever P
none-left objects P n there above none q holds =
    ⊎_elim (λ past. there q (above q past) holds) (λ before. none q before holds) (cases_lt n q)

-- what is its own ancestor has a superclass
positive : (n : ℕ) → 0 < n → nat_lt 0 n ≡ true
positive n more = by (nat_lt 0 n) refl
  where
    by : (b : Bool) → nat_lt 0 n ≡ b → b ≡ true
    by true e = refl
    by false e = absurd (let none = ltb-false 0 n e in omega arith)

some-supers : (supers : List ℕ) (above : ℕ) → Contains supers above → nat_lt 0 (length supers) ≡ true
some-supers [] above has = absurd (omega (arith, has.1))
some-supers (x ∷ supers) above has = positive (length (x ∷ supers)) (omega arith)

own-subclass : (at : SupersAt) (n : ℕ) → IsOwnAncestor at n → has_superclass at n ≡ true
own-subclass at n walk = first walk.0 n walk.1
  where
    step : (above : ℕ) → IsSuperclass at n above → has_superclass at n ≡ true
    step above is = subst (λ o. nat_lt 0 (length (supers_or_none o)) ≡ true) (sym is.are) (some-supers is.supers above is.among)

    first : (path : List ℕ) (above : ℕ) → IsWalk at n path above → has_superclass at n ≡ true
    first [] above walk = step above walk
    first (x ∷ path) above walk = step x walk.0

kept-among : (p : ℕ → Bool) (n : ℕ) (ns : List ℕ) → p n ≡ true → Contains ns n → Contains (filter p ns) n
kept-among p n [] is has = has
kept-among p n (m ∷ ns) is (zero, less, same) =
    let own : p m ≡ true = subst (λ k. p k ≡ true) (sym same) is in
    subst (λ b. Contains (cond b (m ∷ filter p ns) (filter p ns)) n) (sym own) (0, omega arith, same)
kept-among p n (m ∷ ns) is (suc k, less, same) = by (p m) (kept-among p n ns is (k, omega arith, same))
  where
    by : (b : Bool) → Contains (filter p ns) n → Contains (cond b (m ∷ filter p ns) (filter p ns)) n
    by true (k, less, same) = (suc k, omega arith, same)
    by false has = has

-- and numbers of which some are left out still rise
kept-above : (p : ℕ → Bool) (n : ℕ) (ns : List ℕ) → AllByRecursion (λ later. n < later) ns
    → AllByRecursion (λ later. n < later) (filter p ns)
kept-above p n [] all = tt
kept-above p n (m ∷ ns) all = by (p m) (kept-above p n ns all.1)
  where
    by : (b : Bool) → AllByRecursion (λ later. n < later) (filter p ns)
        → AllByRecursion (λ later. n < later) (cond b (m ∷ filter p ns) (filter p ns))
    by true rest = (all.0, rest)
    by false rest = rest

kept-rise : (p : ℕ → Bool) (ns : List ℕ) → NumbersRise ns → NumbersRise (filter p ns)
kept-rise p [] rises = tt
kept-rise p (n ∷ ns) rises = by (p n) (kept-rise p ns rises.1)
  where
    by : (b : Bool) → NumbersRise (filter p ns) → NumbersRise (cond b (n ∷ filter p ns) (filter p ns))
    by true rest = (kept-above p n ns rises.0, rest)
    by false rest = rest

-- the numbers of objects that have superclasses
abbrev pub subclasses : Objects → List ℕ
subclasses objects = filter (has_superclass (supers_in objects)) (keys objects)

-- the first of them, which rise, that is its own ancestor is the least object that is
own-numbered : (objects : Objects) (n : ℕ) → IsOwnAncestor (supers_in objects) n → Contains (subclasses objects) n
own-numbered objects n own =
    kept-among (has_superclass (supers_in objects)) n (keys objects) (own-subclass (supers_in objects) n own)
    (has_number objects n (own-live (supers_in objects) n own))

pub least-own : (objects : Objects) (found : Option ℕ) → IsFirstCyclic (supers_in objects) (subclasses objects) found
    → MatchOption found (IsNever (IsOwnAncestor (supers_in objects))) (λ n. IsLeast (IsOwnAncestor (supers_in objects)) n)
least-own objects None none = λ n own. none n (own-numbered objects n own) own
least-own objects (Some n) first = (
  first.itself,
  λ smaller less own.
      ⊎_elim
      (λ before. first.none_before smaller before own)
      (λ later. (
      let far = from-on first.before first.after n smaller (subst NumbersRise first.are
      (kept-rise (has_superclass (supers_in objects)) (keys objects) (keys-rise objects))) later in
      absurd (omega arith)
      ))
      (Contains-append_cases first.before (n ∷ first.after) smaller
      (subst (λ ns. Contains ns smaller) first.are (own-numbered objects smaller own))),
)

-- nothing is broken exactly where superclasses are whole
some-there : (at : SupersAt) (n : ℕ) (o : Option (List ℕ)) → at n ≡ o → (o ≡ None → ⊥) → is_some (at n) ≡ true
some-there at n None e not = absurd (not refl)
some-there at n (Some supers) e not = ap is_some e

pub none-lack : (at : SupersAt) → IsNever (LacksSuper at) → (n : ℕ) (supers : List ℕ) → at n ≡ Some supers → AreThere at supers
none-lack at never n supers are =
    each (λ above. IsSome (at above)) supers (λ above among. some-there at above (at above) refl
    (λ none. never n (record { above = above; step = record { supers = supers; are = are; among = among }; missing = none })))

pub whole-unbroken : (at : SupersAt) → IsFirstBroken at None → IsWhole at
whole-unbroken at none = record { there = none-lack at none.0; acyclic = none.1 }

there-contains : (at : SupersAt) (supers : List ℕ) (above : ℕ) → AreThere at supers → Contains supers above → is_some (at above) ≡ true
there-contains at [] above all has = absurd (omega (arith, has.1))
there-contains at (x ∷ supers) above all (zero, less, is) = subst (λ (k : ℕ). is_some (at k) ≡ true) is all.0
there-contains at (x ∷ supers) above all (suc k, less, is) = there-contains at supers above all.1 (k, omega arith, is)

pub whole-lacks-none : (at : SupersAt) (n : ℕ) → IsWhole at → LacksSuper at n → ⊥
whole-lacks-none at n whole lacks =
    true≢false (sym (there-contains at lacks.step.supers lacks.above (whole.there n lacks.step.supers lacks.step.are) lacks.step.among)
    ∙ ap is_some lacks.missing)

pub unbroken-whole : (at : SupersAt) (result : Option (ℕ × Broken)) → IsFirstBroken at result → IsWhole at → result ≡ None
unbroken-whole at None is whole = refl
unbroken-whole at (Some (n, Missing)) is whole = absurd (whole-lacks-none at n whole is.0)
unbroken-whole at (Some (n, Cycle)) is whole = absurd (whole.acyclic n is.1.0)

pub broken-whole : (at : SupersAt) (result : Option (ℕ × Broken)) → IsFirstBroken at result
    → ((result ≡ None → IsWhole at) × (IsWhole at → result ≡ None))
broken-whole at result is = (λ none. whole-unbroken at (subst (IsFirstBroken at) none is), unbroken-whole at result is)

-- superclasses that are the same are as whole
pub whole-alike : (at more : SupersAt) → ((number : ℕ) → at number ≡ more number) → IsWhole at → IsWhole more
whole-alike at more same whole = subst IsWhole (alike at more same) whole
