-- Superclasses stay whole: a state in place of the persistent objects.
use Rattle.std.proofs.Common.{◌≡◌, ◌∙◌, ap, sym, refl, ℕ, zero, suc, ◌<◌, ◌≤◌, true, List, [], ◌∷◌, Option, None, Some, is_some, true≢false, arith}
use Rattle.std.specs.Prelude.{Contains}
use Rattle.std.specs.FinMap.{get}
use Rattle.t3_undo.specs.Content.{Parts}
use Rattle.t3_undo.specs.Objects.{Objects, Segment}
use Rattle.t3_tadsobj.specs.Order.{SupersAt, IsSuperclass, IsWalk}
use Rattle.t3_store.specs.Store.{either}
use Rattle.t3_store.specs.Whole.{AreThere, IsWhole}
use Rattle.t3_store.specs.Inner.Shapes.{Shape}
use Rattle.t3_store.specs.Inner.Whole.{supers_by, supers_from, supers_of_both, AreGiven, AreWhole}
use Rattle.t3_store.proofs.WholeMade.{some-supers, given-there, given-more}

-- what is among numbers that are there is there
among-there : (at : SupersAt) (supers : List ℕ) (above : ℕ) → AreThere at supers → Contains supers above → is_some (at above) ≡ true
among-there at [] above there has = absurd (omega (arith, has.1))
among-there at (n ∷ ns) above there (zero, less, is) = ap (λ q. is_some (at q)) (sym is) ∙ there.0
among-there at (n ∷ ns) above there (suc k, less, is) = among-there at ns above there.1 (k, omega arith, is)

-- the objects before and after, and the transient ones
module _ (old new t : Objects Shape) (whole : IsWhole (supers_from new)) where
  first : (q : ℕ) (supers : List ℕ) → is_some (get new q) ≡ true → supers_of_both new t q ≡ Some supers → supers_from new q ≡ Some supers
  first q supers some is = by (get new q) some is
    where
      by : (o : Option (Shape × Parts)) → is_some o ≡ true → supers_by (either o (get t q)) ≡ Some supers → supers_by o ≡ Some supers
      by None some is = absurd (true≢false (sym some))
      by (Some x) some is = is

  second : (q : ℕ) (supers : List ℕ) → ((q : ℕ) → is_some (get old q) ≡ true → get t q ≡ None) → get new q ≡ None
      → supers_of_both new t q ≡ Some supers → supers_of_both old t q ≡ Some supers
  second q supers apart none is = by (get old q) refl
    where
      here : supers_by (get t q) ≡ Some supers
      here = ap (λ o. supers_by (either o (get t q))) (sym none) ∙ is

      by : (o : Option (Shape × Parts)) → get old q ≡ o → supers_by (either o (get t q)) ≡ Some supers
      by None e = here
      by (Some x) e =
          let gone : ◌≡◌ {A = Option (List ℕ)} None (Some supers) = ap supers_by (sym (apart q (ap is_some e))) ∙ here in
          cc

  -- a superclass of an object of the state is one
  above-there : (n above : ℕ) → is_some (get new n) ≡ true → IsSuperclass (supers_of_both new t) n above → is_some (get new above) ≡ true
  above-there n above some step =
      some-supers (get new above)
      (among-there (supers_from new) step.supers above (whole.there n step.supers (first n step.supers some step.are)) step.among)

  inside : (path : List ℕ) (n above : ℕ) → is_some (get new n) ≡ true → IsWalk (supers_of_both new t) n path above
      → IsWalk (supers_from new) n path above
  inside [] n above some walk = record { supers = walk.supers; are = first n walk.supers some walk.are; among = walk.among }
  inside (next ∷ path) n above some walk = (
    record { supers = walk.0.supers; are = first n walk.0.supers some walk.0.are; among = walk.0.among },
    inside path next above (above-there n next some walk.0) walk.1,
  )

  -- and a walk to what is none has come by none
  outside : (path : List ℕ) (n above : ℕ) → ((q : ℕ) → is_some (get old q) ≡ true → get t q ≡ None) → get new above ≡ None
      → IsWalk (supers_of_both new t) n path above → (get new n ≡ None) × IsWalk (supers_of_both old t) n path above
  outside [] n above apart none walk = by (get new n) refl
    where
      by : (o : Option (Shape × Parts)) → get new n ≡ o → (get new n ≡ None) × IsSuperclass (supers_of_both old t) n above
      by None e = (e, record { supers = walk.supers; are = second n walk.supers apart e walk.are; among = walk.among })
      by (Some x) e = absurd (true≢false (sym (above-there n above (ap is_some e) walk) ∙ ap is_some none))
  outside (next ∷ path) n above apart none walk = by (outside path next above apart none walk.1) (get new n) refl
    where
      by : (get new next ≡ None) × IsWalk (supers_of_both old t) next path above → (o : Option (Shape × Parts)) → get new n ≡ o
          → (get new n ≡ None) × IsWalk (supers_of_both old t) n (next ∷ path) above
      by rest None e =
          (e, (record { supers = walk.0.supers; are = second n walk.0.supers apart e walk.0.are; among = walk.0.among }, rest.1))
      by rest (Some x) e = absurd (true≢false (sym (above-there n next (ap is_some e) walk.0) ∙ ap is_some rest.0))

pub whole-replaced : (old new t : Objects Shape) (next more next_transient : ℕ) (ss : List Segment) → IsWhole (supers_from new)
    → ((q : ℕ) → is_some (get old q) ≡ true → get t q ≡ None) → ((q : ℕ) → is_some (get new q) ≡ true → q < more)
    → next ≤ more → more ≤ next_transient → AreWhole (supers_from old) (supers_of_both old t) next next_transient ss
    → AreWhole (supers_from new) (supers_of_both new t) more next_transient []
whole-replaced old new t next more next_transient ss whole apart below high low before = record {
  there = whole.there;
  older = tt;
  given = given;
  acyclic = λ n walk. acyclic n walk (get new n) refl;
}
  where
    given : (q : ℕ) (supers : List ℕ) → supers_of_both new t q ≡ Some supers → AreGiven more next_transient supers
    given q supers is = by (get new q) refl
      where
        by : (o : Option (Shape × Parts)) → get new q ≡ o → AreGiven more next_transient supers
        by None e = given-more next next_transient more next_transient supers high (omega arith)
            (before.given q supers (second old new t whole q supers apart e is))
        by (Some x) e = given-there (supers_from new) more next_transient supers
            (λ a live. let less = below a (some-supers (get new a) live) in (λ small. less, omega arith))
            (whole.there q supers (first old new t whole q supers (ap is_some e) is))

    acyclic : (n : ℕ) (walk : (path : List ℕ) × IsWalk (supers_of_both new t) n path n) (o : Option (Shape × Parts)) → get new n ≡ o → ⊥
    acyclic n walk None e = before.acyclic n (walk.0, (outside old new t whole walk.0 n n apart e walk.1).1)
    acyclic n walk (Some x) e = whole.acyclic n (walk.0, inside old new t whole walk.0 n n (ap is_some e) walk.1)
