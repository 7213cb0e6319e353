-- Superclasses stay whole: an object more.
use Rattle.std.proofs.Common.{◌≡◌, ◌∙◌, ap, sym, subst, refl, ℕ, zero, suc, ◌+◌, ◌<◌, ◌≤◌, ◌^◌, Bool, true, false, cond, nat_lt, get_or, List, [], ◌∷◌, length, Option, None, Some, is_some, true≢false, ltb-true, ltb-false, arith}
use Rattle.std.specs.Prelude.{Contains}
use Rattle.std.specs.List.{AllByRecursion}
use Rattle.std.specs.Ordering.{nat_cmp}
use Rattle.std.specs.Cmp.{nat_cmp_total}
use Rattle.std.specs.FinMap.{FinMap, get, insert, get-insert}
use Rattle.t3_undo.specs.Content.{Parts, Places}
use Rattle.t3_undo.specs.Objects.{Objects, Segment}
use Rattle.t3_tadsobj.specs.Order.{SupersAt, IsWalk}
use Rattle.t3_store.specs.Store.{either}
use Rattle.t3_store.specs.Whole.{AreThere, IsAcyclic}
use Rattle.t3_store.specs.Inner.Shapes.{Shape}
use Rattle.t3_store.specs.Inner.Store.{AreNumbered, IsSound}
use Rattle.t3_store.specs.Inner.Whole.{supers_by, supers_from, supers_of_both, IsGiven, AreGiven, AreOlderSupers, AreWhole}
use Rattle.t3_store.proofs.Rows.{same, same-is, same-itself, differs}

-- an object more, which no other has as its superclass
all-contained : (n : ℕ) (xs : List ℕ) (x : ℕ) → AllByRecursion (λ a. a ≡ n → ⊥) xs → Contains xs x → x ≡ n → ⊥
all-contained n [] x all has is = omega (arith, has.1)
all-contained n (y ∷ ys) x all has is = by has.0 has.1 has.2
  where
    at : (ys : List ℕ) (k : ℕ) → AllByRecursion (λ a. a ≡ n → ⊥) ys → k < length ys → get_or ys k x ≡ x → ⊥
    at [] k all h e = omega arith
    at (z ∷ zs) zero all h e = all.0 (e ∙ is)
    at (z ∷ zs) (suc k) all h e = at zs k all.1 (omega arith) e

    by : (k : ℕ) → k < length (y ∷ ys) → get_or (y ∷ ys) k x ≡ x → ⊥
    by k h e = at (y ∷ ys) k all h e

abbrev NamesNot : SupersAt → ℕ → Type 0
NamesNot at n = (q : ℕ) (supers : List ℕ) → at q ≡ Some supers → AllByRecursion (λ a. a ≡ n → ⊥) supers

walk-end : (at : SupersAt) (n : ℕ) → NamesNot at n → (path : List ℕ) (x above : ℕ) → IsWalk at x path above → above ≡ n → ⊥
walk-end at n not [] x above walk = all-contained n walk.supers above (not x walk.supers walk.are) walk.among
walk-end at n not (next ∷ path) x above walk = walk-end at n not path next above walk.1

walk-less : (at less : SupersAt) (n : ℕ) → NamesNot at n → ((q : ℕ) → (q ≡ n → ⊥) → at q ≡ less q)
    → (path : List ℕ) (x above : ℕ) → (x ≡ n → ⊥) → IsWalk at x path above → IsWalk less x path above
walk-less at less n not same [] x above apart walk =
    record { supers = walk.supers; are = sym (same x apart) ∙ walk.are; among = walk.among }
walk-less at less n not same (next ∷ path) x above apart walk = (
  record { supers = walk.0.supers; are = sym (same x apart) ∙ walk.0.are; among = walk.0.among },
  walk-less at less n not same path next above (all-contained n walk.0.supers next (not x walk.0.supers walk.0.are) walk.0.among) walk.1,
)

acyclic-more : (at less : SupersAt) (n : ℕ) → NamesNot at n → ((q : ℕ) → (q ≡ n → ⊥) → at q ≡ less q) → IsAcyclic less → IsAcyclic at
acyclic-more at less n not same acyclic q walk =
    acyclic q (walk.0, walk-less at less n not same walk.0 q q (walk-end at n not walk.0 q q walk.1) walk.1)

there-more : (at more : SupersAt) (n : ℕ) (supers : List ℕ) → at n ≡ None → ((q : ℕ) → (q ≡ n → ⊥) → more q ≡ at q) → AreThere at supers
    → AreThere more supers
there-more at more n [] none same there = tt
there-more at more n (a ∷ rest) none same there = (
  ap is_some (same a (λ e. true≢false (sym there.0 ∙ ap (λ q. is_some (at q)) e ∙ ap is_some none))) ∙ there.0,
  there-more at more n rest none same there.1,
)

there-not : (at : SupersAt) (n : ℕ) (supers : List ℕ) → at n ≡ None → AreThere at supers → AllByRecursion (λ a. a ≡ n → ⊥) supers
there-not at n [] none there = tt
there-not at n (a ∷ rest) none there =
    (λ e. true≢false (sym there.0 ∙ ap (λ q. is_some (at q)) e ∙ ap is_some none), there-not at n rest none there.1)

older-created : (at more : SupersAt) (n : ℕ) (places : FinMap nat_cmp Places) (ss : List Segment) → ((q : ℕ) → (q ≡ n → ⊥) → more q ≡ at q)
    → IsSound places n ss → AreOlderSupers at ss → AreOlderSupers more ss
older-created at more n places ss same sound all = by n ss (omega arith) sound all
  where
    by : (top : ℕ) (ss : List Segment) → top ≤ n → IsSound places top ss → AreOlderSupers at ss → AreOlderSupers more ss
    by top [] h sound all = tt
    by top (s ∷ ss) h sound all = (
      λ q supers l e. all.0 q supers l (sym (same q (λ is. omega (arith, sound.0))) ∙ e),
      by s.next ss (omega (arith, sound.0)) sound.3 all.1,
    )

pub given-more : (next next_transient more further : ℕ) (supers : List ℕ) → next ≤ more → next_transient ≤ further
    → AreGiven next next_transient supers → AreGiven more further supers
given-more next next_transient more further [] h l given = tt
given-more next next_transient more further (a ∷ rest) h l given =
    ((λ small. let g = given.0.0 small in omega arith, omega (arith, given.0.1)), given-more next next_transient more further rest h l given.1)

given-not : (next next_transient n : ℕ) (supers : List ℕ) → (IsGiven next next_transient n → ⊥) → AreGiven next next_transient supers
    → AllByRecursion (λ a. a ≡ n → ⊥) supers
given-not next next_transient n [] not given = tt
given-not next next_transient n (a ∷ rest) not given =
    (λ e. not (subst (IsGiven next next_transient) e given.0), given-not next next_transient n rest not given.1)

-- numbers of live objects were given
pub given-there : (at : SupersAt) (next next_transient : ℕ) (supers : List ℕ) → ((q : ℕ) → is_some (at q) ≡ true → IsGiven next next_transient q)
    → AreThere at supers → AreGiven next next_transient supers
given-there at next next_transient [] are there = tt
given-there at next next_transient (a ∷ rest) are there = (are a there.0, given-there at next next_transient rest are there.1)

pub some-supers : (o : Option (Shape × Parts)) → is_some (supers_by o) ≡ true → is_some o ≡ true
some-supers None e = e
some-supers (Some x) e = refl

pub live-persistent : (p t : Objects Shape) (next next_transient q : ℕ) → AreNumbered p t next next_transient → is_some (get p q) ≡ true → q < next
live-persistent p t next next_transient q are live = by (nat_lt q next) refl
  where
    by : (b : Bool) → nat_lt q next ≡ b → q < next
    by true e = ltb-true q next e
    by false e = absurd (true≢false (sym live ∙ ap is_some (are.persistent_below q (ltb-false q next e))))

live-transient : (p t : Objects Shape) (next next_transient q : ℕ) → AreNumbered p t next next_transient → is_some (get t q) ≡ true
    → IsGiven next next_transient q
live-transient p t next next_transient q are live = (λ small. low small (nat_lt q next) refl, high (nat_lt q next_transient) refl)
  where
    low : q < 2 ^ 31 → (b : Bool) → nat_lt q next ≡ b → q < next
    low small true e = ltb-true q next e
    low small false e = absurd (true≢false (sym live ∙ ap is_some (are.transient_low q (ltb-false q next e) small)))

    high : (b : Bool) → nat_lt q next_transient ≡ b → q < next_transient
    high true e = ltb-true q next_transient e
    high false e = absurd (true≢false (sym live ∙ ap is_some (are.transient_high q (ltb-false q next_transient e))))

given-persistent : (p t : Objects Shape) (next next_transient q : ℕ) → AreNumbered p t next next_transient → is_some (get p q) ≡ true
    → IsGiven next next_transient q
given-persistent p t next next_transient q are live =
    let less = live-persistent p t next next_transient q are live in
    (λ small. less, omega (arith, are.next_fits, are.transient_from))

pub given-live : (p t : Objects Shape) (next next_transient q : ℕ) → AreNumbered p t next next_transient → is_some (supers_of_both p t q) ≡ true
    → IsGiven next next_transient q
given-live p t next next_transient q are live = by (get p q) refl (some-supers (either (get p q) (get t q)) live)
  where
    by : (o : Option (Shape × Parts)) → get p q ≡ o → is_some (either o (get t q)) ≡ true → IsGiven next next_transient q
    by None e live = live-transient p t next next_transient q are live
    by (Some x) e live = given-persistent p t next next_transient q are (ap is_some e)

supers-inserted : (m : Objects Shape) (n q : ℕ) (x : Shape × Parts) → supers_from (insert m n x) q ≡ cond (same q n) (supers_by (Some x)) (supers_from m q)
supers-inserted m n q x = ap supers_by (get-insert nat_cmp_total m n x q) ∙ by (same q n)
  where
    by : (b : Bool) → supers_by (cond b (Some x) (get m q)) ≡ cond b (supers_by (Some x)) (supers_from m q)
    by true = refl
    by false = refl

inserted-other : (m : Objects Shape) (n q : ℕ) (x : Shape × Parts) → (q ≡ n → ⊥) → get (insert m n x) q ≡ get m q
inserted-other m n q x apart = get-insert nat_cmp_total m n x q ∙ ap (λ b. cond b (Some x) (get m q)) (differs q n apart)

at-inserted : (m : Objects Shape) (n q : ℕ) (x : Shape × Parts) (supers : List ℕ) → supers_from (insert m n x) q ≡ Some supers
    → (b : Bool) → same q n ≡ b → cond b (supers_by (Some x) ≡ Some supers) (supers_from m q ≡ Some supers)
at-inserted m n q x supers e true t = sym (ap (λ b. cond b (supers_by (Some x)) (supers_from m q)) t) ∙ sym (supers-inserted m n q x) ∙ e
at-inserted m n q x supers e false t = sym (ap (λ b. cond b (supers_by (Some x)) (supers_from m q)) t) ∙ sym (supers-inserted m n q x) ∙ e

apart-of : (q n : ℕ) → same q n ≡ false → q ≡ n → ⊥
apart-of q n e is = true≢false (sym (subst (λ k. same q k ≡ true) is (same-itself q)) ∙ e)

-- the superclasses of what is made
abbrev pub HasSupers : SupersAt → Shape × Parts → Type 0
HasSupers at x = (supers : List ℕ) → supers_by (Some x) ≡ Some supers → AreThere at supers

pub whole-created : (p t : Objects Shape) (next next_transient : ℕ) (places : FinMap nat_cmp Places) (ss : List Segment) (x : Shape × Parts)
    → AreNumbered p t next next_transient → next < 2 ^ 31 → IsSound places next ss → HasSupers (supers_from p) x
    → AreWhole (supers_from p) (supers_of_both p t) next next_transient ss
    → AreWhole (supers_from (insert p next x)) (supers_of_both (insert p next x) t) (next + 1) next_transient ss
whole-created p t next next_transient places ss x are low sound has whole = record {
  there = λ q supers e. there-more (supers_from p) (supers_from (insert p next x)) next supers none (λ a apart. ap supers_by (inserted-other p next a x apart))
      (old q supers e);
  older = older-created (supers_from p) (supers_from (insert p next x)) next places ss (λ a apart. ap supers_by (inserted-other p next a x apart)) sound whole.older;
  given = λ q supers e. given-more next next_transient (next + 1) next_transient supers (omega arith) (omega arith) (given q supers e);
  acyclic = acyclic-more (supers_of_both (insert p next x) t) (supers_of_both p t) next
      (λ q supers e. given-not next next_transient next supers (λ g. omega (arith, g.0 low)) (given q supers e)) other whole.acyclic;
}
  where
    none : supers_from p next ≡ None
    none = ap supers_by (are.persistent_below next (omega arith))

    other : (q : ℕ) → (q ≡ next → ⊥) → supers_of_both (insert p next x) t q ≡ supers_of_both p t q
    other q apart = ap (λ o. supers_by (either o (get t q))) (inserted-other p next q x apart)

    old : (q : ℕ) (supers : List ℕ) → supers_from (insert p next x) q ≡ Some supers → AreThere (supers_from p) supers
    old q supers e = by (same q next) refl
      where
        by : (b : Bool) → same q next ≡ b → AreThere (supers_from p) supers
        by true t = has supers (at-inserted p next q x supers e true t)
        by false t = whole.there q supers (at-inserted p next q x supers e false t)

    given : (q : ℕ) (supers : List ℕ) → supers_of_both (insert p next x) t q ≡ Some supers → AreGiven next next_transient supers
    given q supers e = by (same q next) refl
      where
        by : (b : Bool) → same q next ≡ b → AreGiven next next_transient supers
        by true is =
            let own : get (insert p next x) q ≡ Some x = get-insert nat_cmp_total p next x q ∙ ap (λ b. cond b (Some x) (get p q)) is in
            given-there (supers_from p) next next_transient supers (λ a live. given-persistent p t next next_transient a are (some-supers (get p a) live))
            (has supers (sym (ap (λ o. supers_by (either o (get t q))) own) ∙ e))
        by false is = whole.given q supers (sym (other q (apart-of q next is)) ∙ e)

either-second : (a b : Option (Shape × Parts)) → a ≡ None → either a b ≡ b
either-second None b e = refl
either-second (Some x) b e = cc

pub whole-made : (p t : Objects Shape) (next next_transient : ℕ) (ss : List Segment) (x : Shape × Parts) → AreNumbered p t next next_transient
    → HasSupers (supers_of_both p t) x → AreWhole (supers_from p) (supers_of_both p t) next next_transient ss
    → AreWhole (supers_from p) (supers_of_both p (insert t next_transient x)) next (next_transient + 1) ss
whole-made p t next next_transient ss x are has whole = record {
  there = whole.there;
  older = whole.older;
  given = λ q supers e. given-more next next_transient next (next_transient + 1) supers (omega arith) (omega arith) (given q supers e);
  acyclic = acyclic-more (supers_of_both p (insert t next_transient x)) (supers_of_both p t) next_transient
      (λ q supers e. given-not next next_transient next_transient supers (λ g. omega (arith, g.1)) (given q supers e)) other whole.acyclic;
}
  where
    other : (q : ℕ) → (q ≡ next_transient → ⊥) → supers_of_both p (insert t next_transient x) q ≡ supers_of_both p t q
    other q apart = ap (λ o. supers_by (either (get p q) o)) (inserted-other t next_transient q x apart)

    given : (q : ℕ) (supers : List ℕ) → supers_of_both p (insert t next_transient x) q ≡ Some supers → AreGiven next next_transient supers
    given q supers e = by (same q next_transient) refl
      where
        by : (b : Bool) → same q next_transient ≡ b → AreGiven next next_transient supers
        by true is =
            let here : q ≡ next_transient = same-is q next_transient is in
            let own : get (insert t next_transient x) q ≡ Some x =
            get-insert nat_cmp_total t next_transient x q ∙ ap (λ b. cond b (Some x) (get t q)) is in
            let none : get p q ≡ None = are.persistent_below q (omega (arith, are.next_fits, are.transient_from)) in
            given-there (supers_of_both p t) next next_transient supers (λ a live. given-live p t next next_transient a are live)
            (has supers (sym (ap supers_by (either-second (get p q) (get (insert t next_transient x) q) none ∙ own)) ∙ e))
        by false is = whole.given q supers (sym (other q (apart-of q next_transient is)) ∙ e)
