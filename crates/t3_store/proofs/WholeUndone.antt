-- Superclasses stay whole: a savepoint and an undo.
use Rattle.std.proofs.Common.{◌≡◌, ◌∙◌, ap, sym, refl, ℕ, zero, suc, ◌<◌, Bool, true, false, cond, nat_lt, List, [], ◌∷◌, take, drop, Option, None, Some, is_some, ltb-true, lt-ltb}
use Rattle.std.specs.List.{AllByRecursion}
use Rattle.std.specs.FinMap.{get}
use Rattle.t3_undo.specs.Content.{Parts}
use Rattle.t3_undo.specs.Objects as journaled
use Rattle.t3_undo.specs.Objects.{Objects, OldPart, Segment, with_part, before, put_back}
use Rattle.t3_undo.specs.Journal.{newest_next}
use Rattle.t3_undo.specs.UndoLaw as law
use Rattle.t3_undo.proofs.PuttingBack.{get-before}
use Rattle.t3_tadsobj.specs.Order.{SupersAt, IsWalk}
use Rattle.t3_store.specs.Store.{either}
use Rattle.t3_store.specs.Whole.{AreThere, IsAcyclic}
use Rattle.t3_store.specs.Inner.Shapes.{Shape}
use Rattle.t3_store.specs.Inner.Store.{AreNumbered}
use Rattle.t3_store.specs.Inner.Whole.{supers_by, supers_from, supers_of_both, AreOlderSupers, AreWhole}
use Rattle.t3_store.proofs.Rows.{same}
use Rattle.t3_store.proofs.WholeWritten.{supers-set}
use Rattle.t3_store.proofs.WholeMade.{live-persistent, some-supers}

-- what is put back leaves them too
supers-put : (rs : List OldPart) (m : Objects Shape) (q : ℕ) → supers_from (put_back m rs) q ≡ supers_from m q
unfolding put_back
supers-put [] m q = refl
supers-put (r ∷ rs) m q = supers-put rs (journaled.set_cell m r.number r.cell r.old) q ∙ supers-set m r.number r.cell r.old q

cond-supers : (b : Bool) (x : Option (Shape × Parts)) → supers_by (cond b x None) ≡ cond b (supers_by x) None
cond-supers true x = refl
cond-supers false x = refl

supers-before : (m : Objects Shape) (s : Segment) (q : ℕ) → supers_from (before m s) q ≡ cond (nat_lt q s.next) (supers_from m q) None
supers-before m s q =
    ap supers_by (get-before s m q) ∙ cond-supers (nat_lt q s.next) (get (put_back m s.records) q)
    ∙ ap (λ x. cond (nat_lt q s.next) x None) (supers-put s.records m q)

-- a walk in fewer superclasses is one in more
walk-more : (at more : SupersAt) → ((q : ℕ) (supers : List ℕ) → at q ≡ Some supers → more q ≡ Some supers)
    → (path : List ℕ) (n above : ℕ) → IsWalk at n path above → IsWalk more n path above
walk-more at more fewer [] n above walk = record { supers = walk.supers; are = fewer n walk.supers walk.are; among = walk.among }
walk-more at more fewer (next ∷ path) n above walk = (
  record { supers = walk.0.supers; are = fewer n walk.0.supers walk.0.are; among = walk.0.among },
  walk-more at more fewer path next above walk.1,
)

pub acyclic-fewer : (at more : SupersAt) → ((q : ℕ) (supers : List ℕ) → at q ≡ Some supers → more q ≡ Some supers) → IsAcyclic more → IsAcyclic at
acyclic-fewer at more fewer acyclic n walk = acyclic n (walk.0, walk-more at more fewer walk.0 n n walk.1)

below-there : (at less : SupersAt) (k : ℕ) (supers : List ℕ) → ((q : ℕ) → q < k → less q ≡ at q) → AreThere at supers
    → AllByRecursion (λ above. above < k) supers → AreThere less supers
below-there at less k [] same there lower = tt
below-there at less k (n ∷ ns) same there lower = (ap is_some (same n lower.0) ∙ there.0, below-there at less k ns same there.1 lower.1)

none-some : {X : Type 0} (b : Bool) (x : Option X) (y : X) → cond b x None ≡ Some y → (b ≡ true) × (x ≡ Some y)
none-some true x y e = (refl, e)
none-some false x y e = cc

older-fewer : (at less : SupersAt) (ss : List Segment) → ((q : ℕ) (supers : List ℕ) → less q ≡ Some supers → at q ≡ Some supers)
    → AreOlderSupers at ss → AreOlderSupers less ss
older-fewer at less [] fewer all = tt
older-fewer at less (s ∷ ss) fewer all = (λ q supers h e. all.0 q supers h (fewer q supers e), older-fewer at less ss fewer all.1)

cut-same : (at : SupersAt) (k q : ℕ) → q < k → cond (nat_lt q k) (at q) None ≡ at q
cut-same at k q h = ap (λ b. cond b (at q) None) (lt-ltb q k h)

-- an undo takes objects away, and of the superclasses of those that stay none
pub whole-undone : (p t : Objects Shape) (next next_transient newest : ℕ) (ss : List Segment)
    → ((q : ℕ) → is_some (get p q) ≡ true → get t q ≡ None) → newest_next ss ≡ Some newest
    → AreWhole (supers_from p) (supers_of_both p t) next next_transient ss
    → AreWhole (supers_from (law.undone p ss)) (supers_of_both (law.undone p ss) t) next next_transient (drop 1 ss)
whole-undone p t next next_transient newest [] apart e whole = cc
whole-undone p t next next_transient newest (s ∷ ss) apart e whole = record {
  there = λ q supers is. below-there (supers_from p) (supers_from (before p s)) s.next supers
      (λ n h. supers-before p s n ∙ cut-same (supers_from p) s.next n h)
      (whole.there q supers (fewer q supers is)) (whole.older.0 q supers (lower q supers is) (fewer q supers is));
  older = older-fewer (supers_from p) (supers_from (before p s)) ss fewer whole.older.1;
  given = λ q supers is. whole.given q supers (both-fewer q supers is);
  acyclic = acyclic-fewer (supers_of_both (before p s) t) (supers_of_both p t) both-fewer whole.acyclic;
}
  where
    pair : (q : ℕ) (supers : List ℕ) → supers_from (before p s) q ≡ Some supers → (nat_lt q s.next ≡ true) × (supers_from p q ≡ Some supers)
    pair q supers is = none-some (nat_lt q s.next) (supers_from p q) supers (sym (supers-before p s q) ∙ is)

    fewer : (q : ℕ) (supers : List ℕ) → supers_from (before p s) q ≡ Some supers → supers_from p q ≡ Some supers
    fewer q supers is = (none-some (nat_lt q s.next) (supers_from p q) supers (sym (supers-before p s q) ∙ is)).1

    lower : (q : ℕ) (supers : List ℕ) → supers_from (before p s) q ≡ Some supers → q < s.next
    lower q supers is = ltb-true q s.next (none-some (nat_lt q s.next) (supers_from p q) supers (sym (supers-before p s q) ∙ is)).0

    both-fewer : (q : ℕ) (supers : List ℕ) → supers_of_both (before p s) t q ≡ Some supers → supers_of_both p t q ≡ Some supers
    both-fewer q supers is = by (get (before p s) q) refl (get p q) refl is
      where
        by : (new : Option (Shape × Parts)) → get (before p s) q ≡ new → (old : Option (Shape × Parts)) → get p q ≡ old
            → supers_by (either new (get t q)) ≡ Some supers → supers_by (either old (get t q)) ≡ Some supers
        by (Some x) e None f is =
            let gone : supers_by (Some x) ≡ None =
            ap supers_by (sym e) ∙ supers-before p s q ∙ ap (λ o. cond (nat_lt q s.next) (supers_by o) None) f ∙ none-either (nat_lt q s.next) in
            let both : ◌≡◌ {A = Option (List ℕ)} (Some supers) None = sym is ∙ gone in
            cc
          where
            none-either : (b : Bool) → ◌≡◌ {A = Option (List ℕ)} (cond b None None) None
            none-either true = refl
            none-either false = refl
        by (Some x) e (Some y) f is =
            sym (ap supers_by f) ∙ (none-some (nat_lt q s.next) (supers_from p q) supers (sym (supers-before p s q) ∙ ap supers_by e ∙ is)).1
        by None e None f is = is
        by None e (Some y) f is =
            let gone : get t q ≡ None = apart q (ap is_some f) in
            let both : ◌≡◌ {A = Option (List ℕ)} None (Some supers) = sym (ap supers_by gone) ∙ is in
            cc

-- a savepoint
older-take : (at : SupersAt) (k : ℕ) (ss : List Segment) → AreOlderSupers at ss → AreOlderSupers at (take k ss)
older-take at zero ss all = tt
older-take at (suc k) [] all = tt
older-take at (suc k) (s ∷ ss) all = (all.0, older-take at k ss all.1)

all-below : (p t : Objects Shape) (next next_transient : ℕ) (supers : List ℕ) → AreNumbered p t next next_transient → AreThere (supers_from p) supers
    → AllByRecursion (λ a. a < next) supers
all-below p t next next_transient [] are there = tt
all-below p t next next_transient (a ∷ rest) are there =
    (live-persistent p t next next_transient a are (some-supers (get p a) there.0), all-below p t next next_transient rest are there.1)

pub whole-saved : (p t : Objects Shape) (serial next next_transient k : ℕ) (ss : List Segment) → AreNumbered p t next next_transient
    → AreWhole (supers_from p) (supers_of_both p t) next next_transient ss
    → AreWhole (supers_from p) (supers_of_both p t) next next_transient (record { serial = serial; next = next; records = [] } ∷ take k ss)
whole-saved p t serial next next_transient k ss are whole = record {
  there = whole.there;
  older = (λ q supers h e. all-below p t next next_transient supers are (whole.there q supers e), older-take (supers_from p) k ss whole.older);
  given = whole.given;
  acyclic = whole.acyclic;
}
