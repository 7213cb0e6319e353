-- Superclasses stay whole: a new store. Other crates may use these.
use Rattle.std.proofs.Common.{◌≡◌, ◌∙◌, ap, sym, subst, ℕ, List, [], ◌∷◌, Option, None, Some, is_some}
use Rattle.std.specs.Prelude.{option_and_then}
use Rattle.std.specs.FinMap.{get}
use Rattle.t3_undo.specs.Content.{Parts}
use Rattle.t3_undo.specs.Objects.{Objects, Segment}
use Rattle.t3_tadsobj.specs.Order.{SupersAt, IsWalk, IsAcyclicFrom}
use Rattle.t3_store.specs.Value.{supers_of}
use Rattle.t3_store.specs.Store.{StoreValue, either}
use Rattle.t3_store.specs.Whole.{AreThere, IsAcyclic, IsWhole, HasSupersIn, supers_of_live}
use Rattle.t3_store.specs.Inner.Shapes.{Shape, TadsShape, TextShape, ItemsShape, VectorShape, TableShape, values, value_of}
use Rattle.t3_store.specs.Inner.Store.{AreNumbered}
use Rattle.t3_store.specs.Inner.Whole.{supers_from, supers_of_both, AreWhole}
use Rattle.t3_store.proofs.Rows.{same}
use Rattle.t3_store.proofs.WholeWritten.{alike, supers-both}
use Rattle.t3_store.proofs.WholeMade.{HasSupers, given-live, given-there}

-- a new store
pub there-same : (at more : SupersAt) (supers : List ℕ) → ((q : ℕ) → at q ≡ more q) → AreThere at supers → AreThere more supers
there-same at more [] same there = tt
there-same at more (a ∷ rest) same there = (ap is_some (sym (same a)) ∙ there.0, there-same at more rest same there.1)

pub whole-started : (p t : Objects Shape) (next next_transient : ℕ) (first both : SupersAt) → AreNumbered p t next next_transient
    → ((q : ℕ) → first q ≡ supers_from p q) → ((q : ℕ) → both q ≡ supers_of_both p t q) → IsWhole first → IsWhole both
    → AreWhole (supers_from p) (supers_of_both p t) next next_transient []
whole-started p t next next_transient first both are one two whole also =
    subst (λ at. AreWhole at (supers_of_both p t) next next_transient []) (alike first (supers_from p) one)
    (subst (λ at. AreWhole first at next next_transient []) (alike both (supers_of_both p t) two) (record {
      there = whole.there;
      older = tt;
      given = λ q supers e. given-there both next next_transient supers
          (λ a live. given-live p t next next_transient a are (sym (ap is_some (two a)) ∙ live)) (also.there q supers e);
      acyclic = also.acyclic;
    }))

pub has-supers : (at from : SupersAt) (x : Shape × Parts) → ((q : ℕ) → at q ≡ from q) → HasSupersIn at (value_of x) → HasSupers from x
has-supers at from (TadsShape supers class, parts) same has found e =
    let is : supers ≡ found = cc in
    there-same at from found same (subst (AreThere at) is has)
has-supers at from (TextShape bytes, parts) same has found e = cc
has-supers at from (ItemsShape items, parts) same has found e = cc
has-supers at from (VectorShape, parts) same has found e = cc
has-supers at from (TableShape, parts) same has found e = cc

pub acyclic-live : (p t : Objects Shape) (s : StoreValue) (next next_transient : ℕ) (ss : List Segment) → s.persistent ≡ values p → s.transient ≡ values t
    → AreWhole (supers_from p) (supers_of_both p t) next next_transient ss → (n : ℕ) → IsAcyclicFrom (supers_of_live s) n
acyclic-live p t s next next_transient ss one other whole n =
    let same = alike (supers_of_both p t) (supers_of_live s) (λ q. sym (supers-both p t q)
    ∙ λ i. option_and_then supers_of (either (get (sym one i) q) (get (sym other i) q))) in
    let none = subst IsAcyclic same whole.acyclic in
    record { itself = none n; ancestors = λ above is. none above }

pub none-whole : (at : SupersAt) → ((q : ℕ) → at q ≡ None) → IsWhole at
none-whole at none = record {
  there = λ q supers e. (let both : ◌≡◌ {A = Option (List ℕ)} None (Some supers) = sym (none q) ∙ e in cc);
  acyclic = λ n walk. first n walk.0 n walk.1;
}
  where
    first : (n : ℕ) (path : List ℕ) (above : ℕ) → IsWalk at n path above → ⊥
    first n [] above walk = (let both : ◌≡◌ {A = Option (List ℕ)} None (Some walk.supers) = sym (none n) ∙ walk.are in cc)
    first n (x ∷ path) above walk = (let both : ◌≡◌ {A = Option (List ℕ)} None (Some walk.0.supers) = sym (none n) ∙ walk.0.are in cc)
