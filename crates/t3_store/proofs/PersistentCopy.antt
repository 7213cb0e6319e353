-- The persistent objects by themselves: the lengths and the keys that their values have, and that their superclasses are whole.
use Rattle.std.proofs.Common.{◌≡◌, ◌∙◌, sym, subst, refl, ℕ, List, Option, None, Some}
use Rattle.std.specs.Option.{option_map}
use Rattle.std.specs.FinMap.{get}
use Rattle.t3_undo.specs.Content.{Parts}
use Rattle.t3_undo.specs.Objects.{Objects, Segment}
use Rattle.t3_tables.proofs.TableLists.{distinct-entries_of}
use Rattle.t3_store.specs.Value.{Value, Objects as Values, HasFittingLength}
use Rattle.t3_store.specs.Distinct.{HasDistinctEntries}
use Rattle.t3_store.specs.Store.{StoreValue, either, value_at}
use Rattle.t3_store.specs.Whole.{IsWhole, supers_in}
use Rattle.t3_store.specs.Inner.Shapes.{Shape, TadsShape, TextShape, ItemsShape, VectorShape, TableShape, value_of, values}
use Rattle.t3_store.specs.Inner.Valid.{IsValid, AreValid}
use Rattle.t3_store.specs.Inner.Whole.{supers_by, supers_from, supers_of_both, AreWhole}
use Rattle.t3_store.proofs.KindValues.{few-elements}
use Rattle.t3_store.proofs.MapValues.{get-values}
use Rattle.t3_store.proofs.WholeWritten.{alike, supers-values}
use Rattle.t3_store.proofs.WholeUndone.{acyclic-fewer}

fitting : (x : Shape × Parts) → IsValid x → HasFittingLength (value_of x)
fitting (TadsShape supers class, parts) valid = tt
fitting (TextShape bytes, parts) valid = valid.0
fitting (ItemsShape items, parts) valid = valid.0
fitting (VectorShape, parts) valid = few-elements (VectorShape, parts) valid
fitting (TableShape, parts) valid = tt

distinct : (x : Shape × Parts) → HasDistinctEntries (value_of x)
distinct (TadsShape supers class, parts) = tt
distinct (TextShape bytes, parts) = tt
distinct (ItemsShape items, parts) = tt
distinct (VectorShape, parts) = tt
distinct (TableShape, parts) = distinct-entries_of parts

-- what is so of each object's value is so of each value of the map
each-value : (P : Value → Type 0) (m : Objects Shape) → ((n : ℕ) (x : Shape × Parts) → get m n ≡ Some x → P (value_of x))
    → (n : ℕ) (value : Value) → get (values m) n ≡ Some value → P value
each-value P m own n value e = by (get m n) refl (sym (get-values m n) ∙ e)
  where
    by : (o : Option (Shape × Parts)) → get m n ≡ o → option_map value_of o ≡ Some value → P value
    by None is e = cc
    by (Some x) is e = let same : value_of x ≡ value = cc in subst P same (own n x is)

pub fitting-values : (m : Objects Shape) (objects : Values) → values m ≡ objects → AreValid m → (n : ℕ) (value : Value)
    → get objects n ≡ Some value → HasFittingLength value
fitting-values m objects same valid n value e =
    each-value HasFittingLength m (λ n x is. fitting x (valid n x is)) n value ((λ i. get (same i) n) ∙ e)

pub distinct-values : (m : Objects Shape) (objects : Values) → values m ≡ objects → (n : ℕ) (value : Value)
    → get objects n ≡ Some value → HasDistinctEntries value
distinct-values m objects same n value e =
    each-value HasDistinctEntries m (λ n x is. distinct x) n value ((λ i. get (same i) n) ∙ e)

-- and of each live object of a store
live-value : (P : Value → Type 0) (p t : Objects Shape) (s : StoreValue) → s.persistent ≡ values p → s.transient ≡ values t
    → ((n : ℕ) (x : Shape × Parts) → get p n ≡ Some x → P (value_of x)) → ((n : ℕ) (x : Shape × Parts) → get t n ≡ Some x → P (value_of x))
    → (n : ℕ) (value : Value) → value_at s n ≡ Some value → P value
live-value P p t s one other first second n value e =
    by (get (values p) n) refl (sym (λ i. either (get (one i) n) (get (other i) n)) ∙ e)
  where
    by : (o : Option Value) → get (values p) n ≡ o → either o (get (values t) n) ≡ Some value → P value
    by None is e = each-value P t second n value e
    by (Some v) is e = each-value P p first n value (is ∙ e)

pub fitting-live : (p t : Objects Shape) (s : StoreValue) → s.persistent ≡ values p → s.transient ≡ values t → AreValid p → AreValid t
    → (n : ℕ) (value : Value) → value_at s n ≡ Some value → HasFittingLength value
fitting-live p t s one other first second =
    live-value HasFittingLength p t s one other (λ n x is. fitting x (first n x is)) (λ n x is. fitting x (second n x is))

pub distinct-live : (p t : Objects Shape) (s : StoreValue) → s.persistent ≡ values p → s.transient ≡ values t
    → (n : ℕ) (value : Value) → value_at s n ≡ Some value → HasDistinctEntries value
distinct-live p t s one other =
    live-value HasDistinctEntries p t s one other (λ n x is. distinct x) (λ n x is. distinct x)

-- superclasses among the persistent objects are whole by themselves
first-some : (a b : Option (Shape × Parts)) (supers : List ℕ) → supers_by a ≡ Some supers → supers_by (either a b) ≡ Some supers
first-some None b supers e = cc
first-some (Some x) b supers e = e

pub whole-persistent : (p t : Objects Shape) (objects : Values) (next next_transient : ℕ) (ss : List Segment) → values p ≡ objects
    → AreWhole (supers_from p) (supers_of_both p t) next next_transient ss → IsWhole (supers_in objects)
whole-persistent p t objects next next_transient ss same whole =
    subst (λ o. IsWhole (supers_in o)) same (subst IsWhole (alike (supers_from p) (supers_in (values p)) (λ q. sym (supers-values p q))) (record {
      there = whole.there;
      acyclic = acyclic-fewer (supers_from p) (supers_of_both p t) (λ q supers e. first-some (get p q) (get t q) supers e) whole.acyclic;
    }))
