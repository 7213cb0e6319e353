-- Objects without superclasses aren't their own ancestors, so those that have some tell of all.
use Rattle.std.proofs.Common.{◌≡◌, ℕ, zero, suc, Bool, true, false, List, [], ◌∷◌, ◌++◌, Option, None, Some, length, filter, cond, nat_eq, option_and_then, ltb-false, refl, sym, ap, ◌∙◌, subst, arith}
use Rattle.std.specs.Prelude.{Contains}
use Rattle.std.specs.List.{IsDistinct}
use Rattle.std.proofs.lemmas.List.Elements.{Contains-append_right}
use Rattle.t3_store.specs.Value.{supers_of}
use Rattle.t3_tadsobj.specs.Order.{SupersAt, IsSuperclass, IsWalk, IsAncestor}
use Rattle.t3_tadsobj.specs.Cycles.{HasNoCyclic, IsFirstAmong, IsFirstCyclic}
use Rattle.t3_load.specs.declared.objects.ImageObject.{ImageObject}
use Rattle.t3_load.specs.ImageObjects.{value_of, object_numbers, supers_by, superclasses, or_none, IsOwnAncestor}
use Rattle.t3_load.specs.Inner.Supers.{has_supers}
use Rattle.t3_load.proofs.ByNumber.{object_found}

-- no walk begins at an object without superclasses
not_own : (objects : List ImageObject) (o : ImageObject) → IsDistinct nat_eq (object_numbers objects) → Contains objects o
    → has_supers o ≡ false → ¬ IsOwnAncestor objects o
not_own objects o distinct there none ancestor = no_walk ancestor.0 ancestor.1
  where
    no_step : (above : ℕ) → IsSuperclass (supers_by objects) o.number above → ⊥
    no_step above step =
        let found = ap (option_and_then (λ (x : ImageObject). supers_of (value_of x))) (object_found objects o distinct there) in
        let are : superclasses o ≡ step.supers = ap or_none (sym found ∙ step.are) in
        let few = ltb-false 0 (length (superclasses o)) none in
        omega (arith, ap length are, step.among.1)

    no_walk : (path : List ℕ) → IsWalk (supers_by objects) o.number path o.number → ⊥
    no_walk [] step = no_step o.number step
    no_walk (next ∷ path) walk = no_step next walk.0

-- what is known of the objects that are left out
abbrev AreNotOwn : SupersAt → List ImageObject → Type 0
AreNotOwn at some = (o : ImageObject) → Contains some o → has_supers o ≡ false → ¬ IsAncestor at o.number o.number

behind_first : (at : SupersAt) (o : ImageObject) (some : List ImageObject) → AreNotOwn at (o ∷ some) → AreNotOwn at some
behind_first at o some apart other there = apart other (Contains-append_right (o ∷ []) some other there)

with_first : (at : SupersAt) (m : ℕ) (ns : List ℕ) → ¬ IsAncestor at m m → HasNoCyclic at ns → HasNoCyclic at (m ∷ ns)
with_first at m ns apart none n (zero, less, is) = subst (λ k. ¬ IsAncestor at k k) is apart
with_first at m ns apart none n (suc k, less, is) = none n (k, omega (arith, less), is)

none_of_all : (at : SupersAt) (some : List ImageObject) → AreNotOwn at some
    → HasNoCyclic at (object_numbers (filter has_supers some)) → HasNoCyclic at (object_numbers some)
none_of_all at [] apart none = none
none_of_all at (o ∷ some) apart none = by (none_of_all at some (behind_first at o some apart)) (has_supers o) refl none
  where
    by : (HasNoCyclic at (object_numbers (filter has_supers some)) → HasNoCyclic at (object_numbers some))
        → (b : Bool) → has_supers o ≡ b → HasNoCyclic at (object_numbers (cond b (o ∷ filter has_supers some) (filter has_supers some)))
        → HasNoCyclic at (object_numbers (o ∷ some))
    by rest true e none =
        with_first at o.number (object_numbers some) (none o.number (0, omega arith, refl))
        (rest (λ n there. none n (Contains-append_right (o.number ∷ []) (object_numbers (filter has_supers some)) n there)))
    by rest false e none = with_first at o.number (object_numbers some) (apart o (0, omega arith, refl) e) (rest none)

-- one number more before the first
one_before : (at : SupersAt) (m : ℕ) (ns : List ℕ) (n : ℕ) → ¬ IsAncestor at m m → IsFirstAmong at ns n → IsFirstAmong at (m ∷ ns) n
one_before at m ns n apart first = record {
  before = m ∷ first.before;
  after = first.after;
  are = ap (λ ks. m ∷ ks) first.are;
  none_before = with_first at m first.before apart first.none_before;
  itself = first.itself;
}

-- the first of those with superclasses is the first of all
abbrev Widens : SupersAt → List ImageObject → ℕ → Type 0
Widens at some n = IsFirstAmong at (object_numbers (filter has_supers some)) n → IsFirstAmong at (object_numbers some) n

first_of_all : (at : SupersAt) (some : List ImageObject) (n : ℕ) → AreNotOwn at some
    → IsFirstAmong at (object_numbers (filter has_supers some)) n → IsFirstAmong at (object_numbers some) n
first_of_all at [] n apart first = first
first_of_all at (o ∷ some) n apart first = by (first_of_all at some n (behind_first at o some apart)) (has_supers o) refl first
  where
    here : Widens at some n → (before after : List ℕ) → object_numbers (o ∷ filter has_supers some) ≡ before ++ n ∷ after → HasNoCyclic at before
        → IsAncestor at n n → IsFirstAmong at (object_numbers (o ∷ some)) n
    here rest [] after e none itself =
        let is : o.number ≡ n = cc e in
        record { before = []; after = object_numbers some; are = λ i. is i ∷ object_numbers some; none_before = none; itself = itself }
    here rest (b ∷ before) after e none itself =
        let is : o.number ≡ b = cc e in
        one_before at o.number (object_numbers some) n
        (subst (λ k. ¬ IsAncestor at k k) (sym is) (none b (0, omega arith, refl)))
        (rest (record {
          before = before;
          after = after;
          are = cc e;
          none_before = λ m there. none m (Contains-append_right (b ∷ []) before m there);
          itself = itself;
        }))

    by : Widens at some n → (b : Bool) → has_supers o ≡ b
        → IsFirstAmong at (object_numbers (cond b (o ∷ filter has_supers some) (filter has_supers some))) n
        → IsFirstAmong at (object_numbers (o ∷ some)) n
    by rest true e first = here rest first.before first.after first.are first.none_before first.itself
    by rest false e first = one_before at o.number (object_numbers some) n (apart o (0, omega arith, refl) e) (rest first)

-- the first that is its own ancestor of those with superclasses is the first of all
pub cyclic_of_all : (objects items : List ImageObject) (numbers slice : List ℕ)
    → IsDistinct nat_eq (object_numbers objects) → items ≡ objects → numbers ≡ object_numbers (filter has_supers items) → slice ≡ numbers
    → (found : Option ℕ) → IsFirstCyclic (supers_by objects) slice found → IsFirstCyclic (supers_by objects) (object_numbers objects) found
cyclic_of_all objects items numbers slice distinct same are is found first =
    by found (subst (λ ns. IsFirstCyclic (supers_by objects) ns found) (is ∙ are ∙ ap (λ os. object_numbers (filter has_supers os)) same) first)
  where
    apart : AreNotOwn (supers_by objects) objects
    apart o there none = not_own objects o distinct there none

    by : (found : Option ℕ) → IsFirstCyclic (supers_by objects) (object_numbers (filter has_supers objects)) found
        → IsFirstCyclic (supers_by objects) (object_numbers objects) found
    by None first = none_of_all (supers_by objects) objects apart first
    by (Some n) first = first_of_all (supers_by objects) objects n apart first
