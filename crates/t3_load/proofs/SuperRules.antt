-- The rules on superclasses.
use Rattle.std.proofs.Common.{◌≡◌, ℕ, zero, suc, ◌≤◌, Bool, List, [], ◌∷◌, ◌++◌, None, Some, length, drop, refl, sym, ap, ◌∙◌, subst, arith}
use Rattle.t3_image_read.specs.declared.image.PlacedBlock.{PlacedBlock}
use Rattle.t3_store.specs.declared.limits.StoreLimits.{StoreLimits}
use Rattle.t3_tadsobj.specs.Cycles.{HasNoCyclic, IsFirstAmong}
use Rattle.std.proofs.lemmas.List.Elements.{Contains-append_right}
use Rattle.t3_load.specs.Inner.Numbers.{has_number}
use Rattle.t3_load.specs.ImageObjects.{object_numbers}
use Rattle.t3_load.specs.declared.objects.ImageObject.{ImageObject}
use Rattle.t3_load.specs.Names.{metas_in}
use Rattle.t3_load.specs.ImageObjects.{supers_by, lacks_super, has_transient_super, IsOwnAncestor}
use Rattle.t3_load.specs.Statics.{statics_in, kind_at}
use Rattle.t3_pools.specs.First.{IsFirst}
use Rattle.t3_load.specs.Rules.{Breaks, KeepsRules, AreObjectsIn, OfObjects, first_by}
use Rattle.t3_load.proofs.RuleSteps.{kept_one, kept_none}
use Rattle.t3_pools.proofs.Firsts.{none_first}
use Rattle.t3_load.specs.Inner.Deciding.{IsFirstBroken}
use Rattle.t3_load.specs.declared.refusal.LoadRefusal.TheVariants.{SuperCycle}
use Rattle.std.specs.List.{AllByRecursion}
use Rattle.t3_tadsobj.specs.Order.{SupersAt, IsWalk, IsAncestor}
use Rattle.t3_store.specs.Whole.{IsAcyclic}
use Rattle.std.specs.Prelude.{IsSome, is_some}
use Rattle.t3_load.proofs.OneObject.{one_list_of}

-- behind the last there is none
pub none_by : (test : ImageObject → Bool) (items all : List ImageObject) (i : ℕ) → length items ≤ i
    → first_by test (drop i items) ≡ first_by test all → first_by test all ≡ None
none_by test items all i far is = sym is ∙ ap (first_by test) (behind items i far)
  where
    behind : (xs : List ImageObject) (i : ℕ) → length xs ≤ i → drop i xs ≡ []
    behind [] zero far = refl
    behind [] (suc i) far = refl
    behind (x ∷ xs) zero far = absurd (omega arith)
    behind (x ∷ xs) (suc i) far = behind xs i (omega arith)

-- what holds of the objects of an image holds of these
pub of_these : (blocks : List PlacedBlock) (objects : List ImageObject) (Holds : List ImageObject → Type 0) → AreObjectsIn blocks objects
    → OfObjects blocks Holds → Holds objects
of_these blocks objects Holds are of =
    subst Holds (one_list_of (kind_at (metas_in blocks)) (statics_in blocks) of.objects objects of.are are) of.holds

-- rule 10 is kept
pub there_kept : (blocks : List PlacedBlock) (objects : List ImageObject) → AreObjectsIn blocks objects
    → first_by (lacks_super objects) objects ≡ None → (limits : StoreLimits) → KeepsRules blocks limits 10 11
there_kept blocks objects are none limits =
    kept_one blocks limits 10 (λ why of broken.
    let found : first_by (lacks_super objects) objects ≡ Some of.0 =
    of_these blocks objects (λ os. first_by (lacks_super os) os ≡ Some of.0) are
    (subst (λ w. Breaks blocks limits w) of.1 broken) in absurd cc)

-- rule 12 is kept
pub persistent_kept : (blocks : List PlacedBlock) (objects : List ImageObject) → AreObjectsIn blocks objects
    → first_by (has_transient_super objects) objects ≡ None → (limits : StoreLimits) → KeepsRules blocks limits 12 13
persistent_kept blocks objects are none limits =
    kept_one blocks limits 12 (λ why of broken.
    let found : first_by (has_transient_super objects) objects ≡ Some of.0 =
    of_these blocks objects (λ os. first_by (has_transient_super os) os ≡ Some of.0) are
    (subst (λ w. Breaks blocks limits w) of.1 broken) in absurd cc)

-- the object of a number in the row of all numbers, and those before and behind it
record SplitsAt (objects : List ImageObject) (before : List ℕ) (n : ℕ) : Type 0 where
  front : List ImageObject
  object : ImageObject
  behind : List ImageObject
  are : objects ≡ front ++ object ∷ behind
  numbered : object.number ≡ n
  front_numbers : object_numbers front ≡ before

split_at : (objects : List ImageObject) (before after : List ℕ) (n : ℕ) → object_numbers objects ≡ before ++ n ∷ after
    → SplitsAt objects before n
split_at [] [] after n e = absurd cc
split_at [] (b ∷ before) after n e = absurd cc
split_at (o ∷ objects) [] after n e =
    record { front = []; object = o; behind = objects; are = refl; numbered = cc e; front_numbers = refl }
split_at (o ∷ objects) (b ∷ before) after n e =
    let rest = split_at objects before after n (cc e) in
    let here : o.number ≡ b = cc e in
    record {
      front = o ∷ rest.front;
      object = rest.object;
      behind = rest.behind;
      are = ap (λ os. o ∷ os) rest.are;
      numbered = rest.numbered;
      front_numbers = λ i. here i ∷ rest.front_numbers i;
    }

-- objects of numbers none of which is its own ancestor
none_own : (objects some : List ImageObject) → HasNoCyclic (supers_by objects) (object_numbers some)
    → AllByRecursion (λ o. ¬ IsOwnAncestor objects o) some
none_own objects [] none = tt
none_own objects (o ∷ some) none = (
  none o.number (0, omega arith, refl),
  none_own objects some (λ n there. none n (Contains-append_right (o.number ∷ []) (object_numbers some) n there)),
)

-- rule 11 is broken at the first number that is its own ancestor
pub cycle_decides : (blocks : List PlacedBlock) (objects : List ImageObject) (n : ℕ)
    → IsFirstAmong (supers_by objects) (object_numbers objects) n → AreObjectsIn blocks objects
    → IsFirstBroken blocks 11 12 (SuperCycle n)
cycle_decides blocks objects n first are =
    let at = split_at objects first.before first.after n first.are in
    record {
      from_on = omega arith;
      before = omega arith;
      broken = λ limits. record {
        objects = objects;
        are = are;
        holds = (
          at.object,
          at.numbered,
          record {
            before = at.front;
            after = at.behind;
            is = at.are;
            kept = none_own objects at.front (subst (HasNoCyclic (supers_by objects)) (sym at.front_numbers) first.none_before);
            broken = subst (λ m. IsAncestor (supers_by objects) m m) (sym at.numbered) first.itself;
          },
        );
      };
      kept = λ limits. kept_none blocks limits 11;
    }

-- rule 11 is kept
pub acyclic_kept : (blocks : List PlacedBlock) (objects : List ImageObject) → AreObjectsIn blocks objects
    → HasNoCyclic (supers_by objects) (object_numbers objects) → (limits : StoreLimits) → KeepsRules blocks limits 11 12
acyclic_kept blocks objects are none limits =
    kept_one blocks limits 11 (λ why of broken.
    let first : (object : ImageObject) × (object.number ≡ of.0) × IsFirst (IsOwnAncestor objects) objects object =
    of_these blocks objects (λ os. (object : ImageObject) × (object.number ≡ of.0) × IsFirst (IsOwnAncestor os) os object) are
    (subst (λ w. Breaks blocks limits w) of.1 broken) in
    none_first (IsOwnAncestor objects) objects (none_own objects objects none) first.0 first.2)

pub first_step : (at : SupersAt) (n above : ℕ) (path : List ℕ) → IsWalk at n path above → IsSome (at n)
first_step at n above [] step = ap is_some step.are
first_step at n above (next ∷ path) walk = ap is_some walk.0.are

-- no number is its own ancestor where none of an object is
pub all_acyclic : (objects : List ImageObject) → HasNoCyclic (supers_by objects) (object_numbers objects) → IsAcyclic (supers_by objects)
all_acyclic objects none n ancestor =
    none n (has_number objects n (first_step (supers_by objects) n n ancestor.0 ancestor.1)) ancestor
