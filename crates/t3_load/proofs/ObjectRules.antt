-- The rules on the objects of an image.
use Rattle.std.proofs.Common.{◌≡◌, ℕ, zero, suc, ◌+◌, ◌<◌, ◌≤◌, if◌then◌else◌, position, nat_lt, Bool, true, false, List, [], ◌∷◌, ◌++◌, Option, None, Some, not, length, map, take, drop, get_or, nat_eq, option_map, slice_get, refl, sym, ap, ◌∙◌, subst, arith}
use Rattle.std.specs.Prelude.{option_and_then, is_some, IfSome}
use Rattle.std.specs.Borrow.{Bor}
use Rattle.std.specs.List.{IsDistinct, AllByRecursion, position_or_len}
use Rattle.t3_blocks.specs.declared.items.Meta.{Meta}
use Rattle.t3_image_read.specs.declared.image.PlacedBlock.{PlacedBlock}
use Rattle.t3_store.specs.declared.limits.StoreLimits.{StoreLimits}
use Rattle.t3_load.specs.Rules.{first_bad}
use Rattle.t3_load.specs.Statics.{static_numbers}
use Rattle.t3_load.specs.ImageObjects.{object_numbers}
use Rattle.t3_load.specs.declared.kinds.KindEntry.{KindEntry}
use Rattle.t3_load.specs.declared.kinds.MetaKind.{MetaKind}
use Rattle.t3_load.specs.declared.objects.ImageObject.{ImageObject}
use Rattle.t3_load.specs.Names.{metas_in}
use Rattle.t3_load.specs.Kinds.{kind_entry_of, kind_named, numbers_of}
use Rattle.t3_load.specs.Statics.{StaticValue, statics_in, kind_at, IsObjectOf, AreObjectsOf}
use Rattle.t3_pools.specs.First.{IsFirst}
use Rattle.t3_load.specs.Rules.{Breaks, KeepsRules, IsFirstTwice, IsNoObject, AreObjectsIn}
use Rattle.t3_load.specs.Inner.Objects.{entry_kind_at, HasNumbers}
use Rattle.t3_load.specs.Inner.Deciding.{IsFirstBroken}
use Rattle.t3_load.specs.declared.refusal.LoadRefusal.TheVariants.{ObjectTwice, ObjectData}
use Rattle.std.proofs.lemmas.Bool.{ltb-true, ltb-false}
use Rattle.std.proofs.lemmas.List.{length-map, take-map, get_or-map, map-append, take_more}
use Rattle.t3_load.specs.ImageObjects.{object_of}
use Rattle.t3_load.proofs.RuleSteps.{kept_one, kept_both}
use Rattle.t3_pools.proofs.Firsts.{none_first}
use Rattle.t3_load.proofs.Firsts.{not_twice, parts_at}

-- rule 7 is kept
pub numbers_kept : (blocks : List PlacedBlock)
    → first_bad (statics_in blocks) ≡ None
    → (limits : StoreLimits) → KeepsRules blocks limits 7 8
numbers_kept blocks none limits =
    kept_one blocks limits 7 (λ why of broken.
    let found : first_bad (statics_in blocks) ≡ Some of.0 =
    subst (λ w. Breaks blocks limits w) of.1 broken in absurd cc)

-- rule 8 is kept
pub distinct_kept : (blocks : List PlacedBlock) → IsDistinct nat_eq (static_numbers (statics_in blocks))
    → (limits : StoreLimits) → KeepsRules blocks limits 8 9
distinct_kept blocks distinct limits =
    kept_one blocks limits 8 (λ why of broken.
    let twice : IsFirstTwice (static_numbers (statics_in blocks)) of.0 = subst (λ w. Breaks blocks limits w) of.1 broken in
    not_twice twice.before twice.after of.0 (subst (IsDistinct nat_eq) twice.is distinct) twice.twice)

all_are : (kind : ℕ → Option MetaKind) (statics : List StaticValue) (objects : List ImageObject) → AreObjectsOf kind statics objects
    → AllByRecursion (λ static. ¬ ((object : ImageObject) → ¬ IsObjectOf kind static object)) statics
all_are kind [] objects are = tt
all_are kind (static ∷ statics) [] are = absurd are
all_are kind (static ∷ statics) (object ∷ objects) are = ((λ none. none object are.0), all_are kind statics objects are.1)

-- rule 9 is kept
pub objects_kept : (blocks : List PlacedBlock) (objects : List ImageObject) → AreObjectsIn blocks objects
    → (limits : StoreLimits) → KeepsRules blocks limits 9 10
objects_kept blocks objects are limits =
    kept_one blocks limits 9 (λ why of broken.
    let first : (static : StaticValue) × (static.number ≡ of.0) × IsFirst (IsNoObject blocks) (statics_in blocks) static =
    subst (λ w. Breaks blocks limits w) of.1 broken in
    none_first (IsNoObject blocks) (statics_in blocks)
    (all_are (kind_at (metas_in blocks)) (statics_in blocks) objects are) first.0 first.2)

-- the first that gives no object
pub first_without : {Placed : Type 0} (of : Placed → StaticValue) (kind : ℕ → Option MetaKind) (statics : List Placed) (i : ℕ) (d : Placed)
    (objects : List ImageObject) → i < length statics → AreObjectsOf kind (map of (take i statics)) objects
    → ((object : ImageObject) → ¬ IsObjectOf kind (of (get_or statics i d)) object)
    → IsFirst (λ s. (object : ImageObject) → ¬ IsObjectOf kind s object) (map of statics) (of (get_or statics i d))
first_without of kind statics i d objects less are none = record {
  before = map of (take i statics);
  after = drop (suc i) (map of statics);
  is = parts_at (map of statics) i (of d) (of (get_or statics i d)) (omega (arith, less, length-map statics of))
      (get_or-map of statics i d (of d) less)
      ∙ ap (λ before. before ++ of (get_or statics i d) ∷ drop (suc i) (map of statics)) (take-map of i statics);
  kept = all_are kind (map of (take i statics)) objects are;
  broken = none;
}

-- one object more
pub are_more : (kind : ℕ
    → Option MetaKind) (statics : List StaticValue) (objects : List ImageObject) (static : StaticValue) (object : ImageObject)
    → AreObjectsOf kind statics objects → IsObjectOf kind static object
    → AreObjectsOf kind (statics ++ static ∷ []) (objects ++ object ∷ [])
are_more kind [] [] static object are is = (is, tt)
are_more kind [] (o ∷ objects) static object are is = absurd are
are_more kind (s ∷ statics) [] static object are is = absurd are
are_more kind (s ∷ statics) (o ∷ objects) static object are is = (are.0, are_more kind statics objects static object are.1 is)

-- one object more of those that stand there
pub are_next : {Placed : Type 0} (of : Placed → StaticValue) (kind : ℕ → Option MetaKind) (statics : List Placed) (i : ℕ) (d : Placed)
    (objects new : List ImageObject) (object : ImageObject) → i < length statics → AreObjectsOf kind (map of (take i statics)) objects
    → IsObjectOf kind (of (get_or statics i d)) object → new ≡ objects ++ object ∷ []
    → AreObjectsOf kind (map of (take (i + 1) statics)) new
are_next of kind statics i d objects new object less are is pushed =
    let front : map of (take (i + 1) statics) ≡ map of (take i statics) ++ of (get_or statics i d) ∷ [] =
    ap (map of) (take_more statics i d less) ∙ map-append of (take i statics) (get_or statics i d ∷ []) in
    subst (λ os. AreObjectsOf kind (map of (take (i + 1) statics)) os) (sym pushed)
    (subst (λ ss. AreObjectsOf kind ss (objects ++ object ∷ [])) (sym front)
    (are_more kind (map of (take i statics)) objects (of (get_or statics i d)) object are is))

kind_only : (props : List ℕ) (o : Option MetaKind)
    → option_map (λ (e : KindEntry). e.kind) (option_map (λ kind. record { kind = kind; props = props }) o) ≡ o
kind_only props None = refl
kind_only props (Some kind) = refl

-- the metaclass of an index in the table that was made
pub kind_of_entry : (metas : List Meta) (kinds : List KindEntry) → map kind_entry_of metas ≡ map Some kinds → (index : ℕ)
    → entry_kind_at kinds index ≡ kind_at metas index
kind_of_entry [] [] is index = refl
kind_of_entry [] (entry ∷ kinds) is index = absurd cc
kind_of_entry (meta ∷ metas) [] is index = absurd cc
kind_of_entry (meta ∷ metas) (entry ∷ kinds) is zero =
    let here : kind_entry_of meta ≡ Some entry = cc is in
    sym (ap (option_map (λ (e : KindEntry). e.kind)) here) ∙ kind_only (numbers_of meta.props) (kind_named meta.name)
kind_of_entry (meta ∷ metas) (entry ∷ kinds) is (suc index) = kind_of_entry metas kinds (cc is) index

-- objects have the numbers of those that stand there
pub same_numbers : (kind : ℕ → Option MetaKind) (statics : List StaticValue) (objects : List ImageObject)
    → AreObjectsOf kind statics objects
    → static_numbers statics ≡ object_numbers objects
same_numbers kind [] [] are = refl
same_numbers kind [] (o ∷ objects) are = absurd are
same_numbers kind (s ∷ statics) [] are = absurd are
same_numbers kind (s ∷ statics) (o ∷ objects) are = λ i. sym are.0.number i ∷ same_numbers kind statics objects are.1 i

-- the object of a number stands at the place of the number
at_number : (objects : List ImageObject) (n : ℕ)
    → slice_get objects (position_or_len (λ k. nat_eq n k) (object_numbers objects)) ≡ object_of objects n
at_number [] n = refl
at_number (o ∷ objects) n = by_test (nat_eq n o.number) (at_number objects n)
  where
    by_test : (b : Bool)
        → slice_get objects (position_or_len (λ k. nat_eq n k) (object_numbers objects)) ≡ object_of objects n
        → slice_get (o ∷ objects) (if not b then 1 + position_or_len (λ k. nat_eq n k) (object_numbers objects) else 0)
        ≡ (if b then Some o else object_of objects n)
    by_test true rest = refl
    by_test false rest =
        let place = position_or_len (λ k. nat_eq n k) (object_numbers objects) in
        let next : 1 + place ≡ suc place = omega arith in
        ap (slice_get (o ∷ objects)) next ∙ rest

no_further : {X : Type 0} (xs : List X) (i : ℕ) → length xs ≤ i → slice_get xs i ≡ None
no_further [] i far = refl
no_further (x ∷ xs) zero far = absurd (omega arith)
no_further (x ∷ xs) (suc i) far = no_further xs i (omega arith)

place_or_none : (objects : List ImageObject) (place : ℕ) (b : Bool) → nat_lt place (length objects) ≡ b
    → option_and_then (λ i. slice_get objects i) (if b then Some place else None) ≡ slice_get objects place
place_or_none objects place true is = refl
place_or_none objects place false is = sym (no_further objects place (omega (arith, ltb-false place (length objects) is)))

pub by_position : (objects : List ImageObject) (n : ℕ) (keys : List ℕ) → keys ≡ object_numbers objects
    → option_and_then (λ i. slice_get objects i) (position (λ k. nat_eq n k) keys) ≡ object_of objects n
by_position objects n keys are =
    let numbers = object_numbers objects in
    let place = position_or_len (λ k. nat_eq n k) numbers in
    ap (λ ks. option_and_then (λ i. slice_get objects i) (position (λ k. nat_eq n k) ks)) are
    ∙ place_or_none objects place (nat_lt place (length numbers))
    (ap (λ len. nat_lt place len) (sym (length-map objects (λ (o : ImageObject). o.number))))
    ∙ at_number objects n

-- what was found at a place
pub found_at : (found : Option (Bor ImageObject)) (objects : List ImageObject) (i : ℕ) → is_some found ≡ nat_lt i (length objects)
    → IfSome found (λ object. object.now ≡ get_or objects i object.now) → option_map (λ object. object.now) found ≡ slice_get objects i
found_at None objects i there is = sym (no_further objects i (omega (arith, ltb-false i (length objects) (sym there))))
found_at (Some object) objects i there is = sym (at_place objects i object.now (ltb-true i (length objects) (sym there)) is)
  where
    at_place : (xs : List ImageObject) (i : ℕ) (x : ImageObject) → i < length xs → x ≡ get_or xs i x → slice_get xs i ≡ Some x
    at_place [] i x less is = absurd (omega arith)
    at_place (y ∷ xs) zero x less is = ap Some (sym is)
    at_place (y ∷ xs) (suc i) x less is = at_place xs i x (omega arith) is

-- ---- the answers of what makes all objects

-- the numbers of those that stand there
numbers_of_rows : {Placed : Type 0} (of : Placed → StaticValue) (number : Placed → ℕ) (rows : List Placed) (statics : List StaticValue)
    → ((row : Placed) → (of row).number ≡ number row) → map of rows ≡ statics → map number rows ≡ static_numbers statics
numbers_of_rows of number [] statics same are = ap (map (λ (s : StaticValue). s.number)) are
numbers_of_rows of number (row ∷ rows) [] same are = absurd cc
numbers_of_rows of number (row ∷ rows) (s ∷ statics) same are =
    let here : of row ≡ s = cc are in
    let rest : map of rows ≡ statics = cc are in
    λ i. (sym (same row) ∙ ap (λ (x : StaticValue). x.number) here) i ∷ numbers_of_rows of number rows statics same rest i

-- rule 8 is broken, and rule 7 kept
pub twice_decides : {Placed : Type 0} (of : Placed → StaticValue) (number : Placed
    → ℕ) (rows : List Placed) (blocks : List PlacedBlock) (n : ℕ)
    → ((row : Placed) → (of row).number ≡ number row) → map of rows ≡ statics_in blocks
    → first_bad (map of rows) ≡ None
    → IsFirstTwice (map number rows) n → IsFirstBroken blocks 7 10 (ObjectTwice n)
twice_decides of number rows blocks n same are none twice = record {
  from_on = omega arith;
  before = omega arith;
  broken = λ limits. subst (λ ns. IsFirstTwice ns n) (numbers_of_rows of number rows (statics_in blocks) same are) twice;
  kept = numbers_kept blocks (ap (λ ss. first_bad ss) (sym are) ∙ none);
}

-- rules 7 and 8 are kept
both_kept : {Placed : Type 0} (of : Placed → StaticValue) (number : Placed → ℕ) (rows : List Placed) (blocks : List PlacedBlock)
    → ((row : Placed) → (of row).number ≡ number row) → map of rows ≡ statics_in blocks
    → first_bad (map of rows) ≡ None
    → IsDistinct nat_eq (map number rows) → (limits : StoreLimits) → KeepsRules blocks limits 7 9
both_kept of number rows blocks same are none distinct limits =
    kept_both blocks limits 7 8 9
    (numbers_kept blocks (ap (λ ss. first_bad ss) (sym are) ∙ none) limits)
    (distinct_kept blocks (subst (IsDistinct nat_eq) (numbers_of_rows of number rows (statics_in blocks) same are) distinct) limits)

-- rule 9 is broken, and rules 7 and 8 are kept
pub data_decides : {Placed : Type 0} (of : Placed → StaticValue) (number : Placed → ℕ) (rows : List Placed) (blocks : List PlacedBlock)
    (kinds : List KindEntry) (n : ℕ)
    → ((row : Placed) → (of row).number ≡ number row) → map of rows ≡ statics_in blocks
    → first_bad (map of rows) ≡ None
    → IsDistinct nat_eq (map number rows) → map kind_entry_of (metas_in blocks) ≡ map Some kinds
    → (static : StaticValue) × (static.number ≡ n)
    × IsFirst (λ s. (object : ImageObject) → ¬ IsObjectOf (entry_kind_at kinds) s object) (map of rows) static
    → IsFirstBroken blocks 7 10 (ObjectData n)
data_decides of number rows blocks kinds n same are none distinct table first =
    let kind : entry_kind_at kinds ≡ kind_at (metas_in blocks) = λ i index. kind_of_entry (metas_in blocks) kinds table index i in
    record {
      from_on = omega arith;
      before = omega arith;
      broken = λ limits. (
        first.0,
        first.1,
        subst (λ ss. IsFirst (IsNoObject blocks) ss first.0) are
            (subst (λ k. IsFirst (λ s. (object : ImageObject) → ¬ IsObjectOf k s object) (map of rows) first.0) kind first.2),
      );
      kept = both_kept of number rows blocks same are none distinct;
    }

-- the objects are those of the image
pub are_in : {Placed : Type 0} (of : Placed → StaticValue) (rows : List Placed) (blocks : List PlacedBlock) (kinds : List KindEntry)
    (objects : List ImageObject) → map of rows ≡ statics_in blocks → map kind_entry_of (metas_in blocks) ≡ map Some kinds
    → AreObjectsOf (entry_kind_at kinds) (map of rows) objects → AreObjectsIn blocks objects
are_in of rows blocks kinds objects are table made =
    let kind : entry_kind_at kinds ≡ kind_at (metas_in blocks) = λ i index. kind_of_entry (metas_in blocks) kinds table index i in
    subst (λ ss. AreObjectsOf (kind_at (metas_in blocks)) ss objects) are (subst (λ k. AreObjectsOf k (map of rows) objects) kind made)

-- rules 7 to 9 are kept
pub objects_decide : {Placed : Type 0} (of : Placed → StaticValue) (number : Placed → ℕ) (rows : List Placed) (blocks : List PlacedBlock)
    (objects : List ImageObject)
    → ((row : Placed) → (of row).number ≡ number row) → map of rows ≡ statics_in blocks
    → first_bad (map of rows) ≡ None
    → IsDistinct nat_eq (map number rows) → AreObjectsIn blocks objects → (limits : StoreLimits) → KeepsRules blocks limits 7 10
objects_decide of number rows blocks objects same are none distinct made limits =
    kept_both blocks limits 7 9 10 (both_kept of number rows blocks same are none distinct limits) (objects_kept blocks objects made limits)

-- the numbers by which objects are found are theirs
pub have_numbers : {Placed : Type 0} (of : Placed → StaticValue) (number : Placed → ℕ) (rows : List Placed) (kind : ℕ → Option MetaKind)
    (objects : List ImageObject) (keys : List ℕ) → ((row : Placed) → (of row).number ≡ number row) → keys ≡ map number rows
    → IsDistinct nat_eq (map number rows) → AreObjectsOf kind (map of rows) objects → HasNumbers keys objects
have_numbers of number rows kind objects keys same are distinct made = record {
  are = are ∙ numbers_of_rows of number rows (map of rows) same refl ∙ same_numbers kind (map of rows) objects made;
  distinct = subst (IsDistinct nat_eq) (sym are) distinct;
}
