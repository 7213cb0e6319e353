-- The least number of a row from one on.
use Rattle.std.proofs.Common.{◌≡◌, ◌∙◌, ap, subst, refl, ℕ, zero, suc, ◌<◌, ◌≤◌, true, cond, List, [], ◌∷◌, length, get_or, slice_get, Option, None, Some, is_some, arith}
use Rattle.std.specs.Option.{option_map}
use Rattle.std.specs.List.{AllByRecursion, AllWithin}
use Rattle.std.specs.FinMap.{get}
use Rattle.t3_store.specs.Inner.Entries.{IsRising, object_at, by_number, things_of, IsFirstFrom}
use Rattle.t3_store.specs.Inner.Shapes.{thing_of}
use Rattle.t3_store.specs.declared.object.Object.{Object}
use Rattle.t3_store.specs.declared.entries.Entry.{Entry}
use Rattle.t3_store.proofs.RowEdits.{none-later}
use Rattle.t3_store.proofs.Rows.{same-itself, differs, get-by_number}

-- the least number from one on
none-by : {X : Type 0} (read : Object → X) (es : List Entry) (q : ℕ) → object_at q es ≡ None → get (by_number read es) q ≡ None
none-by read es q e = get-by_number read es q ∙ ap (option_map read) e

all-from : (n : ℕ) (es : List Entry) → AllByRecursion (λ l. n < l.number) es → AllByRecursion (λ l. n ≤ l.number) es
all-from n [] all = tt
all-from n (x ∷ es) all = (omega (arith, all.0), all-from n es all.1)

pub record IsFirstAt (es : List Entry) (least : ℕ) (first : ℕ) : Type 0 where
  pub from : least ≤ first
  pub there : is_some (object_at first es) ≡ true
  pub none : (q : ℕ) → least ≤ q → q < first → object_at q es ≡ None

past : (es : List Entry) (x : Entry) (q : ℕ) → x.number < q → object_at q (x ∷ es) ≡ object_at q es
past es x q h = ap (λ b. cond b (Some x.object) (object_at q es)) (differs q x.number (λ is. omega arith))

pub first-at : (es : List Entry) (i least : ℕ) (entry : Entry) → IsRising es → AllWithin (λ e. e.number < least) es 0 i
    → AllWithin (λ e. least ≤ e.number) es i (length es) → slice_get es i ≡ Some entry → IsFirstAt es least entry.number
first-at [] i least entry rises low high e = cc
first-at (x ∷ es) zero least entry rises low high e =
    let same : x ≡ entry = cc in
    subst (λ (y : Entry). IsFirstAt (x ∷ es) least y.number) same (record {
      from = high 0 x (omega arith) (omega arith);
      there = ap (λ b. is_some (cond b (Some x.object) (object_at x.number es))) (same-itself x.number);
      none = λ q h l. none-later q x.number (x ∷ es) l (omega arith, all-from x.number es rises.0);
    })
first-at (x ∷ es) (suc i) least entry rises low high e =
    let rest = first-at es i least entry rises.1 (λ k d h l. low (suc k) d (omega arith) (omega arith))
    (λ k d h l. high (suc k) d (omega arith) (omega arith)) e in
    let small : x.number < least = low 0 x (omega arith) (omega arith) in
    let far : least ≤ entry.number = rest.from in
    record {
      from = rest.from;
      there = ap is_some (past es x entry.number (omega arith)) ∙ rest.there;
      none = λ q h l. past es x q (omega arith) ∙ rest.none q h l;
    }

pub none-at : (es : List Entry) (i least q : ℕ) → IsRising es → AllWithin (λ e. e.number < least) es 0 i → slice_get es i ≡ None → least ≤ q
    → object_at q es ≡ None
none-at [] i least q rises low e h = refl
none-at (x ∷ es) zero least q rises low e h = cc
none-at (x ∷ es) (suc i) least q rises low e h =
    let small : x.number < least = low 0 x (omega arith) (omega arith) in
    past es x q (omega arith) ∙ none-at es i least q rises.1 (λ k d h l. low (suc k) d (omega arith) (omega arith)) e h

some-by : {X : Type 0} (read : Object → X) (o : Option Object) → is_some o ≡ true → is_some (option_map read o) ≡ true
some-by read None e = e
some-by read (Some x) e = refl

pub first-from : (es : List Entry) (i least : ℕ) (entry : Entry) → IsRising es → AllWithin (λ e. e.number < least) es 0 i
    → AllWithin (λ e. least ≤ e.number) es i (length es) → slice_get es i ≡ Some entry → IsFirstFrom (things_of es) least (Some entry.number)
first-from es i least entry rises low high e =
    let first = first-at es i least entry rises low high e in (
      first.from,
      ap is_some (get-by_number thing_of es entry.number) ∙ some-by thing_of (object_at entry.number es) first.there,
      λ q h l. none-by thing_of es q (first.none q h l),
    )

pub none-from : (es : List Entry) (i least : ℕ) → IsRising es → AllWithin (λ e. e.number < least) es 0 i → slice_get es i ≡ None
    → IsFirstFrom (things_of es) least None
none-from es i least rises low e = λ q h. none-by thing_of es q (none-at es i least q rises low e h)

pub slice_get-at : (es : List Entry) (i : ℕ) (d : Entry) → i < length es → slice_get es i ≡ Some (get_or es i d)
slice_get-at [] i d h = absurd (omega arith)
slice_get-at (x ∷ es) zero d h = refl
slice_get-at (x ∷ es) (suc i) d h = slice_get-at es i d (omega arith)

pub slice_get-past : (es : List Entry) (i : ℕ) → length es ≤ i → slice_get es i ≡ None
slice_get-past [] i h = refl
slice_get-past (x ∷ es) zero h = absurd (omega arith)
slice_get-past (x ∷ es) (suc i) h = slice_get-past es i (omega arith)
