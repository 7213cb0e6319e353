-- What a map has under a number, and its entries.
use Rattle.std.proofs.Common.{◌≡◌, ℕ, ◌+◌, ◌<◌, ◌≤◌, Bool, true, false, cond, List, [], ◌∷◌, length, Some, IsTrue, refl, sym, ap, subst, ◌∙◌, arith}
use Rattle.std.specs.Prelude.{sum_by}
use Rattle.std.specs.FinMap.{FinMap, get, entries, find, is_sorted, get-entries, nat_cmp-IsAntisymmetric}
use Rattle.std.specs.FinMap.Entries.{below_all}
use Rattle.std.specs.Cmp.{Equal-is}
use Rattle.std.specs.Ordering.{nat_cmp, eq_by_cmp}
use Rattle.std.specs.List.{AllByRecursion}
use Rattle.std.proofs.lemmas.List.Sums.{sum_by-cons}
use Rattle.t3_store.proofs.Rows.{same-itself}
use Rattle.t3_snapshot.proofs.Sorted.{differ, and_parts, all_below, in_order}

-- each entry is found
found_later : {V : Type 0} (e : ℕ × V) (es fs : List (ℕ × V)) → AllByRecursion (λ f. e.0 < f.0) fs
    → AllByRecursion (λ f. find nat_cmp f.0 es ≡ Some f.1) fs
    → AllByRecursion (λ f. find nat_cmp f.0 (e ∷ es) ≡ Some f.1) fs
found_later e es [] above all = tt
found_later e es (f ∷ fs) above all =
    (ap (λ b. cond b (Some e.1) (find nat_cmp f.0 es)) (differ f.0 e.0 above.0) ∙ all.0, found_later e es fs above.1 all.1)

found_list : {V : Type 0} (es : List (ℕ × V)) → IsTrue (is_sorted nat_cmp es) → AllByRecursion (λ e. find nat_cmp e.0 es ≡ Some e.1) es
found_list [] s = tt
found_list (e ∷ es) s =
    let p = and_parts (below_all nat_cmp e.0 es) (is_sorted nat_cmp es) s in
    (ap (λ b. cond b (Some e.1) (find nat_cmp e.0 es)) (same-itself e.0), found_later e es es (all_below e.0 es p.0) (found_list es p.1))

all_held : {V : Type 0} (m : FinMap nat_cmp V) (es : List (ℕ × V)) → AllByRecursion (λ e. find nat_cmp e.0 (entries m) ≡ Some e.1) es
    → AllByRecursion (λ e. get m e.0 ≡ Some e.1) es
all_held m [] all = tt
all_held m (e ∷ es) all = (get-entries m e.0 ∙ all.0, all_held m es all.1)

-- a map has its entries
pub entries_held : {V : Type 0} (m : FinMap nat_cmp V) → AllByRecursion (λ e. get m e.0 ≡ Some e.1) (entries m)
entries_held m = all_held m (entries m) (found_list (entries m) (in_order m))

-- what holds of each entry that is found holds of each entry
pub all_entries : {V : Type 0} (P : ℕ × V → Type 0) (m : FinMap nat_cmp V) → ((n : ℕ) (v : V) → get m n ≡ Some v → P (n, v))
    → AllByRecursion P (entries m)
all_entries {V} P m each = each_of (entries m) (entries_held m)
  where
    each_of : (es : List (ℕ × V)) → AllByRecursion (λ e. get m e.0 ≡ Some e.1) es → AllByRecursion P es
    each_of [] held = tt
    each_of (e ∷ es) held = (each e.0 e.1 held.0, each_of es held.1)

in_list : {V : Type 0} (P : ℕ × V → Type 0) (n : ℕ) (v : V) (es : List (ℕ × V)) → AllByRecursion P es → find nat_cmp n es ≡ Some v
    → P (n, v)
in_list P n v [] all found = absurd cc
in_list {V} P n v (e ∷ es) all found = by (eq_by_cmp nat_cmp n e.0) refl found (λ later. in_list P n v es all.1 later)
  where
    by : (b : Bool) → eq_by_cmp nat_cmp n e.0 ≡ b → cond b (Some e.1) (find nat_cmp n es) ≡ Some v
        → (find nat_cmp n es ≡ Some v → P (n, v)) → P (n, v)
    by true is so rest =
        let number : n ≡ e.0 = nat_cmp-IsAntisymmetric n e.0 ((Equal-is (nat_cmp n e.0)).0 is) in
        let value : e.1 ≡ v = cc in
        subst (λ k. P (k, v)) (sym number) (subst (λ x. P (e.0, x)) value all.0)
    by false is so rest = rest so

-- and the other way round
pub of_entry : {V : Type 0} (P : ℕ × V → Type 0) (m : FinMap nat_cmp V) (n : ℕ) (v : V) → AllByRecursion P (entries m) → get m n ≡ Some v
    → P (n, v)
of_entry P m n v all found = in_list P n v (entries m) all (sym (get-entries m n) ∙ found)

-- rising numbers between two bounds are fewer than there are numbers
few_between : {V : Type 0} (last top : ℕ) (es : List (ℕ × V)) → last < top → AllByRecursion (λ e. last < e.0) es
    → IsTrue (is_sorted nat_cmp es) → AllByRecursion (λ e. e.0 < top) es → last + length es < top
few_between last top [] lt above sorted below = omega arith
few_between last top (e ∷ es) lt above sorted below =
    let p = and_parts (below_all nat_cmp e.0 es) (is_sorted nat_cmp es) sorted in
    let fewer : e.0 + length es < top = few_between e.0 top es below.0 (all_below e.0 es p.0) p.1 below.1 in
    omega (arith, above.0)

pub few_entries : {V : Type 0} (m : FinMap nat_cmp V) (top : ℕ) → 0 < top → AllByRecursion (λ e. 0 < e.0) (entries m)
    → AllByRecursion (λ e. e.0 < top) (entries m) → length (entries m) < top
few_entries m top lt above below = omega (arith, few_between 0 top (entries m) lt above (in_order m) below)

-- ---- sums

-- a term is at most the sum
sum_more : {X : Type 0} (f : X → ℕ) (x : X) (xs ys : List X) → AllByRecursion (λ y. f y ≤ sum_by f xs) ys
    → AllByRecursion (λ y. f y ≤ sum_by f (x ∷ xs)) ys
sum_more f x xs [] all = tt
sum_more f x xs (y ∷ ys) all = (omega (arith, all.0, sum_by-cons f x xs), sum_more f x xs ys all.1)

pub all_within : {X : Type 0} (f : X → ℕ) (xs : List X) → AllByRecursion (λ x. f x ≤ sum_by f xs) xs
all_within f [] = tt
all_within f (x ∷ xs) = (omega (arith, sum_by-cons f x xs), sum_more f x xs xs (all_within f xs))

-- where each term is at least 1, the sum is at least the count
pub count_within : {X : Type 0} (f : X → ℕ) (xs : List X) → ((x : X) → 1 ≤ f x) → length xs ≤ sum_by f xs
count_within f [] each = omega arith
count_within f (x ∷ xs) each = omega (arith, each x, count_within f xs each, sum_by-cons f x xs)
