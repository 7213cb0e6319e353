-- Entries by rising number, and the maps that they make.
use Rattle.std.proofs.Common.{◌≡◌, ℕ, ◌<◌, Bool, true, false, ◌&&◌, cond, List, [], ◌∷◌, map, IsTrue, refl, ap, ◌∙◌, arith, eqb, ltb, T}
use Rattle.std.specs.declared.cmp.Ordering.TheVariants.{Less, Equal, Greater}
use Rattle.std.specs.FinMap.{FinMap, entries, from_entries, put, is_sorted, entries_sorted, entries-insert, same_entries_map, nat_cmp-IsAntisymmetric}
use Rattle.std.specs.FinMap.Entries.{by_order, below_all}
use Rattle.std.specs.Cmp.{nat_cmp_total, Equal-is}
use Rattle.std.specs.Ordering.{eq_by_cmp, nat_cmp, is_lt}
use Rattle.std.specs.List.{AllByRecursion}
use Rattle.std.proofs.lemmas.Bool.{ltb-true, lt-ltb}
use Rattle.t3_undo.proofs.Maps.{entries-empty}
use Rattle.t3_snapshot.proofs.Leaves.{not_true}

pub differ : (q n : ℕ) → n < q → eq_by_cmp nat_cmp q n ≡ false
differ q n lt =
    not_true (eq_by_cmp nat_cmp q n) (λ e. let same = nat_cmp-IsAntisymmetric q n ((Equal-is (nat_cmp q n)).0 e) in omega arith)

pub differ_below : (q n : ℕ) → q < n → eq_by_cmp nat_cmp q n ≡ false
differ_below q n lt =
    not_true (eq_by_cmp nat_cmp q n) (λ e. let same = nat_cmp-IsAntisymmetric q n ((Equal-is (nat_cmp q n)).0 e) in omega arith)

pub and_parts : (a b : Bool) → IsTrue (a && b) → IsTrue a × IsTrue b
and_parts true b t = (refl, t)
and_parts false b t = absurd cc

pub both_parts : (a b : Bool) → IsTrue a → IsTrue b → IsTrue (a && b)
both_parts true b p q = q
both_parts false b p q = p

pub lt_of : (a b : ℕ) → IsTrue (is_lt (nat_cmp a b)) → a < b
lt_of a b t = by (ltb a b) refl t
  where
    by : (c : Bool) → ltb a b ≡ c → IsTrue (is_lt (cond c Less (cond (eqb a b) Equal Greater))) → a < b
    by true is t = ltb-true a b is
    by false is t = absurd (no_less (eqb a b) t)
      where
        no_less : (d : Bool) → IsTrue (is_lt (cond d Equal Greater)) → ⊥
        no_less true t = absurd cc
        no_less false t = absurd cc

pub is_less : (n m : ℕ) → n < m → nat_cmp n m ≡ Less
is_less n m lt = ap (λ b. cond b Less (cond (eqb n m) Equal Greater)) (lt-ltb n m lt)

pub lt_is : (a b : ℕ) → a < b → IsTrue (is_lt (nat_cmp a b))
lt_is a b lt = ap is_lt (is_less a b lt)

pub less_put : {V : Type 0} (n m : ℕ) (v : V) (e : ℕ × V) (es : List (ℕ × V)) → n < e.0 → put nat_cmp n v (e ∷ es) ≡ (n, v) ∷ e ∷ es
less_put n m v e es lt =
    ap (λ r. by_order r ((n, v) ∷ e ∷ es) ((e.0, v) ∷ es) (e ∷ put nat_cmp n v es)) (is_less n e.0 lt)

pub all_below : {V : Type 0} (x : ℕ) (es : List (ℕ × V)) → IsTrue (below_all nat_cmp x es) → AllByRecursion (λ e. x < e.0) es
all_below x [] t = tt
all_below x (e ∷ es) t =
    let p = and_parts (is_lt (nat_cmp x e.0)) (below_all nat_cmp x es) t in
    (lt_of x e.0 p.0, all_below x es p.1)

-- the entries of a map are in order
pub in_order : {V : Type 0} (m : FinMap nat_cmp V) → IsTrue (is_sorted nat_cmp (entries m))
in_order m = is_true (is_sorted nat_cmp (entries m)) (entries_sorted m)
  where
    is_true : (b : Bool) → T b → IsTrue b
    is_true true t = refl
    is_true false t = absurd t

-- the entries of a map of entries in order are they themselves
pub sorted_are : {V : Type 0} (es : List (ℕ × V)) → IsTrue (is_sorted nat_cmp es) → entries (from_entries {R = nat_cmp} es) ≡ es
sorted_are [] s = entries-empty nat_cmp
sorted_are {V} (e ∷ es) s =
    let parts = and_parts (below_all nat_cmp e.0 es) (is_sorted nat_cmp es) s in
    entries-insert nat_cmp_total (from_entries es) e.0 e.1 ∙ ap (put nat_cmp e.0 e.1) (sorted_are es parts.1)
    ∙ first es (all_below e.0 es parts.0)
  where
    first : (fs : List (ℕ × V)) → AllByRecursion (λ f. e.0 < f.0) fs → put nat_cmp e.0 e.1 fs ≡ e ∷ fs
    first [] all = refl
    first (f ∷ fs) all = less_put e.0 0 e.1 f fs all.0

-- the map of a map's entries is that map
pub map_of_entries : {V : Type 0} (m : FinMap nat_cmp V) → from_entries {R = nat_cmp} (entries m) ≡ m
map_of_entries m = same_entries_map (from_entries (entries m)) m (sorted_are (entries m) (in_order m))

-- ---- entries with other values

below_mapped : {V W : Type 0} (f : V → W) (x : ℕ) (es : List (ℕ × V)) → IsTrue (below_all nat_cmp x es)
    → IsTrue (below_all nat_cmp x (map (λ e. (e.0, f e.1)) es))
below_mapped f x [] t = t
below_mapped f x (e ∷ es) t =
    let p = and_parts (is_lt (nat_cmp x e.0)) (below_all nat_cmp x es) t in
    both_parts (is_lt (nat_cmp x e.0)) (below_all nat_cmp x (map (λ e. (e.0, f e.1)) es)) p.0 (below_mapped f x es p.1)

sorted_mapped : {V W : Type 0} (f : V → W) (es : List (ℕ × V)) → IsTrue (is_sorted nat_cmp es)
    → IsTrue (is_sorted nat_cmp (map (λ e. (e.0, f e.1)) es))
sorted_mapped f [] t = t
sorted_mapped f (e ∷ es) t =
    let p = and_parts (below_all nat_cmp e.0 es) (is_sorted nat_cmp es) t in
    both_parts (below_all nat_cmp e.0 (map (λ e. (e.0, f e.1)) es)) (is_sorted nat_cmp (map (λ e. (e.0, f e.1)) es))
    (below_mapped f e.0 es p.0) (sorted_mapped f es p.1)

-- the entries of a map with other values are the other entries
pub mapped_are : {V W : Type 0} (f : V → W) (m : FinMap nat_cmp V)
    → entries (from_entries {R = nat_cmp} (map (λ e. (e.0, f e.1)) (entries m))) ≡ map (λ e. (e.0, f e.1)) (entries m)
mapped_are f m = sorted_are (map (λ e. (e.0, f e.1)) (entries m)) (sorted_mapped f (entries m) (in_order m))
