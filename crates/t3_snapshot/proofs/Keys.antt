-- Keys that stand twice.
use Rattle.std.proofs.Common.{◌≡◌, ℕ, zero, suc, ◌<◌, Bool, true, false, ◌||◌, ◌&&◌, not, List, [], ◌∷◌, ◌++◌, length, map, take, drop, get_or, refl, sym, ap, ◌∙◌, arith}
use Rattle.std.specs.List.{list_any}
use Rattle.std.specs.Ordering.{eq_by_cmp}
use Rattle.std.specs.Cmp.{eq_by_cmp_equiv}
use Rattle.std.specs.Borrow.{Bor}
use Rattle.t3_undo.specs.Key.{key_cmp, key_cmp_total}
use Rattle.t3_undo.specs.declared.key.Key.{Key}
use Rattle.t3_tables.specs.declared.pair.Pair.{Pair}
use Rattle.t3_snapshot.specs.Layout.{keys_of}
use Rattle.t3_snapshot.specs.Inner.Reading.{are_distinct}

abbrev pub same : Key → Key → Bool
same = eq_by_cmp key_cmp

pub same_back : (x y : Key) → same x y ≡ same y x
same_back x y = (eq_by_cmp_equiv key_cmp_total).symm x y

any_last : (key : Key) (front rest : List Key) (k : Key) → same key k ≡ true → list_any (same key) (front ++ k ∷ rest) ≡ true
any_last key [] rest k is = ap (λ b. b || list_any (same key) rest) is
any_last key (x ∷ front) rest k is = ap (λ b. same key x || b) (any_last key front rest k is) ∙ or_true (same key x)
  where
    or_true : (b : Bool) → (b || true) ≡ true
    or_true true = refl
    or_true false = refl

-- a key that is among those before it
pub repeated : (front rest : List Key) (key : Key) → list_any (same key) front ≡ true → are_distinct (front ++ key ∷ rest) ≡ false
repeated [] rest key among = absurd cc
repeated (x ∷ front) rest key among = by (same key x) refl among (λ later. repeated front rest key later)
  where
    by : (b : Bool) → same key x ≡ b → (b || list_any (same key) front) ≡ true
        → (list_any (same key) front ≡ true → are_distinct (front ++ key ∷ rest) ≡ false)
        → are_distinct (x ∷ front ++ key ∷ rest) ≡ false
    by true e among later = ap (λ b. not b && are_distinct (front ++ key ∷ rest)) (any_last x front rest key (same_back x key ∙ e))
    by false e among later =
        ap (λ b. not (list_any (same x) (front ++ key ∷ rest)) && b) (later among)
        ∙ and_false (not (list_any (same x) (front ++ key ∷ rest)))
      where
        and_false : (b : Bool) → (b && false) ≡ false
        and_false true = refl
        and_false false = refl

pub more_distinct : (front : List Key) (key : Key) → are_distinct front ≡ true → list_any (same key) front ≡ false
    → are_distinct (front ++ key ∷ []) ≡ true
more_distinct [] key distinct absent = refl
more_distinct (x ∷ front) key distinct absent =
    by (list_any (same x) front) (are_distinct front) refl refl (same key x) refl distinct absent (λ d a. more_distinct front key d a)
  where
    none_last : (y : Key) (ks : List Key) (k : Key) → list_any (same y) ks ≡ false → same y k ≡ false
        → list_any (same y) (ks ++ k ∷ []) ≡ false
    none_last y [] k none apart = ap (λ b. b || false) apart
    none_last y (z ∷ ks) k none apart = halves (same y z) (list_any (same y) ks) none (λ rest. none_last y ks k rest apart)
      where
        halves : (a b : Bool) → (a || b) ≡ false → (b ≡ false → list_any (same y) (ks ++ k ∷ []) ≡ false)
            → (a || list_any (same y) (ks ++ k ∷ [])) ≡ false
        halves true b e f = absurd cc
        halves false b e f = f e

    by : (a d : Bool) → list_any (same x) front ≡ a → are_distinct front ≡ d → (s : Bool) → same key x ≡ s → (not a && d) ≡ true
        → (s || list_any (same key) front) ≡ false
        → (are_distinct front ≡ true → list_any (same key) front ≡ false → are_distinct (front ++ key ∷ []) ≡ true)
        → are_distinct (x ∷ front ++ key ∷ []) ≡ true
    by true d ea ed s es both none go = absurd cc
    by false false ea ed s es both none go = absurd cc
    by false true ea ed true es both none go = absurd cc
    by false true ea ed false es both none go =
        ap (λ b. not b && are_distinct (front ++ key ∷ [])) (none_last x front key ea (same_back x key ∙ es)) ∙ go ed none

pub any_now : (key : Key) (seen : List (Bor Key)) → list_any (λ y. same key y.now) seen ≡ list_any (same key) (map (λ y. y.now) seen)
any_now key [] = refl
any_now key (y ∷ seen) = ap (λ b. same key y.now || b) (any_now key seen)

key_at : (pairs : List Pair) (i : ℕ) (d : Pair) → i < length pairs
    → keys_of pairs ≡ keys_of (take i pairs) ++ (get_or pairs i d).key ∷ keys_of (drop (suc i) pairs)
key_at [] i d lt = absurd (omega arith)
key_at (pair ∷ pairs) zero d lt = refl
key_at (pair ∷ pairs) (suc i) d lt = ap (λ ks. pair.key ∷ ks) (key_at pairs i d (omega arith))

keys_more : (pairs : List Pair) (i : ℕ) (d : Pair) → i < length pairs
    → keys_of (take (suc i) pairs) ≡ keys_of (take i pairs) ++ (get_or pairs i d).key ∷ []
keys_more [] i d lt = absurd (omega arith)
keys_more (pair ∷ pairs) zero d lt = refl
keys_more (pair ∷ pairs) (suc i) d lt = ap (λ ks. pair.key ∷ ks) (keys_more pairs i d (omega arith))

from_not : (b : Bool) → not b ≡ false → b ≡ true
from_not true e = refl
from_not false e = absurd cc

from_not_true : (b : Bool) → not b ≡ true → b ≡ false
from_not_true true e = absurd cc
from_not_true false e = refl

-- a key that wasn't added
pub not_added : (pairs : List Pair) (i : ℕ) (d : Pair) (keys : List Key) (added : Bool) → i < length pairs → keys ≡ keys_of (take i pairs)
    → added ≡ not (list_any (same (get_or pairs i d).key) keys) → added ≡ false → are_distinct (keys_of pairs) ≡ false
not_added pairs i d keys added lt is told not_so =
    ap are_distinct (key_at pairs i d lt)
    ∙ repeated (keys_of (take i pairs)) (keys_of (drop (suc i) pairs)) (get_or pairs i d).key
    (ap (list_any (same (get_or pairs i d).key)) (sym is) ∙ from_not _ (sym told ∙ not_so))

-- one that was
pub is_added : (pairs : List Pair) (i : ℕ) (d : Pair) (keys new : List Key) (added : Bool) → i < length pairs
    → keys ≡ keys_of (take i pairs)
    → are_distinct (keys_of (take i pairs)) ≡ true → added ≡ not (list_any (same (get_or pairs i d).key) keys) → added ≡ true
    → new ≡ keys ++ (get_or pairs i d).key ∷ []
    → (new ≡ keys_of (take (suc i) pairs)) × (are_distinct (keys_of (take (suc i) pairs)) ≡ true)
is_added pairs i d keys new added lt is so_far told so more = (
  more ∙ ap (λ ks. ks ++ (get_or pairs i d).key ∷ []) is ∙ sym (keys_more pairs i d lt),
  ap are_distinct (keys_more pairs i d lt)
      ∙ more_distinct (keys_of (take i pairs)) (get_or pairs i d).key so_far
      (ap (list_any (same (get_or pairs i d).key)) (sym is) ∙ from_not_true _ (sym told ∙ so)),
)
