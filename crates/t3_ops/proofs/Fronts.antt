-- How the fronts of two texts decide their order.
use Rattle.std.proofs.Common.{◌≡◌, ◌≢◌, false, ℕ, zero, suc, ◌+◌, ◌≤◌, min, List, [], ◌∷◌, take, drop, length, refl, sym, ap, ◌∙◌, arith}
use Rattle.std.proofs.lemmas.List.{drop-drop, length-take, length-drop}
use Rattle.std.proofs.Math.Seq.{drop-length}
use Rattle.std.specs.Cmp.{nat_cmp_is}
use Rattle.std.specs.Ordering.{nat_cmp, ordering_then, is_eq}
use Rattle.std.specs.Cmp.Lexicographic.{slice_cmp}
use Rattle.std.specs.declared.cmp.Ordering.{Ordering}
use Rattle.std.specs.declared.cmp.Ordering.TheVariants.{Less, Equal, Greater}

ordering_then-assoc : (r s t : Ordering) → ordering_then r (ordering_then s t) ≡ ordering_then (ordering_then r s) t
ordering_then-assoc Less s t = refl
ordering_then-assoc Equal s t = refl
ordering_then-assoc Greater s t = refl

-- the fronts of one length decide, and else what is behind them
cmp-fronts : (k : ℕ) (xs ys : List ℕ) → k ≤ length xs → k ≤ length ys
    → slice_cmp nat_cmp xs ys ≡ ordering_then (slice_cmp nat_cmp (take k xs) (take k ys)) (slice_cmp nat_cmp (drop k xs) (drop k ys))
cmp-fronts zero xs ys in_xs in_ys = refl
cmp-fronts (suc k) [] ys in_xs in_ys = absurd (omega arith)
cmp-fronts (suc k) (x ∷ xs) [] in_xs in_ys = absurd (omega arith)
cmp-fronts (suc k) (x ∷ xs) (y ∷ ys) in_xs in_ys =
    ap (λ o. ordering_then (nat_cmp x y) o) (cmp-fronts k xs ys (omega arith) (omega arith))
    ∙ ordering_then-assoc (nat_cmp x y) (slice_cmp nat_cmp (take k xs) (take k ys)) (slice_cmp nat_cmp (drop k xs) (drop k ys))

take_of_take : (k n : ℕ) (xs : List ℕ) → k ≤ n → take k (take n xs) ≡ take k xs
take_of_take zero n xs within = refl
take_of_take (suc k) zero xs within = absurd (omega arith)
take_of_take (suc k) (suc n) [] within = refl
take_of_take (suc k) (suc n) (x ∷ xs) within = ap (λ (t : List ℕ). x ∷ t) (take_of_take k n xs (omega arith))

-- two texts are alike up to a place
pub record AreAlike (xs ys : List ℕ) (at : ℕ) : Type 0 where
  pub in_left : at ≤ length xs
  pub in_right : at ≤ length ys
  pub same : slice_cmp nat_cmp xs ys ≡ slice_cmp nat_cmp (drop at xs) (drop at ys)

pub alike-none : (xs ys : List ℕ) → AreAlike xs ys 0
alike-none xs ys = record { in_left = omega arith; in_right = omega arith; same = refl }

pub take_within : (xs ys : List ℕ) → xs ≡ take (length xs) ys → length xs ≤ length ys
take_within xs ys is =
    let long : length xs ≡ length (take (length xs) ys) = ap (λ (l : List ℕ). length l) is in
    let cut = length-take (length xs) ys in
    omega arith

front_of : (size : ℕ) (mine xs : List ℕ) → mine ≡ take (length mine) xs → size ≤ length mine → take size mine ≡ take size xs
front_of size mine xs is within = ap (λ (l : List ℕ). take size l) is ∙ take_of_take size (length mine) xs within

ordering_then-apart : (r o : Ordering) → r ≢ Equal → ordering_then r o ≡ r
ordering_then-apart Less o apart = refl
ordering_then-apart Equal o apart = absurd (apart refl)
ordering_then-apart Greater o apart = refl

pub apart-eq : (r : Ordering) → r ≢ Equal → false ≡ is_eq r
apart-eq Less apart = refl
apart-eq Equal apart = absurd (apart refl)
apart-eq Greater apart = refl

-- so many bytes of the pieces that stand at a place decide, and else what is behind them
by_pieces : (xs ys mine other : List ℕ) (at size : ℕ) → AreAlike xs ys at → mine ≡ take (length mine) (drop at xs)
    → other ≡ take (length other) (drop at ys) → size ≤ length mine → size ≤ length other
    → slice_cmp nat_cmp xs ys
    ≡ ordering_then (slice_cmp nat_cmp (take size mine) (take size other)) (slice_cmp nat_cmp (drop (at + size) xs) (drop (at + size) ys))
by_pieces xs ys mine other at size alike is_mine is_other in_mine in_other =
    let left = take_within mine (drop at xs) is_mine in
    let right = take_within other (drop at ys) is_other in
    alike.same
    ∙ cmp-fronts size (drop at xs) (drop at ys) (omega arith) (omega arith)
    ∙ (λ i. ordering_then
    (slice_cmp nat_cmp (sym (front_of size mine (drop at xs) is_mine in_mine) i)
    (sym (front_of size other (drop at ys) is_other in_other) i))
    (slice_cmp nat_cmp (drop-drop size at xs i) (drop-drop size at ys i)))

pub pieces-apart : (xs ys mine other : List ℕ) (at size : ℕ) (r : Ordering) → AreAlike xs ys at → mine ≡ take (length mine) (drop at xs)
    → other ≡ take (length other) (drop at ys) → size ≤ length mine → size ≤ length other
    → r ≡ slice_cmp nat_cmp (take size mine) (take size other) → r ≢ Equal → r ≡ slice_cmp nat_cmp xs ys
pieces-apart xs ys mine other at size r alike is_mine is_other in_mine in_other is apart =
    let o : Ordering = slice_cmp nat_cmp (drop (at + size) xs) (drop (at + size) ys) in
    sym (ordering_then-apart r o apart)
    ∙ ap (λ r. ordering_then r o) is
    ∙ sym (by_pieces xs ys mine other at size alike is_mine is_other in_mine in_other)

pub pieces-alike : (xs ys mine other : List ℕ) (at size : ℕ) → AreAlike xs ys at → mine ≡ take (length mine) (drop at xs)
    → other ≡ take (length other) (drop at ys) → size ≤ length mine → size ≤ length other
    → Equal ≡ slice_cmp nat_cmp (take size mine) (take size other) → AreAlike xs ys (at + size)
pieces-alike xs ys mine other at size alike is_mine is_other in_mine in_other is =
    let left = take_within mine (drop at xs) is_mine in
    let right = take_within other (drop at ys) is_other in
    let long_left = length-drop at xs in
    let long_right = length-drop at ys in
    let in_left = alike.in_left in
    let in_right = alike.in_right in
    let o : Ordering = slice_cmp nat_cmp (drop (at + size) xs) (drop (at + size) ys) in
    record {
      in_left = omega arith;
      in_right = omega arith;
      same = by_pieces xs ys mine other at size alike is_mine is_other in_mine in_other ∙ ap (λ r. ordering_then r o) (sym is);
    }

-- where one of the two has no more bytes
ends : (mine other xs ys : List ℕ) → mine ≡ take (length mine) xs → other ≡ take (length other) ys → (mine ≡ [] → xs ≡ [])
    → (other ≡ [] → ys ≡ []) → min (length mine) (length other) ≡ 0
    → nat_cmp (length mine) (length other) ≡ slice_cmp nat_cmp xs ys
ends [] [] xs ys is_mine is_other no_mine no_other none = λ i. slice_cmp nat_cmp (sym (no_mine refl) i) (sym (no_other refl) i)
ends [] (y ∷ other) xs [] is_mine is_other no_mine no_other none = absurd cc
ends [] (y ∷ other) xs (z ∷ ys) is_mine is_other no_mine no_other none =
    sym (nat_cmp_is 0 (length (y ∷ other)) Less (omega arith)) ∙ (λ i. slice_cmp nat_cmp (sym (no_mine refl) i) (z ∷ ys))
ends (x ∷ mine) [] [] ys is_mine is_other no_mine no_other none = absurd cc
ends (x ∷ mine) [] (z ∷ xs) ys is_mine is_other no_mine no_other none =
    sym (nat_cmp_is (length (x ∷ mine)) 0 Greater (omega arith)) ∙ (λ i. slice_cmp nat_cmp (z ∷ xs) (sym (no_other refl) i))
ends (x ∷ mine) (y ∷ other) xs ys is_mine is_other no_mine no_other none = absurd (omega arith)

drop_all : (xs : List ℕ) (at : ℕ) → at ≡ length xs → drop at xs ≡ []
drop_all xs at is = ap (λ n. drop n xs) is ∙ drop-length xs

pub pieces-end : (xs ys mine other : List ℕ) (at : ℕ) → AreAlike xs ys at → mine ≡ take (length mine) (drop at xs)
    → other ≡ take (length other) (drop at ys) → (mine ≡ [] → at ≡ length xs) → (other ≡ [] → at ≡ length ys)
    → min (length mine) (length other) ≡ 0 → nat_cmp (length mine) (length other) ≡ slice_cmp nat_cmp xs ys
pieces-end xs ys mine other at alike is_mine is_other no_mine no_other none =
    ends mine other (drop at xs) (drop at ys) is_mine is_other (λ e. drop_all xs at (no_mine e)) (λ e. drop_all ys at (no_other e)) none
    ∙ sym alike.same
