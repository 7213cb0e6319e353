-- Which byte the pages of a pool give at an address.
use Rattle.std.proofs.Common.{◌≡◌, ◌≢◌, ℕ, zero, suc, ◌+◌, ◌*◌, ◌<◌, ◌≤◌, ◌⊎◌, inl, inr, Bool, true, false, cond, nat_eq, nat_lt, ◌||◌, List, [], ◌∷◌, ◌++◌, length, Option, Some, None, refl, sym, ap, ◌∙◌, arith}
use Rattle.std.specs.Ordering.{nat_cmp, eq_by_cmp}
use Rattle.std.specs.FinMap.{find}
use Rattle.std.specs.List.{flat_map, list_any, slice_get}
use Rattle.std.proofs.lemmas.Bool.{ltb-false, cases_lt, cases_eq, eq-eqb}
use Rattle.std.proofs.Math.Nat.{mul-le-mul_right}
use Rattle.t3_pools.specs.Pool.{Paged, bytes_from, page_bytes}
use Rattle.t3_pools.specs.Building.{at_index, pages_at}

unfoldable pub or_else : Option ℕ → Option ℕ → Option ℕ
or_else None other = other
or_else (Some byte) other = Some byte

same_number : (n : ℕ) → eq_by_cmp nat_cmp n n ≡ true
same_number n = grind arith

above : (m n : ℕ) → m < n → eq_by_cmp nat_cmp n m ≡ false
above m n h = grind arith

below : (m n : ℕ) → m < n → eq_by_cmp nat_cmp m n ≡ false
below m n h = grind arith

pub find-bytes_from : (bytes : List ℕ) (at place : ℕ) → find nat_cmp (at + place) (bytes_from at bytes) ≡ slice_get bytes place
find-bytes_from [] at place = refl
find-bytes_from (byte ∷ bytes) at zero =
    let here : at + 0 ≡ at = omega arith in
    let same : eq_by_cmp nat_cmp (at + 0) at ≡ true = ap (λ n. eq_by_cmp nat_cmp n at) here ∙ same_number at in
    ap (λ b. cond b (Some byte) (find nat_cmp (at + 0) (bytes_from (at + 1) bytes))) same
find-bytes_from (byte ∷ bytes) at (suc place) =
    let later : at + suc place ≡ (at + 1) + place = omega arith in
    let other : eq_by_cmp nat_cmp (at + suc place) at ≡ false = above at (at + suc place) (omega arith) in
    ap (λ b. cond b (Some byte) (find nat_cmp (at + suc place) (bytes_from (at + 1) bytes))) other
    ∙ ap (λ n. find nat_cmp n (bytes_from (at + 1) bytes)) later
    ∙ find-bytes_from bytes (at + 1) place

find_before : (bytes : List ℕ) (at address : ℕ) → address < at → find nat_cmp address (bytes_from at bytes) ≡ None
find_before [] at address h = refl
find_before (byte ∷ bytes) at address h =
    ap (λ b. cond b (Some byte) (find nat_cmp address (bytes_from (at + 1) bytes))) (below address at h)
    ∙ find_before bytes (at + 1) address (omega arith)

find_after : (bytes : List ℕ) (at address : ℕ) → at + length bytes ≤ address → find nat_cmp address (bytes_from at bytes) ≡ None
find_after [] at address h = refl
find_after (byte ∷ bytes) at address h =
    ap (λ b. cond b (Some byte) (find nat_cmp address (bytes_from (at + 1) bytes))) (above at address (omega arith))
    ∙ find_after bytes (at + 1) address (omega arith)

find-append : (address : ℕ) (xs ys : List (ℕ × ℕ)) → find nat_cmp address (xs ++ ys) ≡ or_else (find nat_cmp address xs)
    (find nat_cmp address ys)
unfolding or_else
find-append address [] ys = refl
find-append address (x ∷ xs) ys =
    elim (eq_by_cmp nat_cmp address x.0) as (λ b. cond b (Some x.1) (find nat_cmp address (xs ++ ys)) ≡ or_else (cond b (Some x.1) (find nat_cmp address xs)) (find nat_cmp address ys)) [
      | true ↦ refl
      | false ↦ find-append address xs ys
    ]

-- the byte at a place of the first of these pages that has one there
unfoldable pub first_at : ℕ → List (List ℕ) → Option ℕ
first_at place [] = None
first_at place (page ∷ pages) = or_else (slice_get page place) (first_at place pages)

or_else-assoc : (a b c : Option ℕ) → or_else a (or_else b c) ≡ or_else (or_else a b) c
unfolding or_else
or_else-assoc None b c = refl
or_else-assoc (Some x) b c = refl

pub or_else-none : (a : Option ℕ) → or_else a None ≡ a
unfolding or_else
or_else-none None = refl
or_else-none (Some x) = refl

first_at-append : (place : ℕ) (xs ys : List (List ℕ)) → first_at place (xs ++ ys) ≡ or_else (first_at place xs) (first_at place ys)
unfolding first_at or_else
first_at-append place [] ys = refl
first_at-append place (x ∷ xs) ys =
    ap (λ o. or_else (slice_get x place) o) (first_at-append place xs ys)
    ∙ or_else-assoc (slice_get x place) (first_at place xs) (first_at place ys)

pub or_parts_left : (x y : Bool) → (x || y) ≡ false → x ≡ false
or_parts_left true y h = absurd cc
or_parts_left false y h = refl

pub or_parts_right : (x y : Bool) → (x || y) ≡ false → y ≡ false
or_parts_right true y h = absurd cc
or_parts_right false y h = h

same_index : (index : ℕ) (p : Paged) → p.index ≡ index → at_index index p ≡ p.bytes ∷ []
same_index index p h = ap (λ b. cond b (p.bytes ∷ []) []) (eq-eqb p.index index h)

other_index : (index : ℕ) (p : Paged) → p.index ≢ index → at_index index p ≡ []
other_index index p h = let t : nat_eq p.index index ≡ false = grind (arith, h) in ap (λ b. cond b (p.bytes ∷ []) []) t

find_here : (size index place : ℕ) (p : Paged) → p.index ≡ index
    → find nat_cmp (index * size + place) (page_bytes size p) ≡ first_at place (at_index index p)
unfolding first_at
find_here size index place p h =
    ap (λ n. find nat_cmp (n * size + place) (page_bytes size p)) (sym h) ∙ find-bytes_from p.bytes (p.index * size) place
    ∙ sym (or_else-none (slice_get p.bytes place)) ∙ ap (λ o. first_at place o) (sym (same_index index p h))

find_elsewhere : (size index place : ℕ) (p : Paged) → place < size → length p.bytes ≤ size → p.index ≢ index
    → (p.index < index) ⊎ (index ≤ p.index)
    → find nat_cmp (index * size + place) (page_bytes size p) ≡ None
find_elsewhere size index place p inside short apart (inl less) =
    let most : (p.index + 1) * size ≤ index * size = mul-le-mul_right size (omega arith) in
    let one : (p.index + 1) * size ≡ p.index * size + size = omega arith in
    find_after p.bytes (p.index * size) (index * size + place) (omega arith)
find_elsewhere size index place p inside short apart (inr more) =
    let least : (index + 1) * size ≤ p.index * size = mul-le-mul_right size (omega arith) in
    let one : (index + 1) * size ≡ index * size + size = omega arith in
    find_before p.bytes (p.index * size) (index * size + place) (omega arith)

find_page : (size index place : ℕ) (p : Paged) → place < size → length p.bytes ≤ size → (p.index ≡ index) ⊎ (p.index ≢ index)
    → find nat_cmp (index * size + place) (page_bytes size p) ≡ first_at place (at_index index p)
unfolding first_at
find_page size index place p inside short (inl same) = find_here size index place p same
find_page size index place p inside short (inr apart) =
    find_elsewhere size index place p inside short apart (cases_lt p.index index)
    ∙ ap (λ o. first_at place o) (sym (other_index index p apart))

-- no page is longer than the page size
abbrev pub is_any_long : ℕ → List Paged → Bool
is_any_long size all = list_any (λ p. nat_lt size (length p.bytes)) all

pub find_pages : (size index place : ℕ) (all : List Paged) → place < size → is_any_long size all ≡ false
    → find nat_cmp (index * size + place) (flat_map (page_bytes size) all) ≡ first_at place (pages_at index all)
unfolding first_at
find_pages size index place [] inside short = refl
find_pages size index place (p ∷ all) inside short =
    let here : nat_lt size (length p.bytes) ≡ false = or_parts_left (nat_lt size (length p.bytes)) (is_any_long size all) short in
    let later : is_any_long size all ≡ false = or_parts_right (nat_lt size (length p.bytes)) (is_any_long size all) short in
    let first = find_page size index place p inside (ltb-false size (length p.bytes) here) (cases_eq p.index index) in
    let rest = find_pages size index place all inside later in
    find-append (index * size + place) (page_bytes size p) (flat_map (page_bytes size) all)
    ∙ ap (λ o. or_else o (find nat_cmp (index * size + place) (flat_map (page_bytes size) all))) first
    ∙ ap (λ o. or_else (first_at place (at_index index p)) o) rest
    ∙ sym (first_at-append place (at_index index p) (pages_at index all))

no_bytes : (bytes : List ℕ) (at address : ℕ) → length bytes ≤ 0 → find nat_cmp address (bytes_from at bytes) ≡ None
no_bytes [] at address h = refl
no_bytes (byte ∷ bytes) at address h = absurd (omega arith)

-- pages of no bytes give none
pub find_none : (address : ℕ) (all : List Paged) → is_any_long 0 all ≡ false → find nat_cmp address (flat_map (page_bytes 0) all) ≡ None
unfolding or_else
find_none address [] short = refl
find_none address (p ∷ all) short =
    let here : nat_lt 0 (length p.bytes) ≡ false = or_parts_left (nat_lt 0 (length p.bytes)) (is_any_long 0 all) short in
    let later : is_any_long 0 all ≡ false = or_parts_right (nat_lt 0 (length p.bytes)) (is_any_long 0 all) short in
    find-append address (page_bytes 0 p) (flat_map (page_bytes 0) all)
    ∙ ap (λ o. or_else o (find nat_cmp address (flat_map (page_bytes 0) all)))
    (no_bytes p.bytes (p.index * 0) address (ltb-false 0 (length p.bytes) here))
    ∙ find_none address all later
