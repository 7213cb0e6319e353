-- Numbers in a row, and lists that are appended to one after the other.
use Rattle.std.proofs.Common.{◌≡◌, ℕ, zero, suc, ◌+◌, ◌-◌, List, [], ◌∷◌, ◌++◌, length, take, drop, min, Result, Ok, Err, IfOk, sym, ap, ◌∙◌, append_assoc, arith}
use Rattle.std.specs.List.{range_with_len}
use Rattle.std.proofs.lemmas.List.{append-nil, length-drop, take_min}

-- the first number of a row, and the others
pub range_with_len-next : (a n m : ℕ) → n ≡ m + 1 → range_with_len a n ≡ a ∷ range_with_len (a + 1) m
range_with_len-next a zero m e = absurd (omega arith)
range_with_len-next a (suc n) m e = let same : n ≡ m = omega arith in ap (λ k. a ∷ range_with_len (a + 1) k) same

-- what was due next is there now
pub append_next : {X : Type 0} (was item rest whole : List X) → was ++ (item ++ rest) ≡ whole → (was ++ item) ++ rest ≡ whole
append_next was item rest whole e = append_assoc was item rest ∙ e

-- a piece that ends at the list's end, where the list has no more
pub cut : {X : Type 0} (start size : ℕ) (xs : List X)
    → take (min (length xs) (start + size) - start) (drop start xs) ≡ take size (drop start xs)
cut start size xs =
    let same : min (length xs) (start + size) - start ≡ min size (length (drop start xs)) = omega (arith, length-drop start xs) in
    ap (λ n. take n (drop start xs)) same ∙ take_min size (drop start xs)

-- a step over a row: what is due of a number is appended, and then the rest is due
pub row_step : {X : Type 0} (due : List ℕ → List X) (item was now whole : List X) (from count left : ℕ)
    → ((rest : List ℕ) → due (from ∷ rest) ≡ item ++ due rest) → count ≡ left + 1 → now ≡ was ++ item
    → was ++ due (range_with_len from count) ≡ whole → now ++ due (range_with_len (from + 1) left) ≡ whole
row_step due item was now whole from count left split counted is before =
    ap (λ n. n ++ due (range_with_len (from + 1) left)) is
    ∙ append_next was item (due (range_with_len (from + 1) left)) whole
    (ap (λ t. was ++ t) (sym (split (range_with_len (from + 1) left)))
    ∙ ap (λ ns. was ++ due ns) (sym (range_with_len-next from count left counted)) ∙ before)

-- the end of a row, where nothing is due any more
pub row_done : {X : Type 0} (due : List ℕ → List X) (now whole : List X) (from left : ℕ) → due [] ≡ [] → left ≡ 0
    → now ++ due (range_with_len from left) ≡ whole → now ≡ whole
row_done due now whole from left none over before =
    sym (append-nil now) ∙ ap (λ t. now ++ t) (sym none) ∙ ap (λ n. now ++ due (range_with_len from n)) (sym over) ∙ before

-- two parts that are appended one after the other
pub appended_twice : {X : Type 0} (old mid new first then : List X)
    → mid ≡ old ++ first → new ≡ mid ++ then → new ≡ old ++ (first ++ then)
appended_twice old mid new first then is_first is_then = is_then ∙ ap (λ t. t ++ then) is_first ∙ append_assoc old first then

-- what follows of a result that is `Ok`
pub ok_then : {T E : Type 0} (result : Result T E) (A B : Type 0) → (A → B) → IfOk result (λ _. A) → IfOk result (λ _. B)
ok_then (Ok done) A B follows is = follows is
ok_then (Err refusal) A B follows is = is
