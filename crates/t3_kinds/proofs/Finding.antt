-- A search among elements, as far as it has come.
use Rattle.std.proofs.Common.{◌≡◌, ℕ, zero, suc, ◌+◌, ◌<◌, ◌≤◌, List, [], ◌∷◌, ◌++◌, length, take, drop, get_or, Some, None, Ok, refl, sym, ap, ◌∙◌, arith}
use Rattle.std.specs.List.{slice_get}
use Rattle.std.proofs.lemmas.List.{drop_more, take_more, take_all, length-drop, get_or-drop}
use Rattle.std.proofs.lemmas.Option.{none-some, slice_get_within, get_or_from_slice_get}
use Rattle.t3_holder.specs.declared.holder.Holder.{Holder}
use Rattle.t3_pools.specs.Pool.{Pool}
use Rattle.t3_store.specs.Store.{StoreValue}
use Rattle.t3_ops.specs.Equality.{equal_of}
use Rattle.t3_kinds.specs.ListMethods.{found_after, found_from}

-- the element of an index, and those after it
pub drop-at : (xs : List Holder) (index : ℕ) (x : Holder) → Some x ≡ slice_get xs index → drop index xs ≡ x ∷ drop (index + 1) xs
drop-at xs index x here =
    drop_more xs index x (slice_get_within xs index x (sym here))
    ∙ ap (λ y. y ∷ drop (index + 1) xs) (get_or_from_slice_get xs index x x (sym here))

pub get-before : (xs : List Holder) (index : ℕ) (x : Holder) → Some x ≡ slice_get xs index → index < length xs
get-before xs index x here = slice_get_within xs index x (sym here)

-- there are none after the last
pub drop-past : (xs : List Holder) (index : ℕ) → None ≡ slice_get xs index → drop index xs ≡ []
drop-past [] zero none = refl
drop-past [] (suc index) none = refl
drop-past (x ∷ xs) zero none = absurd (none-some x none)
drop-past (x ∷ xs) (suc index) none = drop-past xs index none

-- a search goes on after the element of an index
pub found-at : (constants : Pool) (store : StoreValue) (turns : ℕ) (value : Holder) (number : ℕ) (xs : List Holder) (index : ℕ) (x : Holder)
    → Some x ≡ slice_get xs index
    → found_from constants store turns value number (drop index xs)
    ≡ found_after (equal_of constants store turns value x) number
    (λ turns. found_from constants store turns value (number + 1) (drop (index + 1) xs))
unfolding found_from
found-at constants store turns value number xs index x here =
    ap (found_from constants store turns value number) (drop-at xs index x here)

-- and nothing is found after the last
pub found-past : (constants : Pool) (store : StoreValue) (turns : ℕ) (value : Holder) (number : ℕ) (xs : List Holder) (index : ℕ)
    → None ≡ slice_get xs index → found_from constants store turns value number (drop index xs) ≡ Ok (None, turns)
unfolding found_from
found-past constants store turns value number xs index none =
    ap (found_from constants store turns value number) (drop-past xs index none)

-- ---- the first elements of what is left of a list

pub take-next : (xs : List Holder) (skipped count index : ℕ) (x : Holder) → index ≡ skipped + count → Some x ≡ slice_get xs index
    → take (count + 1) (drop skipped xs) ≡ take count (drop skipped xs) ++ x ∷ []
take-next xs skipped count index x is here =
    let within = slice_get_within xs index x (sym here) in
    let long = length-drop skipped xs in
    take_more (drop skipped xs) count x (omega (arith, within, long, is))
    ∙ ap (λ y. take count (drop skipped xs) ++ y ∷ [])
    (get_or-drop skipped xs count x ∙ ap (λ n. get_or xs n x) (sym is) ∙ get_or_from_slice_get xs index x x (sym here))

get-past : (xs : List Holder) (index : ℕ) → None ≡ slice_get xs index → length xs ≤ index
get-past [] index none = omega arith
get-past (x ∷ xs) zero none = absurd (none-some x none)
get-past (x ∷ xs) (suc index) none = let rest = get-past xs index none in omega (arith, rest)

-- all that is left was taken
pub take-past : (xs : List Holder) (skipped count most index : ℕ) → index ≡ skipped + count → None ≡ slice_get xs index → count ≤ most
    → take count (drop skipped xs) ≡ take most (drop skipped xs)
take-past xs skipped count most index is none within =
    let past = get-past xs index none in
    let long = length-drop skipped xs in
    take_all count (drop skipped xs) (omega (arith, past, long, is)) ∙ sym (take_all most (drop skipped xs) (omega (arith, past, long, is, within)))
