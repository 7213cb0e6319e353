-- Lists that are cut into parts. Other crates may use what stands here.
use Rattle.std.proofs.Common.{◌≡◌, ℕ, ◌+◌, List, ◌++◌, take, drop, sym, ◌∙◌, arith}
use Rattle.std.proofs.lemmas.List.{take-append-drop, take-take, drop-take}
use Rattle.t3_blocks.proofs.Lists.{next_part}

-- a list is four elements, four more, two more, and the rest
pub four_four_two : {X : Type 0} (xs : List X) → take 4 xs ++ (take 4 (drop 4 xs) ++ (take 2 (drop 8 xs) ++ drop 10 xs)) ≡ xs
four_four_two xs = rw (next_part 8 2 xs, next_part 4 4 xs) (take-append-drop 4 xs)

-- the parts of the header, and the rest
pub head_parts : {X : Type 0} (xs : List X) → take 11 xs ++
    (take 2 (drop 11 xs) ++ (take 32 (drop 13 xs) ++ (take 24 (drop 45 xs) ++ drop 69 xs))) ≡ xs
head_parts xs = rw (next_part 45 24 xs, next_part 13 32 xs, next_part 11 2 xs) (take-append-drop 11 xs)

-- the first of the rest follow the first
pub take_add : {X : Type 0} (at n : ℕ) (xs : List X) → take (at + n) xs ≡ take at xs ++ take n (drop at xs)
take_add at n xs =
    let m = at + n in
    sym (take-append-drop at (take m xs)) ∙ (λ i. take-take at m xs (omega arith) i ++ drop-take at n xs i)
