-- Whether a record is due, the search for one, and the room that it needs.
use Rattle.std.proofs.Common.{◌≡◌, ◌∙◌, ap, sym, refl, ℕ, ◌+◌, ◌-◌, ◌<◌, ◌≤◌, zero, suc, Bool, true, false, not, ◌&&◌, ◌||◌, nat_lt, if◌then◌else◌, List, [], ◌∷◌, ◌++◌, length, map, take, drop, Some, ◌==◌, eqb-true, ltb-true, lt-ltb, length-drop, take-append-drop, arith}
use Rattle.std.specs.List.{list_any}
use Rattle.std.proofs.lemmas.Bool.{eqb-false}
use Rattle.std.proofs.lemmas.List.{take_at}
use Rattle.std.proofs.lemmas.List.Folds.{list_any-append}
use Rattle.std.proofs.lemmas.List.Sorted.{list_any-IsPermutation, IsPermutation-reverse}
use Rattle.circular_buffer.specs.Buffer.{last_item}
use Rattle.t3_undo.specs.Objects.{OldPart, Segment, is_of, is_noted}
use Rattle.t3_undo.specs.Journal.{old_of, total, room, add, note_in, is_due, is_held, newest_records}
use Rattle.t3_undo.specs.Inner.Rings.{segments_of, AreCounted}
use Rattle.t3_undo.specs.declared.cell.Cell.{Cell}
use Rattle.t3_undo.specs.declared.kept.Kept.{Kept}
use Rattle.t3_undo.specs.declared.mark.Mark.{Mark}
use Rattle.t3_undo.proofs.RingLists.{olds, olds-append, length-olds, length-segments, segments-last, last-fits}

-- the newest records are those that the newest savepoint counts
is_noted-newest : (records : List Kept) (count : ℕ) (n : ℕ) (c : Cell) → count ≤ length records
    → is_noted n c (map old_of (drop (length records - count) records)) ≡ is_noted n c (take count (olds records))
is_noted-newest records count n c h =
    let k = length records - count in
    let left = drop k records in
    let whole : olds records ≡ olds left ++ olds (take k records) = ap olds (sym (take-append-drop k records))
    ∙ olds-append (take k records) left in
    let size : length (olds left) ≡ count = omega (arith, length-olds left, length-drop k records) in
    list_any-IsPermutation (is_of n c) (map old_of left) (olds left) (IsPermutation-reverse (map old_of left))
    ∙ ap (is_noted n c) (sym (ap (take count) whole ∙ take_at (olds left) (olds (take k records)) count size))

list_any-map : {X Y : Type 0} (p : Y → Bool) (f : X → Y) (xs : List X) → list_any p (map f xs) ≡ list_any (λ x. p (f x)) xs
list_any-map p f [] = refl
list_any-map p f (x ∷ xs) = ap (λ b. p (f x) || b) (list_any-map p f xs)

-- whether a record is due, as the code finds it
pub is_due-newest : (marks : List Mark) (mark : Mark) (records : List Kept) (n : ℕ) (c : Cell) → Some mark ≡ last_item marks
    → AreCounted marks records
    → is_due n c (segments_of marks records)
    ≡ (nat_lt n mark.next && not (list_any (λ kept. is_of n c (old_of kept)) (drop (length records - mark.count) records)))
is_due-newest marks mark records n c is all =
    let fits = last-fits marks mark records is all in
    ap (is_due n c) (segments-last marks mark records is)
    ∙ ap (λ b. nat_lt n mark.next && not b) (sym (is_noted-newest records mark.count n c fits)
    ∙ list_any-map (is_of n c) old_of (drop (length records - mark.count) records))

-- a search of the end of a list that stands in two pieces
drop-pieces : {X : Type 0} (n : ℕ) (xs ys : List X) → drop n (xs ++ ys) ≡ drop n xs ++ drop (n - length xs) ys
drop-pieces zero [] ys = refl
drop-pieces (suc n) [] ys = let f : suc n ≡ suc n - 0 = omega arith in λ i. drop (f i) ys
drop-pieces zero (x ∷ xs) ys = let f : 0 ≡ 0 - length (x ∷ xs) = omega arith in λ i. (x ∷ xs) ++ drop (f i) ys
drop-pieces (suc n) (x ∷ xs) ys =
    let f : n - length xs ≡ suc n - length (x ∷ xs) = omega arith in
    drop-pieces n xs ys ∙ λ i. drop n xs ++ drop (f i) ys

pub searched : {X : Type 0} (p : X → Bool) (n : ℕ) (whole xs ys : List X) → xs ++ ys ≡ whole → list_any p (drop n xs) ≡ false
    → list_any p (drop (n - length xs) ys) ≡ list_any p (drop n whole)
searched p n whole xs ys is none =
    sym (ap (list_any p) (ap (drop n) (sym is) ∙ drop-pieces n xs ys) ∙ list_any-append p (drop n xs) (drop (n - length xs) ys)
    ∙ ap (λ b. b || list_any p (drop (n - length xs) ys)) none)

-- where the newest savepoint has no record of a cell, it has none after a record of another. Other crates may use this
pub fresh-beside : (limit : ℕ) (part : OldPart) (ss : List Segment) (n : ℕ) (c : Cell) → is_of n c part ≡ false
    → is_noted n c (newest_records ss) ≡ false → is_noted n c (newest_records (note_in limit part ss)) ≡ false
fresh-beside limit part [] n c other fresh = refl
fresh-beside limit part (s ∷ ss) n c other fresh = by (nat_lt part.number s.next && not (is_noted part.number part.cell s.records))
  where
    added : (y : Bool) → is_noted n c (newest_records (add part (if y then s ∷ room (limit - length s.records) ss else []))) ≡ false
    added true = ap (λ b. b || is_noted n c s.records) other ∙ fresh
    added false = refl

    by : (x : Bool) → is_noted n c (newest_records (if x then add part (room limit (s ∷ ss)) else (s ∷ ss))) ≡ false
    by true = added (nat_lt (length s.records) limit)
    by false = fresh

-- whether a savepoint is held, as the code finds it
pub held-marks : (marks : List Mark) (records : List Kept) (b : Bool) → b ≡ (length marks == 0)
    → not b ≡ is_held (segments_of marks records)
held-marks marks records b is = by (segments_of marks records) (length-segments marks records) b is
  where
    by : (ss : List Segment) → length ss ≡ length marks → (b : Bool) → b ≡ (length marks == 0) → not b ≡ is_held ss
    by [] e true is = refl
    by [] e false is = absurd (eqb-false (length marks) 0 (sym is) (sym e))
    by (s ∷ ss) e true is = let none = eqb-true (length marks) 0 (sym is) in absurd (omega arith)
    by (s ∷ ss) e false is = refl

-- room for a record
pub room-fits : (limit : ℕ) (segments : List Segment) → total segments < limit → room limit segments ≡ segments
room-fits limit [] h = refl
room-fits limit (s ∷ ss) h =
    let fits : nat_lt (length s.records) limit ≡ true = lt-ltb _ _ (omega arith) in
    ap (λ b. if b then s ∷ room (limit - length s.records) ss else []) fits
    ∙ ap (λ xs. s ∷ xs) (room-fits (limit - length s.records) ss (omega arith))

room-again : (b : Bool) (s : Segment) (some whole : List Segment) → (b ≡ true → some ≡ whole)
    → (if b then s ∷ some else []) ≡ (if b then s ∷ whole else [])
room-again true s some whole same = ap (λ xs. s ∷ xs) (same refl)
room-again false s some whole same = refl

pub room-dropped : (limit n : ℕ) (segments : List Segment) → n + 1 ≡ length segments → limit ≤ total segments
    → room limit (take n segments) ≡ room limit segments
room-dropped limit n [] e h = absurd (omega arith)
room-dropped limit zero (s ∷ []) e h = sym (ap (λ b. if b then s ∷ [] else []) (by (nat_lt (length s.records) limit) refl))
  where
    by : (b : Bool) → nat_lt (length s.records) limit ≡ b → b ≡ false
    by true t = absurd (omega (arith, ltb-true (length s.records) limit t))
    by false t = refl
room-dropped limit zero (s ∷ t ∷ ss) e h = absurd (omega arith)
room-dropped limit (suc n) (s ∷ ss) e h =
    room-again (nat_lt (length s.records) limit) s _ _
    (λ t. room-dropped (limit - length s.records) n ss (omega arith) (omega arith))

-- tests of numbers
pub above-zero : (n : ℕ) (b : Bool) → b ≡ (n == 0) → b ≡ false → 0 < n
above-zero n b is e = let h = eqb-false n 0 (sym is ∙ e) in omega arith

pub is-zero : (n : ℕ) (b : Bool) → b ≡ (n == 0) → b ≡ true → n ≡ 0
is-zero n b is e = eqb-true n 0 (sym is ∙ e)
