-- How many places stay once an object is purged, and that none goes of a cell with a record. Other crates may use these.
use Rattle.std.proofs.Common.{◌≡◌, ◌∙◌, sym, refl, ℕ, ◌+◌, ◌≤◌, Bool, true, false, T, ◌&&◌, ◌||◌, ◌⊎◌, inl, inr, if◌then◌else◌, List, [], ◌∷◌, ◌++◌, map, length, Option, None, Some, IsSome, is_some, true≢false, length-append, arith}
use Rattle.std.specs.Ordering.{is_eq, is_lt}
use Rattle.std.specs.Cmp.{eq_by_cmp_equiv}
use Rattle.std.specs.List.{list_any, IsDistinct, AllByRecursion}
use Rattle.std.specs.FinMap.Entries.{below_all, is_sorted}
use Rattle.std.specs.declared.cmp.Ordering.{Ordering}
use Rattle.std.specs.declared.cmp.Ordering.TheVariants.{Less, Equal, Greater}
use Rattle.std.specs.FinMap.{FinMap, get, len, len-entries, keys, entries, entries_sorted, contains_key-keys}
use Rattle.std.proofs.lemmas.List.{length-map}
use Rattle.std.proofs.lemmas.Map.Made.{length-le_from_is_member}
use Rattle.t3_undo.specs.Cell.{cell_cmp, cell_cmp_total}
use Rattle.t3_undo.specs.Content.{Parts, Places}
use Rattle.t3_undo.specs.Objects.{OldPart, Segment, is_of, is_noted}
use Rattle.t3_undo.specs.Journal.{total, oldest_serial_or}
use Rattle.t3_undo.specs.Stamps.{HaveSerialsBelow, IsStamp, noted_serial, HasRecord}
use Rattle.t3_undo.specs.Purging.{IsOldest}
use Rattle.t3_undo.specs.declared.cell.Cell.{Cell}
use Rattle.t3_undo.proofs.PuttingBack.{same_cell, and-second}
use Rattle.t3_undo.proofs.Stamping.{stamp-noted, stamp-below-oldest}

-- ---- cells with a record

pub record-here : (n : ℕ) (c : Cell) (s : Segment) (ss : List Segment) → is_noted n c s.records ≡ true → HasRecord n c (s ∷ ss)
record-here n c s ss e = λ i. is_some (if e i then Some s.serial else noted_serial n c ss)

pub record-there : (n : ℕ) (c : Cell) (s : Segment) (ss : List Segment) → HasRecord n c ss → HasRecord n c (s ∷ ss)
record-there n c s ss has = by (is_noted n c s.records)
  where
    by : (b : Bool) → is_some (if b then Some s.serial else noted_serial n c ss) ≡ true
    by true = refl
    by false = has

pub record-where : (n : ℕ) (c : Cell) (s : Segment) (ss : List Segment) → HasRecord n c (s ∷ ss)
    → (is_noted n c s.records ≡ true) ⊎ HasRecord n c ss
record-where n c s ss has = by (is_noted n c s.records) refl has
  where
    by : (b : Bool) → is_noted n c s.records ≡ b → is_some (if b then Some s.serial else noted_serial n c ss) ≡ true
        → (is_noted n c s.records ≡ true) ⊎ HasRecord n c ss
    by true e has = inl e
    by false e has = inr has

-- ---- the oldest serial

oldest-below : (ss : List Segment) (b : ℕ) → HaveSerialsBelow b ss → oldest_serial_or b ss ≤ b
oldest-below [] b serials = omega arith
oldest-below (s ∷ ss) b serials = let less = serials.0 in let rest = oldest-below ss s.serial serials.1 in omega arith

oldest-noted : (ss : List Segment) (b n : ℕ) (c : Cell) (serial : ℕ) → HaveSerialsBelow b ss → noted_serial n c ss ≡ Some serial
    → oldest_serial_or b ss ≤ serial
oldest-noted [] b n c serial serials e = cc
oldest-noted (s ∷ ss) b n c serial serials e =
    by (is_noted n c s.records) e (oldest-below ss s.serial serials.1) (λ there. oldest-noted ss s.serial n c serial serials.1 there)
  where
    by : (x : Bool) → (if x then Some s.serial else noted_serial n c ss) ≡ Some serial → oldest_serial_or s.serial ss ≤ s.serial
        → (noted_serial n c ss ≡ Some serial → oldest_serial_or s.serial ss ≤ serial) → oldest_serial_or s.serial ss ≤ serial
    by true e below rest = let same : s.serial ≡ serial = cc in omega (arith, below, same)
    by false e below rest = rest e

-- a cell with a record has a stamp from the oldest serial on
pub from-oldest : (ss : List Segment) (made oldest n : ℕ) (c : Cell) (t : ℕ) → IsOldest made oldest ss → HaveSerialsBelow (made + 1) ss
    → IsStamp (made + 1) n c t ss → HasRecord n c ss → oldest ≤ t
from-oldest [] made oldest n c t is serials stamp has = absurd (true≢false (sym has))
from-oldest (s ∷ ss) made oldest n c t (inl none) serials stamp has = let no = none.0 in cc
from-oldest (s ∷ ss) made oldest n c t (inr some) serials stamp has = by (noted_serial n c (s ∷ ss)) refl has
  where
    by : (o : Option ℕ) → noted_serial n c (s ∷ ss) ≡ o → is_some o ≡ true → oldest ≤ t
    by None e has = absurd (true≢false (sym has))
    by (Some serial) e has =
        let same = stamp-noted (s ∷ ss) (made + 1) n c t serial stamp e in
        let least = oldest-noted (s ∷ ss) (made + 1) n c serial serials e in
        let own : oldest_serial_or s.serial ss ≡ oldest = cc in
        omega (arith, same, least, own)

-- and one with such a stamp has a record
pub noted-from : (ss : List Segment) (made oldest n : ℕ) (c : Cell) (t : ℕ) → IsOldest made oldest ss → HaveSerialsBelow (made + 1) ss
    → IsStamp (made + 1) n c t ss → oldest ≤ t → HasRecord n c ss
noted-from [] made oldest n c t (inl none) serials stamp from = let above = none.1 in absurd (omega (arith, above, stamp, from))
noted-from [] made oldest n c t (inr some) serials stamp from = cc
noted-from (s ∷ ss) made oldest n c t (inl none) serials stamp from = let no = none.0 in cc
noted-from (s ∷ ss) made oldest n c t (inr some) serials stamp from = by (noted_serial n c (s ∷ ss)) refl
  where
    by : (o : Option ℕ) → noted_serial n c (s ∷ ss) ≡ o → is_some o ≡ true
    by None e =
        let below = stamp-below-oldest (s ∷ ss) (made + 1) n c t stamp e in
        let own : oldest_serial_or s.serial ss ≡ oldest = cc in
        absurd (omega (arith, below, own, from))
    by (Some serial) e = refl

-- ---- how many places there are

-- the keys of a map are distinct
less-apart : (r : Ordering) → T (is_lt r) → is_eq r ≡ false
less-apart Less h = refl
less-apart Equal h = absurd h
less-apart Greater h = absurd h

and-left : (a b : Bool) → T (a && b) → T a
and-left true b h = tt
and-left false b h = h

and-right : (a b : Bool) → T (a && b) → T b
and-right true b h = h
and-right false b h = absurd h

below-apart : {X : Type 0} (c : Cell) (es : List (Cell × X)) → T (below_all cell_cmp c es)
    → AllByRecursion (λ d. same_cell c d ≡ false) (map (λ e. e.0) es)
below-apart c [] h = tt
below-apart c (e ∷ es) h =
    (less-apart (cell_cmp c e.0) (and-left _ (below_all cell_cmp c es) h), below-apart c es (and-right (is_lt (cell_cmp c e.0)) _ h))

distinct-keys : {X : Type 0} (es : List (Cell × X)) → T (is_sorted cell_cmp es) → IsDistinct same_cell (map (λ e. e.0) es)
unfolding IsDistinct
distinct-keys [] h = tt
distinct-keys (e ∷ es) h = (
  below-apart e.0 es (and-left (below_all cell_cmp e.0 es) (is_sorted cell_cmp es) h),
  distinct-keys es (and-right (below_all cell_cmp e.0 es) (is_sorted cell_cmp es) h),
)

-- a map whose keys are all among these cells has no more
pub few-keys : {X : Type 0} (m : FinMap cell_cmp X) (cells : List Cell) → ((c : Cell) → IsSome (get m c) → list_any (same_cell c) cells ≡ true)
    → len m ≤ length cells
few-keys m cells each =
    let few = length-le_from_is_member (eq_by_cmp_equiv cell_cmp_total) (keys m) cells (distinct-keys (entries m) (entries_sorted m))
    (λ q e. each q (contains_key-keys m q ∙ e)) in
    let size = len-entries m in
    let count = length-map (entries m) (λ e. e.0) in
    omega (arith, few, size, count)

-- the cells of all records
abbrev cells_of : List Segment → List Cell
cells_of [] = []
cells_of (s ∷ ss) = map (λ part. part.cell) s.records ++ cells_of ss

length-cells : (ss : List Segment) → length (cells_of ss) ≡ total ss
length-cells [] = refl
length-cells (s ∷ ss) =
    let a = length-append (map (λ (part : OldPart). part.cell) s.records) (cells_of ss) in
    let b = length-map s.records (λ part. part.cell) in
    let c = length-cells ss in
    omega (arith, a, b, c)

any-append : (p : Cell → Bool) (xs ys : List Cell) → list_any p (xs ++ ys) ≡ (list_any p xs || list_any p ys)
any-append p [] ys = refl
any-append p (x ∷ xs) ys = by (p x) (any-append p xs ys)
  where
    by : (b : Bool) → list_any p (xs ++ ys) ≡ (list_any p xs || list_any p ys)
        → (b || list_any p (xs ++ ys)) ≡ ((b || list_any p xs) || list_any p ys)
    by true e = refl
    by false e = e

or-right : (a b : Bool) → b ≡ true → (a || b) ≡ true
or-right true b e = refl
or-right false b e = e

or-left : (a b : Bool) → a ≡ true → (a || b) ≡ true
or-left true b e = refl
or-left false b e = absurd (true≢false (sym e))

noted-cell : (n : ℕ) (c : Cell) (parts : List OldPart) → is_noted n c parts ≡ true
    → list_any (same_cell c) (map (λ part. part.cell) parts) ≡ true
noted-cell n c [] e = absurd (true≢false (sym e))
noted-cell n c (p ∷ parts) e = by (is_of n c p) refl e (noted-cell n c parts)
  where
    by : (b : Bool) → is_of n c p ≡ b → (b || is_noted n c parts) ≡ true
        → (is_noted n c parts ≡ true → list_any (same_cell c) (map (λ part. part.cell) parts) ≡ true)
        → (same_cell c p.cell || list_any (same_cell c) (map (λ part. part.cell) parts)) ≡ true
    by true own e rest = or-left (same_cell c p.cell) _ (and-second _ (same_cell c p.cell) own)
    by false own e rest = or-right (same_cell c p.cell) _ (rest e)

record-cell : (n : ℕ) (c : Cell) (ss : List Segment) → HasRecord n c ss → list_any (same_cell c) (cells_of ss) ≡ true
record-cell n c [] has = absurd (true≢false (sym has))
record-cell n c (s ∷ ss) has =
    any-append (same_cell c) (map (λ part. part.cell) s.records) (cells_of ss)
    ∙ by (record-where n c s ss has) (record-cell n c ss)
  where
    by : (is_noted n c s.records ≡ true) ⊎ HasRecord n c ss → (HasRecord n c ss → list_any (same_cell c) (cells_of ss) ≡ true)
        → (list_any (same_cell c) (map (λ part. part.cell) s.records) || list_any (same_cell c) (cells_of ss)) ≡ true
    by (inl here) rest = or-left _ _ (noted-cell n c s.records here)
    by (inr there) rest = or-right (list_any (same_cell c) (map (λ part. part.cell) s.records)) _ (rest there)

-- where each place is of a present cell or of one that has a record, there are as many at most as these together
pub few-places : (places : Places) (parts : Parts) (n : ℕ) (ss : List Segment)
    → ((c : Cell) → IsSome (get places c) → IsSome (get parts c) ⊎ HasRecord n c ss)
    → len places ≤ len parts + total ss
few-places places parts n ss each =
    let few = few-keys places (keys parts ++ cells_of ss)
    (λ q there. any-append (same_cell q) (keys parts) (cells_of ss) ∙ by q (each q there)) in
    let a = length-append (keys parts) (cells_of ss) in
    let b = length-cells ss in
    let d = len-entries parts in
    let f = length-map (entries parts) (λ e. e.0) in
    omega (arith, few, a, b, d, f)
  where
    by : (q : Cell) → IsSome (get parts q) ⊎ HasRecord n q ss
        → (list_any (same_cell q) (keys parts) || list_any (same_cell q) (cells_of ss)) ≡ true
    by q (inl there) = or-left _ _ (sym (contains_key-keys parts q) ∙ there)
    by q (inr has) = or-right (list_any (same_cell q) (keys parts)) _ (record-cell n q ss has)
