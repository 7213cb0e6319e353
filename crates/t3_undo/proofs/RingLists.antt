-- The two rings of a journal as segments: what each change of the rings does to them.
use Rattle.std.proofs.Common.{◌≡◌, ◌∙◌, ap, sym, subst, refl, ℕ, ◌+◌, ◌-◌, ◌<◌, ◌≤◌, zero, suc, List, [], ◌∷◌, ◌++◌, length, map, reverse, take, drop, Option, None, Some, slice_get, add-one, length-append, length-drop, take-append-drop, arith}
use Rattle.std.specs.Option.{option_map}
use Rattle.std.proofs.lemmas.List.{reverse-append, take-append-le, take_at, length-reverse, length-map, length-take-le, map-append}
use Rattle.std.proofs.Math.Seq.{drop-append-le}
use Rattle.std.proofs.lemmas.List.Sorted.{sum_by-IsPermutation, IsPermutation-reverse}
use Rattle.std.proofs.lemmas.List.Sums.{sum_by-append, sum_by-cons}
use Rattle.circular_buffer.specs.Buffer.{last_item}
use Rattle.t3_undo.specs.Objects.{OldPart, Segment}
use Rattle.t3_undo.specs.Journal.{old_of, total, add, first, newest_record, oldest_serial, oldest_serial_or, but_newest_record}
use Rattle.t3_undo.specs.Inner.Rings.{segment_of, cut, segments_of, counted, AreCounted}
use Rattle.t3_undo.specs.declared.kept.Kept.{Kept}
use Rattle.t3_undo.specs.declared.mark.Mark.{Mark}
use Rattle.t3_undo.proofs.LastItems.{last-is, none-is, last-of}

reverse-push : {X : Type 0} (xs : List X) (x : X) → reverse (xs ++ x ∷ []) ≡ x ∷ reverse xs
reverse-push xs x = reverse-append xs (x ∷ [])

-- the records, the newest first
abbrev pub olds : List Kept → List OldPart
olds records = reverse (map old_of records)

pub olds-append : (xs ys : List Kept) → olds (xs ++ ys) ≡ olds ys ++ olds xs
olds-append xs ys = ap reverse (map-append old_of xs ys) ∙ reverse-append (map old_of xs) (map old_of ys)

pub length-olds : (records : List Kept) → length (olds records) ≡ length records
length-olds records = length-reverse (map old_of records) ∙ length-map records old_of

counted-cons : (mark : Mark) (marks : List Mark) → counted (mark ∷ marks) ≡ mark.count + counted marks
counted-cons mark marks = sum_by-cons (λ m. m.count) mark marks

counted-reverse : (marks : List Mark) → counted (reverse marks) ≡ counted marks
counted-reverse marks = sum_by-IsPermutation (λ mark. mark.count) marks (reverse marks) (IsPermutation-reverse marks)

-- there are as many segments as savepoints, and as many records as are counted
length-cut : (marks : List Mark) (parts : List OldPart) → length (cut marks parts) ≡ length marks
unfolding cut
length-cut [] parts = refl
length-cut (mark ∷ marks) parts = let e = length-cut marks (drop mark.count parts) in omega (arith, e)

pub length-segments : (marks : List Mark) (records : List Kept) → length (segments_of marks records) ≡ length marks
length-segments marks records = length-cut (reverse marks) (olds records) ∙ length-reverse marks

total-cut : (marks : List Mark) (parts : List OldPart) → counted marks ≤ length parts → total (cut marks parts) ≡ counted marks
unfolding cut
total-cut [] parts h = refl
total-cut (mark ∷ marks) parts h =
    let c = counted-cons mark marks in
    let rest : counted marks ≤ length (drop mark.count parts) = omega (arith, length-drop mark.count parts) in
    let e = total-cut marks (drop mark.count parts) rest in
    let f = length-take-le mark.count parts (omega arith) in
    omega (arith, e, f)

pub total-segments : (marks : List Mark) (records : List Kept) → AreCounted marks records → total (segments_of marks records)
    ≡ length records
total-segments marks records all =
    let e = counted-reverse marks in
    let l = length-olds records in
    total-cut (reverse marks) (olds records) (omega (arith, e, l)) ∙ omega (arith, e)

-- no savepoint
pub segments-none : (records : List Kept) → segments_of [] records ≡ []
unfolding cut
segments-none records = refl

empty-list : (marks : List Mark) → length marks ≡ 0 → marks ≡ []
empty-list [] e = refl
empty-list (m ∷ marks) e = absurd (omega arith)

pub segments-empty : (marks : List Mark) (records : List Kept) → length marks ≡ 0 → segments_of marks records ≡ []
segments-empty marks records e = ap (λ ms. segments_of ms records) (empty-list marks e) ∙ segments-none records

-- the newest savepoint apart
pub segments-newest : (marks : List Mark) (mark : Mark) (records : List Kept)
    → segments_of (marks ++ mark ∷ []) records
    ≡ segment_of mark (take mark.count (olds records)) ∷ cut (reverse marks) (drop mark.count (olds records))
unfolding cut
segments-newest marks mark records = ap (λ ms. cut ms (olds records)) (reverse-push marks mark)

-- the newest savepoint, as the code finds it
pub segments-last : (marks : List Mark) (mark : Mark) (records : List Kept) → Some mark ≡ last_item marks
    → segments_of marks records
    ≡ segment_of mark (take mark.count (olds records)) ∷ cut (reverse (take (length marks - 1) marks)) (drop mark.count (olds records))
segments-last marks mark records is =
    ap (λ ms. segments_of ms records) (last-is marks mark is) ∙ segments-newest (take (length marks - 1) marks) mark records

pub segments-unheld : (marks : List Mark) (records : List Kept) → None ≡ last_item marks → segments_of marks records ≡ []
segments-unheld marks records none = ap (λ ms. segments_of ms records) (none-is marks none) ∙ segments-none records

-- the oldest savepoint, which stands in front
oldest-cut : (none : ℕ) (marks : List Mark) (mark : Mark) (parts : List OldPart)
    → oldest_serial_or none (cut (marks ++ mark ∷ []) parts) ≡ mark.serial
unfolding cut
oldest-cut none [] mark parts = refl
oldest-cut none (m ∷ marks) mark parts = oldest-cut m.serial marks mark (drop m.count parts)

some-oldest : (none : ℕ) (segments : List Segment) → (length segments ≡ 0 → ⊥)
    → oldest_serial segments ≡ Some (oldest_serial_or none segments)
some-oldest none [] some = absurd (some refl)
some-oldest none (s ∷ segments) some = refl

pub segments-front : (marks : List Mark) (mark : Mark) (records : List Kept) → Some mark ≡ slice_get marks 0
    → oldest_serial (segments_of marks records) ≡ Some mark.serial
segments-front [] mark records is = cc
segments-front (m ∷ marks) mark records is =
    let same : m ≡ mark = cc in
    let held = length-segments (m ∷ marks) records in
    some-oldest 0 (segments_of (m ∷ marks) records) (λ none. omega arith)
    ∙ ap Some (ap (λ ms. oldest_serial_or 0 (cut ms (olds records))) (reverse-append (m ∷ []) marks)
    ∙ oldest-cut 0 (reverse marks) m (olds records) ∙ ap (λ (x : Mark). x.serial) same)

pub segments-frontless : (marks : List Mark) (records : List Kept) → None ≡ slice_get marks 0 → segments_of marks records ≡ []
segments-frontless [] records none = segments-none records
segments-frontless (m ∷ marks) records none = cc

-- a savepoint more
pub segments-marked : (marks : List Mark) (mark : Mark) (records : List Kept) → mark.count ≡ 0
    → segments_of (marks ++ mark ∷ []) records ≡ segment_of mark [] ∷ segments_of marks records
segments-marked marks mark records none =
    segments-newest marks mark records
    ∙ λ i. segment_of mark (take (none i) (olds records)) ∷ cut (reverse marks) (drop (none i) (olds records))

-- a record more
olds-push : (records : List Kept) (kept : Kept) → olds (records ++ kept ∷ []) ≡ old_of kept ∷ olds records
olds-push records kept = olds-append records (kept ∷ [])

segments-recorded : (marks : List Mark) (mark : Mark) (records : List Kept) (kept : Kept)
    → segments_of (marks ++ record mark { count = mark.count + 1 } ∷ []) (records ++ kept ∷ [])
    ≡ add (old_of kept) (segments_of (marks ++ mark ∷ []) records)
segments-recorded marks mark records kept =
    segments-newest marks (record mark { count = mark.count + 1 }) (records ++ kept ∷ [])
    ∙ (λ i. segment_of mark (take (mark.count + 1) (olds-push records kept i)) ∷ cut (reverse marks)
    (drop (mark.count + 1) (olds-push records kept i)))
    ∙ (λ i. segment_of mark (take (add-one mark.count i) (old_of kept ∷ olds records)) ∷ cut (reverse marks)
    (drop (add-one mark.count i) (old_of kept ∷ olds records)))
    ∙ sym (ap (add (old_of kept)) (segments-newest marks mark records))

-- a record less
recorded-newest : (marks : List Mark) (mark : Mark) (records : List Kept) (kept : Kept)
    → segments_of (marks ++ record mark { count = mark.count + 1 } ∷ []) (records ++ kept ∷ [])
    ≡ add (old_of kept)
    (segment_of mark (take mark.count (olds records)) ∷ cut (reverse marks) (drop mark.count (olds records)))
recorded-newest marks mark records kept =
    segments-recorded marks mark records kept ∙ ap (add (old_of kept)) (segments-newest marks mark records)

segments-taken : (marks : List Mark) (mark : Mark) (records : List Kept) (kept : Kept)
    → segments_of (marks ++ mark ∷ []) records
    ≡ but_newest_record (segments_of (marks ++ record mark { count = mark.count + 1 } ∷ []) (records ++ kept ∷ []))
segments-taken marks mark records kept =
    segments-newest marks mark records ∙ sym (ap but_newest_record (recorded-newest marks mark records kept))

newest-taken : (marks : List Mark) (mark : Mark) (records : List Kept) (kept : Kept)
    → Some (old_of kept)
    ≡ newest_record (segments_of (marks ++ record mark { count = mark.count + 1 } ∷ []) (records ++ kept ∷ []))
newest-taken marks mark records kept = sym (ap newest_record (recorded-newest marks mark records kept))

-- the oldest savepoint dropped
cut-push : (marks : List Mark) (mark : Mark) (parts rest : List OldPart) → counted marks ≡ length parts
    → cut (marks ++ mark ∷ []) (parts ++ rest) ≡ cut marks parts ++ segment_of mark (take mark.count rest) ∷ []
unfolding cut
cut-push [] mark [] rest e = refl
cut-push [] mark (part ∷ parts) rest e = absurd (omega arith)
cut-push (m ∷ marks) mark parts rest e =
    let c = counted-cons m marks in
    let short : m.count ≤ length parts = omega arith in
    let left : counted marks ≡ length (drop m.count parts) = omega (arith, length-drop m.count parts) in
    (λ i. segment_of m (take-append-le m.count parts rest short i) ∷ cut (marks ++ mark ∷ [])
    (drop-append-le m.count parts rest short i))
    ∙ ap (λ ss. segment_of m (take m.count parts) ∷ ss) (cut-push marks mark (drop m.count parts) rest left)

reverse-cons : {X : Type 0} (x : X) (xs : List X) → reverse (x ∷ xs) ≡ reverse xs ++ x ∷ []
reverse-cons x xs = reverse-append (x ∷ []) xs

segments-dropped : (mark : Mark) (marks : List Mark) (records : List Kept) → AreCounted (mark ∷ marks) records
    → segments_of marks (drop mark.count records) ≡ take (length marks) (segments_of (mark ∷ marks) records)
segments-dropped mark marks records all =
    let left = drop mark.count records in
    let gone = take mark.count records in
    let whole : olds records ≡ olds left ++ olds gone = ap olds (sym (take-append-drop mark.count records)) ∙ olds-append gone left in
    let enough : counted (reverse marks)
    ≡ length (olds left) = omega
    (arith, counted-cons mark marks, counted-reverse marks, length-olds left, length-drop mark.count records) in
    let split = (λ i. cut (reverse-cons mark marks i) (whole i)) ∙ cut-push (reverse marks) mark (olds left) (olds gone) enough in
    sym (ap (take (length marks)) split
    ∙ take_at (segments_of marks left) (segment_of mark (take mark.count (olds gone)) ∷ []) (length marks)
    (length-segments marks left))

counted-dropped : (mark : Mark) (marks : List Mark) (records : List Kept) → AreCounted (mark ∷ marks) records
    → AreCounted marks (drop mark.count records)
counted-dropped mark marks records all = omega (arith, counted-cons mark marks, length-drop mark.count records)

-- the same, as the code drops it
pub segments-oldest : (marks : List Mark) (mark : Mark) (records : List Kept) → Some mark ≡ slice_get marks 0 → AreCounted marks records
    → segments_of (drop 1 marks) (drop mark.count records) ≡ take (length marks - 1) (segments_of marks records)
segments-oldest [] mark records is all = cc
segments-oldest (m ∷ marks) mark records is all =
    let e : length marks ≡ length (m ∷ marks) - 1 = omega arith in
    let same : mark ≡ m = cc in
    (λ i. segments_of marks (drop (same i).count records)) ∙ segments-dropped m marks records all
    ∙ λ i. take (e i) (segments_of (m ∷ marks) records)

pub counted-oldest : (marks : List Mark) (mark : Mark) (records : List Kept) → Some mark ≡ slice_get marks 0 → AreCounted marks records
    → AreCounted (drop 1 marks) (drop mark.count records)
counted-oldest [] mark records is all = cc
counted-oldest (m ∷ marks) mark records is all =
    let same : mark ≡ m = cc in subst (λ x. AreCounted marks (drop x.count records)) (sym same) (counted-dropped m marks records all)

pub oldest-fits : (marks : List Mark) (mark : Mark) (records : List Kept) → Some mark ≡ slice_get marks 0 → AreCounted marks records
    → mark.count ≤ length records
oldest-fits [] mark records is all = cc
oldest-fits (m ∷ marks) mark records is all =
    let same : mark ≡ m = cc in
    let e = counted-cons m marks in
    subst (λ x. x.count ≤ length records) (sym same) (omega arith)

-- what a ring keeps of its end
pub kept-last : {X : Type 0} (n : ℕ) (xs : List X) → n ≤ length xs → drop (length xs - (length xs - n)) xs ≡ drop n xs
kept-last n xs h = let e : length xs - (length xs - n) ≡ n = omega arith in λ i. drop (e i) xs

-- how many records are counted by the newest savepoint
counted-push : (marks : List Mark) (mark : Mark) → counted (marks ++ mark ∷ []) ≡ counted marks + mark.count
counted-push marks mark = omega (arith, sum_by-append (λ m. m.count) marks (mark ∷ []))

counted-last : (marks : List Mark) (mark : Mark) → Some mark ≡ last_item marks
    → counted marks ≡ counted (take (length marks - 1) marks) + mark.count
counted-last marks mark is = ap counted (last-is marks mark is) ∙ counted-push (take (length marks - 1) marks) mark

pub last-fits : (marks : List Mark) (mark : Mark) (records : List Kept) → Some mark ≡ last_item marks → AreCounted marks records
    → mark.count ≤ length records
last-fits marks mark records is all = let e = counted-last marks mark is in omega arith

pub some-mark : (marks : List Mark) (mark : Mark) → Some mark ≡ last_item marks → 0 < length marks
some-mark [] mark is = cc
some-mark (m ∷ marks) mark is = omega arith

-- a record more, as the code adds it
pub segments-added : (marks : List Mark) (mark : Mark) (records : List Kept) (kept : Kept) → Some mark ≡ last_item marks
    → segments_of (take (length marks - 1) marks ++ record mark { count = mark.count + 1 } ∷ []) (records ++ kept ∷ [])
    ≡ add (old_of kept) (segments_of marks records)
segments-added marks mark records kept is =
    segments-recorded (take (length marks - 1) marks) mark records kept
    ∙ λ j. add (old_of kept) (segments_of (sym (last-is marks mark is) j) records)

pub counted-added : (marks : List Mark) (mark : Mark) (records : List Kept) (kept : Kept) → Some mark ≡ last_item marks
    → AreCounted marks records
    → AreCounted (take (length marks - 1) marks ++ record mark { count = mark.count + 1 } ∷ []) (records ++ kept ∷ [])
counted-added marks mark records kept is all =
    let e = counted-last marks mark is in
    let f = counted-push (take (length marks - 1) marks) (record mark { count = mark.count + 1 }) in
    let g = length-append records (kept ∷ []) in
    omega arith

-- a record less, as the code takes it
pub record IsTaken (marks : List Mark) (mark : Mark) (records : List Kept) (result : Option Kept) : Type 0 where
  pub is : Some mark ≡ last_item marks
  pub some : 0 < mark.count
  pub all : AreCounted marks records
  pub last : result ≡ last_item records

module _ (marks : List Mark) (mark : Mark) (records : List Kept) (result : Option Kept) (taken : IsTaken marks mark records result) where
  lower : mark ≡ record mark { count = mark.count - 1 + 1 }
  lower = let some = taken.some in let e : mark.count ≡ mark.count - 1 + 1 = omega arith in λ i. record mark { count = e i }

  marks-lower : marks ≡ take (length marks - 1) marks ++ record mark { count = mark.count - 1 + 1 } ∷ []
  marks-lower = last-is marks mark taken.is ∙ ap (λ m. take (length marks - 1) marks ++ m ∷ []) lower

  some-record : 0 < length records
  some-record = let fits = last-fits marks mark records taken.is taken.all in let some = taken.some in omega arith

  the-last : (kept : Kept) × (result ≡ Some kept) × (records ≡ take (length records - 1) records ++ kept ∷ [])
  the-last =
      last-of records result taken.last (λ none. let bare : length records ≡ 0 = none in let some = some-record in omega arith)

  pub newest-gone : option_map old_of result ≡ newest_record (segments_of marks records)
  newest-gone =
      ap (option_map old_of) the-last.1
      ∙ newest-taken (take (length marks - 1) marks) (record mark { count = mark.count - 1 }) (take (length records - 1) records) the-last.0
      ∙ λ j. newest_record (segments_of (sym marks-lower j) (sym the-last.2 j))

  pub segments-gone : segments_of (take (length marks - 1) marks ++ record mark { count = mark.count - 1 } ∷ [])
      (take (length records - 1) records) ≡ but_newest_record (segments_of marks records)
  segments-gone =
      segments-taken (take (length marks - 1) marks) (record mark { count = mark.count - 1 }) (take (length records - 1) records) the-last.0
      ∙ λ j. but_newest_record (segments_of (sym marks-lower j) (sym the-last.2 j))

  pub counted-gone : AreCounted (take (length marks - 1) marks ++ record mark { count = mark.count - 1 } ∷ [])
      (take (length records - 1) records)
  counted-gone =
      let e = counted-last marks mark taken.is in
      let some = taken.some in
      let all = taken.all in
      let f = counted-push (take (length marks - 1) marks) (record mark { count = mark.count - 1 }) in
      let g = length-take-le (length records - 1) records (omega arith) in
      omega arith

-- a newest savepoint without records
pub newest-bare : (marks : List Mark) (mark : Mark) (records : List Kept) → Some mark ≡ last_item marks → mark.count ≡ 0
    → segments_of marks records ≡ segment_of mark [] ∷ segments_of (take (length marks - 1) marks) records
newest-bare marks mark records is none =
    (λ j. segments_of (last-is marks mark is j) records) ∙ segments-marked (take (length marks - 1) marks) mark records none

-- the newest savepoint ended
none-first : (n : ℕ) (parts : List OldPart) → n ≤ length parts → first (take n parts) ≡ None → n ≡ 0
none-first zero parts h e = refl
none-first (suc n) [] h e = absurd (omega arith)
none-first (suc n) (part ∷ parts) h e = cc

pub none-left : (marks : List Mark) (mark : Mark) (records : List Kept) → Some mark ≡ last_item marks → AreCounted marks records
    → newest_record (segments_of marks records) ≡ None → mark.count ≡ 0
none-left marks mark records is all e =
    let fits = last-fits marks mark records is all in
    none-first mark.count (olds records) (omega (arith, length-olds records))
    (sym (ap newest_record (segments-last marks mark records is)) ∙ e)

pub counted-ended : (marks : List Mark) (mark : Mark) (records : List Kept) → Some mark ≡ last_item marks → mark.count ≡ 0
    → AreCounted marks records → AreCounted (take (length marks - 1) marks) records
counted-ended marks mark records is none all = let e = counted-last marks mark is in omega arith
