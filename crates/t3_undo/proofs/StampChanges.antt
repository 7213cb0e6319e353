-- A change that goes by the stamp of the cell's place is noted as one that searches. Other crates may use these.
use Rattle.std.proofs.Common.{◌≡◌, ◌∙◌, refl, ℕ, ◌==◌, Bool, true, false, not, ◌&&◌, nat_lt, if◌then◌else◌, List, [], ◌∷◌, None, Some, eq-eqb}
use Rattle.t3_undo.specs.Objects.{OldPart, Segment, is_noted}
use Rattle.t3_undo.specs.Journal.{room, add, note_in, newest_records, serial_for}
use Rattle.t3_undo.specs.Stamps.{stamp_after, IsStamp}

-- no savepoint is held that is newer than the object: nothing is noted
pub undue-none : (limit : ℕ) (part : OldPart) (ss : List Segment) → serial_for part.number ss ≡ None → note_in limit part ss ≡ ss
undue-none limit part [] e = refl
undue-none limit part (s ∷ ss) e = by (nat_lt part.number s.next) e
  where
    by : (x : Bool) → (if x then Some s.serial else None) ≡ None
        → (if x && not (is_noted part.number part.cell s.records) then add part (room limit (s ∷ ss)) else (s ∷ ss)) ≡ (s ∷ ss)
    by true e = cc
    by false e = refl

-- the place has the newest serial: the cell has a record, and nothing is noted
pub undue-noted : (limit : ℕ) (part : OldPart) (ss : List Segment) (b v : ℕ) → IsStamp b part.number part.cell part.stamp ss
    → serial_for part.number ss ≡ Some v → part.stamp ≡ v → note_in limit part ss ≡ ss
undue-noted limit part [] b v is e same = refl
undue-noted limit part (s ∷ ss) b v is e same = by (nat_lt part.number s.next) e
  where
    by : (x : Bool) → (if x then Some s.serial else None) ≡ Some v
        → (if x && not (is_noted part.number part.cell s.records) then add part (room limit (s ∷ ss)) else (s ∷ ss)) ≡ (s ∷ ss)
    by true e =
        let own : s.serial ≡ v = cc in
        let noted : is_noted part.number part.cell s.records ≡ true = is.1 ∙ (λ i. same i == own i) ∙ eq-eqb v v refl in
        λ i. if true && not (noted i) then add part (room limit (s ∷ ss)) else (s ∷ ss)
    by false e = refl

-- it has another stamp: the newest savepoint has no record of the cell
pub fresh-stamp : (part : OldPart) (ss : List Segment) (b v : ℕ) → IsStamp b part.number part.cell part.stamp ss
    → serial_for part.number ss ≡ Some v → (part.stamp == v) ≡ false → is_noted part.number part.cell (newest_records ss) ≡ false
fresh-stamp part [] b v is e other = refl
fresh-stamp part (s ∷ ss) b v is e other = by (nat_lt part.number s.next) e
  where
    by : (x : Bool) → (if x then Some s.serial else None) ≡ Some v → is_noted part.number part.cell s.records ≡ false
    by true e = let own : s.serial ≡ v = cc in is.1 ∙ (λ i. part.stamp == own i) ∙ other
    by false e = cc

-- the stamp that the change gives
pub stamp_after-some : (n t v : ℕ) (ss : List Segment) → serial_for n ss ≡ Some v → stamp_after n t ss ≡ v
stamp_after-some n t v [] e = cc
stamp_after-some n t v (s ∷ ss) e = by (nat_lt n s.next) e
  where
    by : (x : Bool) → (if x then Some s.serial else None) ≡ Some v → (if x then s.serial else t) ≡ v
    by true e = cc
    by false e = cc

pub stamp_after-none : (n t : ℕ) (ss : List Segment) → serial_for n ss ≡ None → stamp_after n t ss ≡ t
stamp_after-none n t [] e = refl
stamp_after-none n t (s ∷ ss) e = by (nat_lt n s.next) e
  where
    by : (x : Bool) → (if x then Some s.serial else None) ≡ None → (if x then s.serial else t) ≡ t
    by true e = cc
    by false e = refl
