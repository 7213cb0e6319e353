-- What a journal holds, the newest first: segments and their records, and how each call moves them.
use Rattle.std.specs.Prelude.{ℕ, ◌+◌, ◌-◌, Bool, true, false, ◌&&◌, not, nat_lt, if◌then◌else◌, List, [], ◌∷◌, Option, None, Some, length, drop, refl}
use Rattle.std.specs.List.{AllByRecursion}
use Rattle.std.specs.Coded.{Coded, code_by, coded×, coded_ℕ, coded_list, coded_option}
use Rattle.t3_undo.specs.Cell.{coded_cell}
use Rattle.t3_undo.specs.Content.{shown, coded_present}
use Rattle.t3_undo.specs.Present.{Present}
use Rattle.t3_undo.specs.Objects.{OldPart, Segment, is_noted, AreApart}
use Rattle.t3_undo.specs.declared.cell.Cell.{Cell}
use Rattle.t3_undo.specs.declared.kept.Kept.{Kept}

-- what a record says
abbrev pub old_of : Kept → OldPart
old_of kept = record { number = kept.number; cell = kept.cell; old = shown kept.old; stamp = kept.stamp }

-- how many records segments have together
abbrev pub total : List Segment → ℕ
total [] = 0
total (segment ∷ segments) = length segment.records + total segments

-- so many of the newest segments as have fewer records together than the limit
abbrev pub room : ℕ → List Segment → List Segment
room limit [] = []
room limit (segment ∷ segments) =
    if nat_lt (length segment.records) limit then segment ∷ room (limit - length segment.records) segments else []

-- a record is due: the object is older than the newest savepoint, which has no record of the cell
abbrev pub is_due : ℕ → Cell → List Segment → Bool
is_due number cell [] = false
is_due number cell (segment ∷ segments) = nat_lt number segment.next && not (is_noted number cell segment.records)

-- a record more in the newest segment, if there is one
abbrev pub add : OldPart → List Segment → List Segment
add part [] = []
add part (segment ∷ segments) = record segment { records = part ∷ segment.records } ∷ segments

-- a record where one is due, after the oldest segments have made room for it
abbrev pub note_in : ℕ → OldPart → List Segment → List Segment
note_in limit part segments = if is_due part.number part.cell segments then add part (room limit segments) else segments

-- a savepoint is held
abbrev pub is_held : List Segment → Bool
is_held [] = false
is_held (segment ∷ segments) = true

-- such a record is added: it is due, and a savepoint is still held once there is room for it
abbrev pub is_added : ℕ → OldPart → List Segment → Bool
is_added limit part segments = is_due part.number part.cell segments && is_held (room limit segments)

-- the records of the newest savepoint
abbrev pub newest_records : List Segment → List OldPart
newest_records [] = []
newest_records (segment ∷ segments) = segment.records

-- the serial of the newest savepoint
abbrev pub newest_serial : List Segment → Option ℕ
newest_serial [] = None
newest_serial (segment ∷ segments) = Some segment.serial

-- the serial of the oldest savepoint, or this number where none is held
abbrev pub oldest_serial_or : ℕ → List Segment → ℕ
oldest_serial_or none [] = none
oldest_serial_or none (segment ∷ segments) = oldest_serial_or segment.serial segments

-- the serial of the oldest savepoint
abbrev pub oldest_serial : List Segment → Option ℕ
oldest_serial [] = None
oldest_serial (segment ∷ segments) = Some (oldest_serial_or segment.serial segments)

-- the serial of the newest savepoint, if the object is older than it
abbrev pub serial_for : ℕ → List Segment → Option ℕ
serial_for number [] = None
serial_for number (segment ∷ segments) = if nat_lt number segment.next then Some segment.serial else None

-- the number that was next at the newest savepoint
abbrev pub newest_next : List Segment → Option ℕ
newest_next [] = None
newest_next (segment ∷ segments) = Some segment.next

abbrev pub first : List OldPart → Option OldPart
first [] = None
first (part ∷ parts) = Some part

-- the newest record of the newest savepoint
abbrev pub newest_record : List Segment → Option OldPart
newest_record [] = None
newest_record (segment ∷ segments) = first segment.records

-- all but that record
abbrev pub but_newest_record : List Segment → List Segment
but_newest_record [] = []
but_newest_record (segment ∷ segments) = record segment { records = drop 1 segment.records } ∷ segments

-- in no segment has a cell two records
abbrev pub HaveDistinctCells : List Segment → Type 0
HaveDistinctCells segments = AllByRecursion (λ segment. AreApart segment.records) segments

-- what a journal holds, the newest segment first; how many savepoints were ever made; and its limits
pub record Held : Type 0 where
  pub segments : List Segment
  pub marks : ℕ
  pub record_limit : ℕ
  pub mark_limit : ℕ

abbrev coded_old : Coded OldPart
coded_old =
    code_by (ℕ × (Cell × (Option Present × ℕ))) (coded× coded_ℕ (coded× coded_cell (coded× (coded_option coded_present) coded_ℕ)))
    (λ p. (p.number, (p.cell, (p.old, p.stamp))))
    (λ t. record { number = t.0; cell = t.1.0; old = t.1.1.0; stamp = t.1.1.1 }) (λ _. refl)

abbrev coded_segment : Coded Segment
coded_segment =
    code_by (ℕ × (ℕ × List OldPart)) (coded× coded_ℕ (coded× coded_ℕ (coded_list coded_old))) (λ s. (s.serial, (s.next, s.records)))
    (λ t. record { serial = t.0; next = t.1.0; records = t.1.1 }) (λ _. refl)

abbrev pub coded_held : Coded Held
coded_held =
    code_by (List Segment × (ℕ × (ℕ × ℕ))) (coded× (coded_list coded_segment) (coded× coded_ℕ (coded× coded_ℕ coded_ℕ)))
    (λ h. (h.segments, (h.marks, (h.record_limit, h.mark_limit))))
    (λ t. record { segments = t.0; marks = t.1.0; record_limit = t.1.1.0; mark_limit = t.1.1.1 }) (λ _. refl)
