-- The two rings that a journal keeps, savepoints and records, each the oldest first, and the segments that they are.
use Rattle.std.specs.Prelude.{◌≡◌, ◌<◌, ◌≤◌, ◌^◌, ℕ, Bool, false, nat_lt, List, [], ◌∷◌, length, map, reverse, sum_by, take, drop}
use Rattle.circular_buffer.specs.Buffer.{Buffer}
use Rattle.t3_undo.specs.Objects.{OldPart, Segment}
use Rattle.t3_undo.specs.Journal.{old_of, HaveDistinctCells}
use Rattle.t3_undo.specs.declared.kept.Kept.{Kept}
use Rattle.t3_undo.specs.declared.mark.Mark.{Mark}

-- a savepoint with these records
abbrev pub segment_of : Mark → List OldPart → Segment
segment_of mark parts = record { serial = mark.serial; next = mark.next; records = parts }

-- the segments of savepoints and records that stand the newest first
unfoldable pub cut : List Mark → List OldPart → List Segment
cut [] parts = []
cut (mark ∷ marks) parts = segment_of mark (take mark.count parts) ∷ cut marks (drop mark.count parts)

-- the segments of the two rings' items
abbrev pub segments_of : List Mark → List Kept → List Segment
segments_of marks records = cut (reverse marks) (reverse (map old_of records))

-- an object is older than the newest savepoint
abbrev pub is_older : ℕ → List Segment → Bool
is_older number [] = false
is_older number (segment ∷ segments) = nat_lt number segment.next

-- how many records the savepoints have
abbrev pub counted : List Mark → ℕ
counted marks = sum_by (λ mark. mark.count) marks

-- each record belongs to a savepoint
abbrev pub AreCounted : List Mark → List Kept → Type 0
AreCounted marks records = counted marks ≡ length records

-- the rings keep their limits, for which there is room, and no cell has two records since one savepoint
pub record IsJournal (marks : Buffer Mark) (records : Buffer Kept) (made mark_limit record_limit : ℕ) : Type 0 where
  pub counted : AreCounted marks.items records.items
  pub apart : HaveDistinctCells (segments_of marks.items records.items)
  pub one_mark : 0 < mark_limit
  pub one_record : 0 < record_limit
  pub few_marks : length marks.items ≤ mark_limit
  pub few_records : length records.items ≤ record_limit
  pub marks_fit : mark_limit ≤ marks.capacity
  pub records_fit : record_limit ≤ records.capacity
  pub small_marks : mark_limit < 2 ^ 32
  pub small_records : record_limit < 2 ^ 32
  pub few_made : made ≤ 2 ^ 63
