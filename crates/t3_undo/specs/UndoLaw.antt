-- Savepoints as whole copies of all objects, and as records of what was changed first: that both are the same.
use Rattle.std.specs.Prelude.{◌≡◌, ◌≤◌, ℕ, ◌+◌, List, [], ◌∷◌, Option, None, IsPermutation, if◌then◌else◌, fold, take, drop}
use Rattle.std.specs.FinMap.{get, insert}
use Rattle.t3_undo.specs.Content.{Parts}
use Rattle.t3_undo.specs.Present.{Present}
use Rattle.t3_undo.specs.Objects.{Objects, OldPart, Segment, set_cell, part_at, before, copies}
use Rattle.t3_undo.specs.Journal.{is_due, add}
use Rattle.t3_undo.specs.declared.cell.Cell.{Cell}

-- what can happen: a cell of an object is set or taken away, an object with the next number is made, a savepoint
-- is made, all savepoints but so many of the newest are given up, the newest savepoint is gone back to
pub data Event (S : Type 0) : Type 0 where
  Sets : (number : ℕ) (cell : Cell) (content : Option Present) → Event S
  Makes : (shape : S) (parts : Parts) → Event S
  Saves : Event S
  Drops : (kept : ℕ) → Event S
  Undoes : Event S

-- objects, the next number, and a whole copy of the objects for each savepoint, the newest first
pub record Copied (S : Type 0) : Type 0 where
  pub objects : Objects S
  pub next : ℕ
  pub copies : List (Objects S)

-- the newest copy, or else the objects as they are
abbrev pub newest_copy : {S : Type 0} → Objects S → List (Objects S) → Objects S
newest_copy objects [] = objects
newest_copy objects (copy ∷ copies) = copy

-- what happens where savepoints are whole copies
abbrev pub copied_after : {S : Type 0} → Copied S → Event S → Copied S
copied_after s (Sets number cell content) = record s { objects = set_cell s.objects number cell content }
copied_after s (Makes shape parts) = record s { objects = insert s.objects s.next (shape, parts); next = s.next + 1 }
copied_after s Saves = record s { copies = s.objects ∷ s.copies }
copied_after s (Drops kept) = record s { copies = take kept s.copies }
copied_after s Undoes = record s { objects = newest_copy s.objects s.copies; copies = drop 1 s.copies }

-- objects, the next number, and for each savepoint what was changed first since, the newest first
pub record Noted (S : Type 0) : Type 0 where
  pub objects : Objects S
  pub next : ℕ
  pub segments : List Segment

-- a cell's first change since the newest savepoint is noted, of objects older than it
abbrev pub noted : OldPart → List Segment → List Segment
noted part segments = if is_due part.number part.cell segments then add part segments else segments

-- the objects as they were at the newest savepoint, or else as they are
abbrev pub undone : {S : Type 0} → Objects S → List Segment → Objects S
undone objects [] = objects
undone objects (segment ∷ segments) = before objects segment

-- what happens where only first changes are kept; serials and stamps play no part here, and are 0
abbrev pub noted_after : {S : Type 0} → Noted S → Event S → Noted S
noted_after s (Sets number cell content) = record s {
  objects = set_cell s.objects number cell content;
  segments = noted (record { number = number; cell = cell; old = part_at s.objects number cell; stamp = 0 }) s.segments;
}
noted_after s (Makes shape parts) = record s { objects = insert s.objects s.next (shape, parts); next = s.next + 1 }
noted_after s Saves = record s { segments = record { serial = 0; next = s.next; records = [] } ∷ s.segments }
noted_after s (Drops kept) = record s { segments = take kept s.segments }
noted_after s Undoes = record s { objects = undone s.objects s.segments; segments = drop 1 s.segments }

-- the same segments, each with its records in any order
abbrev pub AreReordered : List Segment → List Segment → Type 0
AreReordered [] [] = Unit {0}
AreReordered [] (other ∷ others) = ⊥
AreReordered (segment ∷ segments) [] = ⊥
AreReordered (segment ∷ segments) (other ∷ others) =
    (segment.next ≡ other.next) × IsPermutation segment.records other.records × AreReordered segments others

-- no object has the next number or a greater one
abbrev pub AreBelow : {S : Type 0} → ℕ → Objects S → Type 0
AreBelow next objects = (number : ℕ) → next ≤ number → get objects number ≡ None

-- whatever happens, the objects stay the same on both sides; and putting the old contents back, in any order,
-- and taking away what was made since gives each savepoint's copy, the older ones from the newer
abbrev pub IsUndoLaw : Type 0 → Type 0
IsUndoLaw S =
    (objects : Objects S) (next : ℕ) (events : List (Event S)) → AreBelow next objects
    → let whole : Copied S = fold copied_after (record { objects = objects; next = next; copies = [] }) events in
    let kept : Noted S = fold noted_after (record { objects = objects; next = next; segments = [] }) events in
    (kept.objects ≡ whole.objects)
    × ((segments : List Segment) → AreReordered kept.segments segments → copies kept.objects segments ≡ whole.copies)
