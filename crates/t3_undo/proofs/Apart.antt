-- No cell has two records since one savepoint, whatever a journal does.
use Rattle.std.proofs.Common.{◌≡◌, sym, refl, ℕ, ◌-◌, zero, suc, Bool, true, false, not, ◌&&◌, nat_lt, if◌then◌else◌, List, [], ◌∷◌, length, take, drop, true≢false}
use Rattle.t3_undo.specs.Objects.{OldPart, Segment, is_noted, AreApart}
use Rattle.t3_undo.specs.Journal.{room, add, note_in, but_newest_record, HaveDistinctCells}

pub apart-take : (n : ℕ) (ss : List Segment) → HaveDistinctCells ss → HaveDistinctCells (take n ss)
apart-take zero ss all = tt
apart-take (suc n) [] all = all
apart-take (suc n) (s ∷ ss) all = (all.0, apart-take n ss all.1)

pub apart-drop : (ss : List Segment) → HaveDistinctCells ss → HaveDistinctCells (drop 1 ss)
apart-drop [] all = all
apart-drop (s ∷ ss) all = all.1

apart-if : (b : Bool) (s : Segment) (ss : List Segment) → AreApart s.records → HaveDistinctCells ss
    → HaveDistinctCells (if b then s ∷ ss else [])
apart-if true s ss one all = (one, all)
apart-if false s ss one all = tt

apart-room : (limit : ℕ) (ss : List Segment) → HaveDistinctCells ss → HaveDistinctCells (room limit ss)
apart-room limit [] all = all
apart-room limit (s ∷ ss) all = apart-if (nat_lt (length s.records) limit) s (room (limit - length s.records) ss) all.0
    (apart-room (limit - length s.records) ss all.1)

new : (a b : Bool) → (a && not b) ≡ true → b ≡ false
new true true e = sym e
new true false e = refl
new false b e = absurd (true≢false (sym e))

pub apart-note_in : (limit : ℕ) (part : OldPart) (ss : List Segment) → HaveDistinctCells ss → HaveDistinctCells (note_in limit part ss)
apart-note_in limit part [] all = all
apart-note_in limit part (s ∷ ss) all = by (nat_lt part.number s.next && not (is_noted part.number part.cell s.records)) refl
  where
    added : (b : Bool) → is_noted part.number part.cell s.records ≡ false
        → HaveDistinctCells (add part (if b then s ∷ room (limit - length s.records) ss else []))
    added true fresh = ((fresh, all.0), apart-room (limit - length s.records) ss all.1)
    added false fresh = tt

    by : (b : Bool) → (nat_lt part.number s.next && not (is_noted part.number part.cell s.records)) ≡ b
        → HaveDistinctCells (if b then add part (room limit (s ∷ ss)) else (s ∷ ss))
    by true t = added (nat_lt (length s.records) limit) (new (nat_lt part.number s.next) (is_noted part.number part.cell s.records) t)
    by false t = all

apart-tail : (parts : List OldPart) → AreApart parts → AreApart (drop 1 parts)
apart-tail [] all = all
apart-tail (part ∷ parts) all = all.1

pub apart-but_newest : (ss : List Segment) → HaveDistinctCells ss → HaveDistinctCells (but_newest_record ss)
apart-but_newest [] all = all
apart-but_newest (s ∷ ss) all = (apart-tail s.records all.0, all.1)
