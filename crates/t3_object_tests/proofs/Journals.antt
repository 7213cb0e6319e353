-- What stays true of a journal's newest savepoint, for tests.
use Rattle.std.proofs.Common.{◌≡◌, refl, List, [], ◌∷◌, drop, None}
use Rattle.t3_undo.specs.Objects.{OldPart, Segment}
use Rattle.t3_undo.specs.Journal.{first, newest_record, but_newest_record}

-- where no record is left, none is left once the newest is taken
pub none-still : (ss : List Segment) → newest_record ss ≡ None → newest_record (but_newest_record ss) ≡ None
none-still [] none = refl
none-still (s ∷ ss) none = by s.records none
  where
    by : (rs : List OldPart) → first rs ≡ None → first (drop 1 rs) ≡ None
    by [] none = refl
    by (r ∷ rs) none = cc
