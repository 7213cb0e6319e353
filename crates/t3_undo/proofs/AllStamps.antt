-- The stamps of all places stay right, whatever happens. Other crates may use these.
use Rattle.std.proofs.Common.{◌≡◌, ◌∙◌, sym, subst, refl, ℕ, ◌+◌, Bool, true, false, if◌then◌else◌, List, [], ◌∷◌, take, drop, Option, None, Some, IsSome, is_some, true≢false, arith}
use Rattle.std.specs.Option.{option_map}
use Rattle.t3_undo.specs.Objects.{OldPart, Segment, is_of, is_noted, AreApart}
use Rattle.t3_undo.specs.Journal.{note_in, first, newest_record, but_newest_record, HaveDistinctCells}
use Rattle.t3_undo.specs.Stamps.{Stamps, with_stamp, stamp_before, stamps_before, stamp_after, IsStamp, AreStamped, IsUnnoted, IsStampLaw}
use Rattle.t3_undo.specs.declared.cell.Cell.{Cell}
use Rattle.t3_undo.proofs.PuttingBack.{is_of-is}
use Rattle.t3_undo.proofs.Stamping.{stamp-below, stamp-take, stamp-marked, stamp-undone, stamp-changed, stamp-beside, stamp-taken, stamp-new, stamp-newest, stamp-noted, stamp-below-oldest, serials-take, serials-marked, serials-undone, serials-noted}

-- fewer places: objects are taken away, or places
pub stamped-fewer : (made : ℕ) (old new : Stamps) (ss : List Segment)
    → ((q : ℕ) (d : Cell) (t : ℕ) → new q d ≡ Some t → old q d ≡ Some t) → AreStamped made old ss → AreStamped made new ss
stamped-fewer made old new ss fewer is = record { serials = is.serials; each = λ q d t there. is.each q d t (fewer q d t there) }

-- more places: an object is made, or a place; each new stamp is 0, of a cell that no savepoint has a record of
pub stamped-more : (made : ℕ) (old new : Stamps) (ss : List Segment)
    → ((q : ℕ) (d : Cell) (t : ℕ) → new q d ≡ Some t → old q d ≡ None → (t ≡ 0) × IsUnnoted q d ss)
    → ((q : ℕ) (d : Cell) (t u : ℕ) → new q d ≡ Some t → old q d ≡ Some u → u ≡ t)
    → AreStamped made old ss → AreStamped made new ss
stamped-more made old new ss fresh same is = record { serials = is.serials; each = λ q d t there. by q d t there (old q d) refl }
  where
    by : (q : ℕ) (d : Cell) (t : ℕ) → new q d ≡ Some t → (o : Option ℕ) → old q d ≡ o → IsStamp (made + 1) q d t ss
    by q d t there None e =
        let f = fresh q d t there e in
        subst (λ u. IsStamp (made + 1) q d u ss) (sym f.0) (stamp-new ss (made + 1) q d is.serials f.1)
    by q d t there (Some u) e = subst (λ v. IsStamp (made + 1) q d v ss) (same q d t u there e) (is.each q d u e)

-- a savepoint is made
pub stamped-marked : (made k next : ℕ) (m : Stamps) (ss : List Segment) → AreStamped made m ss
    → AreStamped (made + 1) m (record { serial = made + 1; next = next; records = [] } ∷ take k ss)
stamped-marked made k next m ss is = record {
  serials = serials-marked ss k made next is.serials;
  each = λ q d t there. stamp-marked ss k made next q d t is.serials (is.each q d t there);
}

-- the oldest savepoints are dropped
pub stamped-dropped : (made k : ℕ) (m : Stamps) (ss : List Segment) → AreStamped made m ss → AreStamped made m (take k ss)
stamped-dropped made k m ss is = record {
  serials = serials-take k ss (made + 1) is.serials;
  each = λ q d t there. stamp-take k ss (made + 1) q d t is.serials (is.each q d t there);
}

-- all savepoints end, and other objects come, whose stamps are 0
pub stamped-replaced : (made : ℕ) (new : Stamps) → ((q : ℕ) (d : Cell) (t : ℕ) → new q d ≡ Some t → t ≡ 0) → AreStamped made new []
stamped-replaced made new zeros = record { serials = omega arith; each = λ q d t there. let z = zeros q d t there in omega arith }

-- a cell is changed
pub stamped-changed : (made limit : ℕ) (m : Stamps) (ss : List Segment) (part : OldPart) → m part.number part.cell ≡ Some part.stamp
    → AreStamped made m ss
    → AreStamped made (with_stamp part.number part.cell (stamp_after part.number part.stamp ss) m) (note_in limit part ss)
stamped-changed made limit m ss part stood is = record {
  serials = serials-noted limit part ss (made + 1) is.serials;
  each = λ q d t there. by q d t (is_of q d part) refl there;
}
  where
    by : (q : ℕ) (d : Cell) (t : ℕ) (b : Bool) → is_of q d part ≡ b
        → (if b then Some (stamp_after part.number part.stamp ss) else m q d) ≡ Some t → IsStamp (made + 1) q d t (note_in limit part ss)
    by q d t true e there =
        let to = is_of-is q d part e in
        let new : stamp_after part.number part.stamp ss ≡ t = cc in
        let changed = stamp-changed limit part ss (made + 1) is.serials (is.each part.number part.cell part.stamp stood) in
        subst (λ (x : ℕ × (Cell × ℕ)). IsStamp (made + 1) x.0 x.1.0 x.1.1 (note_in limit part ss))
        (λ i. (sym to.0 i, (sym to.1 i, new i))) changed
    by q d t false e there = stamp-beside limit part ss (made + 1) q d t is.serials e (is.each q d t there)

-- an undo puts the newest savepoint's records back
pub stamped-undone : (made : ℕ) (m : Stamps) (s : Segment) (ss : List Segment) → AreStamped made m (s ∷ ss)
    → AreStamped made (stamps_before m s.records) ss
stamped-undone made m s ss is = record {
  serials = serials-undone s ss (made + 1) is.serials;
  each = λ q d t there. by q d t (m q d) refl there;
}
  where
    by : (q : ℕ) (d : Cell) (t : ℕ) (o : Option ℕ) → m q d ≡ o → option_map (λ u. stamp_before q d u s.records) o ≡ Some t
        → IsStamp (made + 1) q d t ss
    by q d t None e there = absurd cc
    by q d t (Some u) e there =
        let new : stamp_before q d u s.records ≡ t = cc in
        subst (λ v. IsStamp (made + 1) q d v ss) new (stamp-undone s ss (made + 1) q d u is.serials (is.each q d u e))

-- or one by one: the newest record, of a cell that has a place
the-stamp : (o : Option ℕ) → is_some o ≡ true → (t : ℕ) × (o ≡ Some t)
the-stamp None e = absurd (true≢false (sym e))
the-stamp (Some t) e = (t, refl)

record-taken : (made : ℕ) (m : Stamps) (s : Segment) (ss : List Segment) (r : OldPart) (rest : List OldPart)
    → is_noted r.number r.cell rest ≡ false → IsSome (m r.number r.cell) → AreStamped made m (record s { records = r ∷ rest } ∷ ss)
    → AreStamped made (with_stamp r.number r.cell r.stamp m) (record s { records = rest } ∷ ss)
record-taken made m s ss r rest apart placed is = record {
  serials = is.serials;
  each = λ q d t there. by q d t (is_of q d r) refl there;
}
  where
    by : (q : ℕ) (d : Cell) (t : ℕ) (b : Bool) → is_of q d r ≡ b → (if b then Some r.stamp else m q d) ≡ Some t
        → IsStamp (made + 1) q d t (record s { records = rest } ∷ ss)
    by q d t true e there =
        let to = is_of-is q d r e in
        let stood = the-stamp (m q d) ((λ i. is_some (m (to.0 i) (to.1 i))) ∙ placed) in
        let new : r.stamp ≡ t = cc in
        subst (λ u. IsStamp (made + 1) q d u (record s { records = rest } ∷ ss)) ((λ i. if e i then r.stamp else stood.0) ∙ new)
        (stamp-taken s ss r rest (made + 1) q d stood.0 is.serials apart (is.each q d stood.0 stood.1))
    by q d t false e there =
        subst (λ u. IsStamp (made + 1) q d u (record s { records = rest } ∷ ss)) (λ i. if e i then r.stamp else t)
        (stamp-taken s ss r rest (made + 1) q d t is.serials apart (is.each q d t there))

pub stamped-taken : (made : ℕ) (m : Stamps) (ss : List Segment) (r : OldPart) → newest_record ss ≡ Some r → HaveDistinctCells ss
    → IsSome (m r.number r.cell) → AreStamped made m ss
    → AreStamped made (with_stamp r.number r.cell r.stamp m) (but_newest_record ss)
stamped-taken made m [] r newest distinct placed is = absurd cc
stamped-taken made m (s ∷ ss) r newest distinct placed is = by s.records newest distinct.0 is
  where
    by : (rs : List OldPart) → first rs ≡ Some r → AreApart rs → AreStamped made m (record s { records = rs } ∷ ss)
        → AreStamped made (with_stamp r.number r.cell r.stamp m) (record s { records = drop 1 rs } ∷ ss)
    by [] newest apart is = absurd cc
    by (p ∷ rest) newest apart is =
        let same : p ≡ r = cc in
        record-taken made m s ss r rest (subst (λ (x : OldPart). is_noted x.number x.cell rest ≡ false) same apart.0) placed
        (subst (λ (x : OldPart). AreStamped made m (record s { records = x ∷ rest } ∷ ss)) same is)

-- and the savepoint without records ends
pub stamped-ended : (made : ℕ) (m : Stamps) (ss : List Segment) → newest_record ss ≡ None → AreStamped made m ss
    → AreStamped made m (drop 1 ss)
stamped-ended made m [] none is = is
stamped-ended made m (s ∷ ss) none is = by s.records none is
  where
    by : (rs : List OldPart) → first rs ≡ None → AreStamped made m (record s { records = rs } ∷ ss) → AreStamped made m ss
    by [] none is = record {
      serials = serials-undone (record s { records = [] }) ss (made + 1) is.serials;
      each = λ q d t there. stamp-undone (record s { records = [] }) ss (made + 1) q d t is.serials (is.each q d t there);
    }
    by (p ∷ rest) none is = absurd cc

-- what right stamps tell
pub stamp_law : IsStampLaw
stamp_law made stamps segments are number cell stamp there =
    let is = are.each number cell stamp there in
    let below = stamp-below segments (made + 1) number cell stamp are.serials is in
    record {
      newest = stamp-newest segments (made + 1) number cell stamp is;
      noted = λ serial. stamp-noted segments (made + 1) number cell stamp serial is;
      unnoted = stamp-below-oldest segments (made + 1) number cell stamp is;
      within = omega arith;
    }
