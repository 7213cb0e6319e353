-- The stamp of one cell's place stays right, whatever happens. Other crates may use these.
use Rattle.std.proofs.Common.{◌≡◌, ◌∙◌, ap, sym, subst, refl, ℕ, ◌+◌, ◌-◌, ◌<◌, ◌≤◌, ◌==◌, zero, suc, Bool, true, false, not, ◌&&◌, ◌||◌, ◌↔◌, nat_lt, if◌then◌else◌, List, [], ◌∷◌, length, take, None, Some, IsTrue, true≢false, eq-eqb, eqb-true, ne_eqb, arith}
use Rattle.t3_undo.specs.Objects.{OldPart, Segment, is_of, is_noted}
use Rattle.t3_undo.specs.Journal.{room, add, note_in, newest_serial, oldest_serial_or, newest_records}
use Rattle.t3_undo.specs.Stamps.{stamp_before, stamp_after, HaveSerialsBelow, IsStamp, IsUnnoted, noted_serial}
use Rattle.t3_undo.specs.declared.cell.Cell.{Cell}
use Rattle.t3_undo.proofs.PuttingBack.{is_of-is, is_of-itself}

differs : (a b : ℕ) → a < b → (a == b) ≡ false
differs a b less = ne_eqb a b (λ same. let e : a ≡ b = same in omega arith)

-- a stamp is below the bound that the serials are below
pub stamp-below : (ss : List Segment) (b n : ℕ) (c : Cell) (t : ℕ) → HaveSerialsBelow b ss → IsStamp b n c t ss → t < b
stamp-below [] b n c t serials is = is
stamp-below (s ∷ ss) b n c t serials is = let less = serials.0 in let within = is.0 in omega arith

-- a greater bound
serials-more : (ss : List Segment) (b d : ℕ) → b ≤ d → HaveSerialsBelow b ss → HaveSerialsBelow d ss
serials-more [] b d more serials = omega arith
serials-more (s ∷ ss) b d more serials = (let less = serials.0 in omega arith, serials.1)

stamp-more : (ss : List Segment) (b d n : ℕ) (c : Cell) (t : ℕ) → b ≤ d → IsStamp b n c t ss → IsStamp d n c t ss
stamp-more [] b d n c t more is = omega arith
stamp-more (s ∷ ss) b d n c t more is = is

-- the oldest savepoints are dropped
pub serials-take : (k : ℕ) (ss : List Segment) (b : ℕ) → HaveSerialsBelow b ss → HaveSerialsBelow b (take k ss)
serials-take zero [] b serials = serials
serials-take (suc k) [] b serials = serials
serials-take zero (s ∷ ss) b serials = let less = serials.0 in omega arith
serials-take (suc k) (s ∷ ss) b serials = (serials.0, serials-take k ss s.serial serials.1)

pub stamp-take : (k : ℕ) (ss : List Segment) (b n : ℕ) (c : Cell) (t : ℕ) → HaveSerialsBelow b ss → IsStamp b n c t ss
    → IsStamp b n c t (take k ss)
stamp-take zero [] b n c t serials is = is
stamp-take (suc k) [] b n c t serials is = is
stamp-take zero (s ∷ ss) b n c t serials is = stamp-below (s ∷ ss) b n c t serials is
stamp-take (suc k) (s ∷ ss) b n c t serials is =
    (is.0, is.1, stamp-take k ss s.serial n c (stamp_before n c t s.records) serials.1 is.2)

-- they make room for a record
serials-if : (x : Bool) (s : Segment) (some : List Segment) (b : ℕ) → s.serial < b → HaveSerialsBelow s.serial some
    → HaveSerialsBelow b (if x then s ∷ some else [])
serials-if true s some b less serials = (less, serials)
serials-if false s some b less serials = omega arith

serials-room : (limit : ℕ) (ss : List Segment) (b : ℕ) → HaveSerialsBelow b ss → HaveSerialsBelow b (room limit ss)
serials-room limit [] b serials = serials
serials-room limit (s ∷ ss) b serials =
    serials-if (nat_lt (length s.records) limit) s (room (limit - length s.records) ss) b serials.0
    (serials-room (limit - length s.records) ss s.serial serials.1)

stamp-room : (limit : ℕ) (ss : List Segment) (b n : ℕ) (c : Cell) (t : ℕ) → HaveSerialsBelow b ss → IsStamp b n c t ss
    → IsStamp b n c t (room limit ss)
stamp-room limit [] b n c t serials is = is
stamp-room limit (s ∷ ss) b n c t serials is =
    by (stamp-room (limit - length s.records) ss s.serial n c (stamp_before n c t s.records) serials.1 is.2)
    (nat_lt (length s.records) limit)
  where
    by : IsStamp s.serial n c (stamp_before n c t s.records) (room (limit - length s.records) ss)
        → (x : Bool) → IsStamp b n c t (if x then s ∷ room (limit - length s.records) ss else [])
    by rest true = (is.0, is.1, rest)
    by rest false = stamp-below (s ∷ ss) b n c t serials is

-- a savepoint is made
pub serials-marked : (ss : List Segment) (k made next : ℕ) → HaveSerialsBelow (made + 1) ss
    → HaveSerialsBelow (made + 1 + 1) (record { serial = made + 1; next = next; records = [] } ∷ take k ss)
serials-marked ss k made next serials = (omega arith, serials-take k ss (made + 1) serials)

pub stamp-marked : (ss : List Segment) (k made next n : ℕ) (c : Cell) (t : ℕ) → HaveSerialsBelow (made + 1) ss → IsStamp (made + 1) n c t ss
    → IsStamp (made + 1 + 1) n c t (record { serial = made + 1; next = next; records = [] } ∷ take k ss)
stamp-marked ss k made next n c t serials is =
    let below = stamp-below ss (made + 1) n c t serials is in
    (omega arith, sym (differs t (made + 1) below), stamp-take k ss (made + 1) n c t serials is)

-- an undo: contents and stamps are put back, and the savepoint is gone
pub serials-undone : (s : Segment) (ss : List Segment) (b : ℕ) → HaveSerialsBelow b (s ∷ ss) → HaveSerialsBelow b ss
serials-undone s ss b serials = serials-more ss s.serial b (let less = serials.0 in omega arith) serials.1

pub stamp-undone : (s : Segment) (ss : List Segment) (b n : ℕ) (c : Cell) (t : ℕ) → HaveSerialsBelow b (s ∷ ss) → IsStamp b n c t (s ∷ ss)
    → IsStamp b n c (stamp_before n c t s.records) ss
stamp-undone s ss b n c t serials is =
    stamp-more ss s.serial b n c (stamp_before n c t s.records) (let less = serials.0 in omega arith) is.2

-- a record more: of the cell itself, whose place has the serial now
stamp-added-own : (s : Segment) (ss : List Segment) (b n : ℕ) (c : Cell) (t : ℕ) (part : OldPart) → is_of n c part ≡ true → part.stamp ≡ t
    → IsStamp b n c t (s ∷ ss) → IsStamp b n c s.serial (add part (s ∷ ss))
stamp-added-own s ss b n c t part own kept is = (
  omega arith,
  ap (λ x. x || is_noted n c s.records) own ∙ sym (eq-eqb s.serial s.serial refl),
  subst (λ u. IsStamp s.serial n c (stamp_before n c u s.records) ss)
      (sym ((λ i. if own i then part.stamp else s.serial) ∙ kept)) is.2,
)

-- of another cell, whose place keeps its stamp
stamp-added-other : (s : Segment) (ss : List Segment) (b n : ℕ) (c : Cell) (t : ℕ) (part : OldPart) → is_of n c part ≡ false
    → IsStamp b n c t (s ∷ ss) → IsStamp b n c t (add part (s ∷ ss))
stamp-added-other s ss b n c t part other is = (
  is.0,
  ap (λ x. x || is_noted n c s.records) other ∙ is.1,
  subst (λ u. IsStamp s.serial n c (stamp_before n c u s.records) ss) (sym (λ i. if other i then part.stamp else t)) is.2,
)

serials-added : (part : OldPart) (ss : List Segment) (b : ℕ) → HaveSerialsBelow b ss → HaveSerialsBelow b (add part ss)
serials-added part [] b serials = serials
serials-added part (s ∷ ss) b serials = serials

pub serials-noted : (limit : ℕ) (part : OldPart) (ss : List Segment) (b : ℕ) → HaveSerialsBelow b ss
    → HaveSerialsBelow b (note_in limit part ss)
serials-noted limit part [] b serials = serials
serials-noted limit part (s ∷ ss) b serials = by (nat_lt part.number s.next && not (is_noted part.number part.cell s.records))
  where
    by : (x : Bool) → HaveSerialsBelow b (if x then add part (room limit (s ∷ ss)) else (s ∷ ss))
    by true = serials-added part (room limit (s ∷ ss)) b (serials-room limit (s ∷ ss) b serials)
    by false = serials

-- a change, whether it is noted or not, and whether a savepoint is left after it or not
pub stamp-changed : (limit : ℕ) (part : OldPart) (ss : List Segment) (b : ℕ) → HaveSerialsBelow b ss
    → IsStamp b part.number part.cell part.stamp ss
    → IsStamp b part.number part.cell (stamp_after part.number part.stamp ss) (note_in limit part ss)
stamp-changed limit part [] b serials is = is
stamp-changed limit part (s ∷ ss) b serials is =
    subst (λ x. IsStamp b part.number part.cell (stamp_after part.number part.stamp (s ∷ ss))
    (if nat_lt part.number s.next && not x then add part (room limit (s ∷ ss)) else (s ∷ ss)))
    (sym is.1) (by (nat_lt part.number s.next) (part.stamp == s.serial) refl)
  where
    added : (y : Bool)
        → IsStamp b part.number part.cell part.stamp (if y then s ∷ room (limit - length s.records) ss else [])
        → IsStamp b part.number part.cell s.serial (add part (if y then s ∷ room (limit - length s.records) ss else []))
    added true roomy =
        stamp-added-own s (room (limit - length s.records) ss) b part.number part.cell part.stamp part (is_of-itself part) refl roomy
    added false roomy = let less = serials.0 in omega arith

    by : (x y : Bool) → (part.stamp == s.serial) ≡ y
        → IsStamp b part.number part.cell (if x then s.serial else part.stamp)
        (if x && not y then add part (room limit (s ∷ ss)) else (s ∷ ss))
    by true false e =
        added (nat_lt (length s.records) limit) (stamp-room limit (s ∷ ss) b part.number part.cell part.stamp serials is)
    by true true e = subst (λ t. IsStamp b part.number part.cell t (s ∷ ss)) (eqb-true part.stamp s.serial e) is
    by false y e = is

-- the stamps of other places at that change
pub stamp-beside : (limit : ℕ) (part : OldPart) (ss : List Segment) (b n : ℕ) (c : Cell) (t : ℕ) → HaveSerialsBelow b ss
    → is_of n c part ≡ false → IsStamp b n c t ss → IsStamp b n c t (note_in limit part ss)
stamp-beside limit part [] b n c t serials other is = is
stamp-beside limit part (s ∷ ss) b n c t serials other is = by (nat_lt part.number s.next && not (is_noted part.number part.cell s.records))
  where
    added : (y : Bool) → IsStamp b n c t (if y then s ∷ room (limit - length s.records) ss else [])
        → IsStamp b n c t (add part (if y then s ∷ room (limit - length s.records) ss else []))
    added true roomy = stamp-added-other s (room (limit - length s.records) ss) b n c t part other roomy
    added false roomy = roomy

    by : (x : Bool) → IsStamp b n c t (if x then add part (room limit (s ∷ ss)) else (s ∷ ss))
    by true = added (nat_lt (length s.records) limit) (stamp-room limit (s ∷ ss) b n c t serials is)
    by false = is

-- no record of the cell puts back a stamp
first-false : (a b : Bool) → (a || b) ≡ false → a ≡ false
first-false true b e = e
first-false false b e = refl

second-false : (a b : Bool) → (a || b) ≡ false → b ≡ false
second-false true b e = absurd (true≢false e)
second-false false b e = e

stamp-unnoted : (parts : List OldPart) (n : ℕ) (c : Cell) (t : ℕ) → is_noted n c parts ≡ false → stamp_before n c t parts ≡ t
stamp-unnoted [] n c t none = refl
stamp-unnoted (p ∷ parts) n c t none =
    (λ i. stamp_before n c (if first-false (is_of n c p) (is_noted n c parts) none i then p.stamp else t) parts)
    ∙ stamp-unnoted parts n c t (second-false (is_of n c p) (is_noted n c parts) none)

-- one record is put back, with its stamp: the others of its savepoint are left
pub stamp-taken : (s : Segment) (ss : List Segment) (r : OldPart) (rest : List OldPart) (b n : ℕ) (c : Cell) (t : ℕ)
    → HaveSerialsBelow b (record s { records = r ∷ rest } ∷ ss) → is_noted r.number r.cell rest ≡ false
    → IsStamp b n c t (record s { records = r ∷ rest } ∷ ss)
    → IsStamp b n c (if is_of n c r then r.stamp else t) (record s { records = rest } ∷ ss)
stamp-taken s ss r rest b n c t serials apart is = by (is_of n c r) refl
  where
    by : (x : Bool) → is_of n c r ≡ x → IsStamp b n c (if x then r.stamp else t) (record s { records = rest } ∷ ss)
    by true e =
        let to = is_of-is n c r e in
        let none : is_noted n c rest ≡ false = (λ i. is_noted (to.0 i) (to.1 i) rest) ∙ apart in
        let kept : stamp_before n c t (r ∷ rest) ≡ r.stamp =
        (λ i. stamp_before n c (if e i then r.stamp else t) rest) ∙ stamp-unnoted rest n c r.stamp none in
        let older : IsStamp s.serial n c r.stamp ss = subst (λ u. IsStamp s.serial n c u ss) kept is.2 in
        let less = stamp-below ss s.serial n c r.stamp serials.1 older in (
          omega arith,
          none ∙ sym (differs r.stamp s.serial less),
          subst (λ u. IsStamp s.serial n c u ss) (sym (stamp-unnoted rest n c r.stamp none)) older,
        )
    by false e = (
      is.0,
      sym (ap (λ x. x || is_noted n c rest) e) ∙ is.1,
      subst (λ u. IsStamp s.serial n c u ss) (λ i. stamp_before n c (if e i then r.stamp else t) rest) is.2,
    )

-- a place is made, or an object with its places: the stamp is 0, and no savepoint has a record of the cell
pub stamp-new : (ss : List Segment) (b n : ℕ) (c : Cell) → HaveSerialsBelow b ss → IsUnnoted n c ss → IsStamp b n c 0 ss
stamp-new [] b n c serials none = serials
stamp-new (s ∷ ss) b n c serials none =
    let above = zero-below ss s.serial serials.1 in (
      omega arith,
      none.0 ∙ sym (differs 0 s.serial above),
      subst (λ t. IsStamp s.serial n c t ss) (sym (stamp-unnoted s.records n c 0 none.0)) (stamp-new ss s.serial n c serials.1 none.1),
    )
  where
    zero-below : (ss : List Segment) (b : ℕ) → HaveSerialsBelow b ss → 0 < b
    zero-below [] b serials = serials
    zero-below (s ∷ ss) b serials = let less = serials.0 in omega arith

-- what a stamp tells of the newest savepoint
pub stamp-newest : (ss : List Segment) (b n : ℕ) (c : Cell) (t : ℕ) → IsStamp b n c t ss
    → (newest_serial ss ≡ Some t) ↔ IsTrue (is_noted n c (newest_records ss))
stamp-newest [] b n c t is = (λ e. absurd cc, λ e. absurd (true≢false (sym e)))
stamp-newest (s ∷ ss) b n c t is = (
  λ e. let same : s.serial ≡ t = cc in is.1 ∙ eq-eqb t s.serial (sym same),
  λ noted. ap (λ u. Some u) (sym (eqb-true t s.serial (sym is.1 ∙ noted))),
)

-- and of the older ones
older : (s : Segment) (ss : List Segment) (n : ℕ) (c : Cell) (t : ℕ) → is_noted n c s.records ≡ false
    → IsStamp s.serial n c (stamp_before n c t s.records) ss → IsStamp s.serial n c t ss
older s ss n c t none is = subst (λ u. IsStamp s.serial n c u ss) (stamp-unnoted s.records n c t none) is

pub stamp-noted : (ss : List Segment) (b n : ℕ) (c : Cell) (t serial : ℕ) → IsStamp b n c t ss → noted_serial n c ss ≡ Some serial
    → t ≡ serial
stamp-noted [] b n c t serial is e = cc
stamp-noted (s ∷ ss) b n c t serial is e =
    by (is_noted n c s.records) refl e (λ none there. stamp-noted ss s.serial n c t serial (older s ss n c t none is.2) there)
  where
    by : (x : Bool) → is_noted n c s.records ≡ x → (if x then Some s.serial else noted_serial n c ss) ≡ Some serial
        → (is_noted n c s.records ≡ false → noted_serial n c ss ≡ Some serial → t ≡ serial) → t ≡ serial
    by true noted e rest = let same : s.serial ≡ serial = cc in eqb-true t s.serial (sym is.1 ∙ noted) ∙ same
    by false none e rest = rest none e

pub stamp-below-oldest : (ss : List Segment) (b n : ℕ) (c : Cell) (t : ℕ) → IsStamp b n c t ss → noted_serial n c ss ≡ None
    → t < oldest_serial_or b ss
stamp-below-oldest [] b n c t is e = is
stamp-below-oldest (s ∷ ss) b n c t is e =
    by (is_noted n c s.records) refl e (λ none there. stamp-below-oldest ss s.serial n c t (older s ss n c t none is.2) there)
  where
    by : (x : Bool) → is_noted n c s.records ≡ x → (if x then Some s.serial else noted_serial n c ss) ≡ None
        → (is_noted n c s.records ≡ false → noted_serial n c ss ≡ None → t < oldest_serial_or s.serial ss)
        → t < oldest_serial_or s.serial ss
    by true noted e rest = absurd cc
    by false none e rest = rest none e
