-- Savepoints as whole copies, which the journal determines: what a change, a creation, a savepoint and an undo do to them.
use Rattle.std.proofs.Common.{◌≡◌, ◌∙◌, ap, sym, refl, ℕ, zero, suc, ◌-◌, ◌≤◌, Bool, true, false, cond, not, ◌&&◌, ◌||◌, nat_lt, if◌then◌else◌, List, [], ◌∷◌, length, map, take, drop, Option, None, Some, true≢false, ltb-false, arith}
use Rattle.std.specs.List.{list_any}
use Rattle.std.specs.Cmp.{nat_cmp_total}
use Rattle.std.specs.FinMap.{get, insert, same_map, nat_cmp-IsAntisymmetric}
use Rattle.t3_undo.specs.Content.{Parts}
use Rattle.t3_undo.specs.Present.{Present}
use Rattle.t3_undo.specs.Objects as journaled
use Rattle.t3_undo.specs.Objects.{Objects, OldPart, Segment, part_at, below, is_of, is_noted, put_back, before}
use Rattle.t3_undo.specs.Journal.{total, room, is_due, add, note_in, newest_next}
use Rattle.t3_undo.specs.UndoLaw as law
use Rattle.t3_undo.specs.declared.cell.Cell.{Cell}
use Rattle.t3_undo.proofs.PuttingBack.{put_back-noted, put_back-note, before-newer, before-made, get-before}
use Rattle.t3_store.specs.Store.{Mark, room_for, is_change_of, is_change_due, add_change, changed_in, changed_cells, newest_copy, is_held, StoreValue, undone}
use Rattle.t3_store.specs.Inner.Shapes.{Shape, values}
use Rattle.t3_store.specs.Inner.Store.{change_of, marks_of, record_of}

due-split : (n next : ℕ) → (nat_lt n next && true) ≡ false → next ≤ n
due-split n next e = by (nat_lt n next) refl e
  where
    by : (b : Bool) → nat_lt n next ≡ b → (b && true) ≡ false → next ≤ n
    by true t e = absurd (true≢false e)
    by false t e = ltb-false n next t

-- a change that isn't due leaves the copy of the newest savepoint
pub before-undue : (s : Segment) (m : Objects Shape) (n : ℕ) (c : Cell) (o : Option Present)
    → (nat_lt n s.next && not (is_noted n c s.records)) ≡ false → before (journaled.set_cell m n c o) s ≡ before m s
before-undue s m n c o e = by (is_noted n c s.records) refl
  where
    by : (b : Bool) → is_noted n c s.records ≡ b → before (journaled.set_cell m n c o) s ≡ before m s
    by true t = ap (below s.next) (put_back-noted s.records m n c o t)
    by false t = before-newer s m n c o (due-split n s.next (ap (λ b. nat_lt n s.next && not b) (sym t) ∙ e))

marks-none : (m : Objects Shape) → marks_of m [] ≡ []
unfolding marks_of
marks-none m = refl

-- the older copies come from the newest
marks-newest : (s : Segment) (ss : List Segment) (a b : Objects Shape) → before a s ≡ before b s → marks_of a (s ∷ ss) ≡ marks_of b (s ∷ ss)
unfolding marks_of
marks-newest s ss a b e =
    ap (λ x. record { copy = values x; next = s.next; changed = map change_of s.records } ∷ marks_of x ss) e

marks-added : (s : Segment) (ss : List Segment) (m : Objects Shape) (n : ℕ) (c : Cell) (o : Option Present) (stamp : ℕ)
    → marks_of (journaled.set_cell m n c o) (record s { records = record_of n c (part_at m n c) stamp ∷ s.records } ∷ ss)
    ≡ add_change n c (marks_of m (s ∷ ss))
unfolding marks_of
marks-added s ss m n c o stamp =
    let back : before (journaled.set_cell m n c o) (record s { records = record_of n c (part_at m n c) stamp ∷ s.records })
    ≡ before m s = ap (below s.next) (put_back-note s.records m n c o stamp) in
    ap (λ x. record { copy = values x; next = s.next; changed = (n, c) ∷ map change_of s.records } ∷ marks_of x ss) back

any-map : {X Y : Type 0} (p : Y → Bool) (f : X → Y) (xs : List X) → list_any p (map f xs) ≡ list_any (λ x. p (f x)) xs
any-map p f [] = refl
any-map p f (x ∷ xs) = ap (λ b. p (f x) || b) (any-map p f xs)

length-map' : {X Y : Type 0} (f : X → Y) (xs : List X) → length (map f xs) ≡ length xs
length-map' f [] = refl
length-map' f (x ∷ xs) = ap suc (length-map' f xs)

-- a change is due for the journal where it is due for the copies
due-same : (ss : List Segment) (m : Objects Shape) (n : ℕ) (c : Cell) → is_change_due n c (marks_of m ss) ≡ is_due n c ss
unfolding marks_of
due-same [] m n c = refl
due-same (s ∷ ss) m n c = ap (λ b. nat_lt n s.next && not b) (any-map (is_change_of n c) change_of s.records)

-- and room is the same
room-same : (limit : ℕ) (ss : List Segment) (m : Objects Shape) → marks_of m (room limit ss) ≡ room_for limit (marks_of m ss)
unfolding marks_of
room-same limit [] m = refl
room-same limit (s ∷ ss) m =
    by (nat_lt (length s.records) limit) (room-same (limit - length s.records) ss (before m s))
    ∙ λ i. let k = sym (length-map' change_of s.records) in
    if nat_lt (k i) limit
    then record { copy = values (before m s); next = s.next; changed = map change_of s.records }
    ∷ room_for (limit - k i) (marks_of (before m s) ss)
    else []
  where
    mark : Mark
    mark = record { copy = values (before m s); next = s.next; changed = map change_of s.records }

    by : (b : Bool) → marks_of (before m s) (room (limit - length s.records) ss) ≡ room_for (limit - length s.records) (marks_of (before m s) ss)
        → marks_of m (if b then s ∷ room (limit - length s.records) ss else [])
        ≡ (if b then record { copy = values (before m s); next = s.next; changed = map change_of s.records }
        ∷ room_for (limit - length s.records) (marks_of (before m s) ss) else [])
    by true rest = ap (λ ms. record { copy = values (before m s); next = s.next; changed = map change_of s.records } ∷ ms) rest
    by false rest = refl

-- a change of a cell
pub marks-changed : (limit : ℕ) (ss : List Segment) (m : Objects Shape) (n : ℕ) (c : Cell) (o : Option Present) (stamp : ℕ)
    → marks_of (journaled.set_cell m n c o) (note_in limit (record_of n c (part_at m n c) stamp) ss)
    ≡ changed_in limit n c (marks_of m ss)
marks-changed limit ss m n c o stamp =
    by (is_due n c ss) refl
    ∙ (λ i. if sym (due-same ss m n c) i then add_change n c (room-same limit ss m i) else marks_of m ss)
  where
    due : (ss : List Segment) → marks_of (journaled.set_cell m n c o) (add (record_of n c (part_at m n c) stamp) ss)
        ≡ add_change n c (marks_of m ss)
    due [] = marks-none (journaled.set_cell m n c o) ∙ ap (add_change n c) (sym (marks-none m))
    due (s ∷ ss) = marks-added s ss m n c o stamp

    undue : (ss : List Segment) → is_due n c ss ≡ false → marks_of (journaled.set_cell m n c o) ss ≡ marks_of m ss
    undue [] e = marks-none (journaled.set_cell m n c o) ∙ sym (marks-none m)
    undue (s ∷ ss) e = marks-newest s ss _ m (before-undue s m n c o e)

    by : (b : Bool) → is_due n c ss ≡ b
        → marks_of (journaled.set_cell m n c o) (if b then add (record_of n c (part_at m n c) stamp) (room limit ss) else ss)
        ≡ (if b then add_change n c (marks_of m (room limit ss)) else marks_of m ss)
    by true e = due (room limit ss)
    by false e = undue ss e

-- a creation
pub marks-made : (top : ℕ) (s : List Segment) (m : Objects Shape) (n : ℕ) (x : Shape × Parts) → ((q : Segment) (qs : List Segment) → s ≡ q ∷ qs → q.next ≤ n)
    → marks_of (insert m n x) s ≡ marks_of m s
marks-made top [] m n x older = marks-none (insert m n x) ∙ sym (marks-none m)
marks-made top (s ∷ ss) m n x older = marks-newest s ss _ m (before-made s m n x (older s ss refl))

-- how many savepoints are held, and how many changes
pub length-marks : (ss : List Segment) (m : Objects Shape) → length (marks_of m ss) ≡ length ss
unfolding marks_of
length-marks [] m = refl
length-marks (s ∷ ss) m = ap suc (length-marks ss (before m s))

pub changed_cells-marks : (ss : List Segment) (m : Objects Shape) → changed_cells (marks_of m ss) ≡ total ss
unfolding marks_of
changed_cells-marks [] m = refl
changed_cells-marks (s ∷ ss) m =
    let a = length-map' change_of s.records in
    let b = changed_cells-marks ss (before m s) in
    omega arith

-- dropped savepoints
pub marks-take : (k : ℕ) (ss : List Segment) (m : Objects Shape) → marks_of m (take k ss) ≡ take k (marks_of m ss)
unfolding marks_of
marks-take zero ss m = refl
marks-take (suc k) [] m = refl
marks-take (suc k) (s ∷ ss) m =
    ap (λ ms. record { copy = values (before m s); next = s.next; changed = map change_of s.records } ∷ ms)
    (marks-take k ss (before m s))

-- a savepoint with nothing changed since
pub before-now : (serial next : ℕ) (m : Objects Shape) → ((q : ℕ) → next ≤ q → get m q ≡ None)
    → before m (record { serial = serial; next = next; records = [] }) ≡ m
unfolding journaled.put_back
before-now serial next m all =
    same_map nat_cmp_total nat_cmp-IsAntisymmetric _ m
    (λ q. get-before (record { serial = serial; next = next; records = [] }) m q ∙ by q (nat_lt q next) refl)
  where
    by : (q : ℕ) (b : Bool) → nat_lt q next ≡ b → cond b (get m q) None ≡ get m q
    by q true t = refl
    by q false t = sym (all q (ltb-false q next t))

pub marks-saved : (serial next : ℕ) (ss : List Segment) (m : Objects Shape) → ((q : ℕ) → next ≤ q → get m q ≡ None)
    → marks_of m (record { serial = serial; next = next; records = [] } ∷ ss)
    ≡ record { copy = values m; next = next; changed = [] } ∷ marks_of m ss
unfolding marks_of
marks-saved serial next ss m all =
    ap (λ x. record { copy = values x; next = next; changed = [] } ∷ marks_of x ss) (before-now serial next m all)

-- an undo
pub values-undone : (ss : List Segment) (m : Objects Shape) → values (law.undone m ss) ≡ newest_copy (values m) (marks_of m ss)
unfolding marks_of
values-undone [] m = refl
values-undone (s ∷ ss) m = refl

pub marks-undone : (ss : List Segment) (m : Objects Shape) → marks_of (law.undone m ss) (drop 1 ss) ≡ drop 1 (marks_of m ss)
unfolding marks_of
marks-undone [] m = refl
marks-undone (s ∷ ss) m = refl

pub held-marks : (ss : List Segment) (m : Objects Shape) (next : ℕ) → newest_next ss ≡ Some next → is_held (marks_of m ss) ≡ true
unfolding marks_of
held-marks [] m next e = cc
held-marks (s ∷ ss) m next e = refl

pub none-held : (ss : List Segment) (m : Objects Shape) → newest_next ss ≡ None → ss ≡ []
none-held [] m e = refl
none-held (s ∷ ss) m e = cc

pub marks-unheld : (ss : List Segment) (m : Objects Shape) → newest_next ss ≡ None → marks_of m ss ≡ []
marks-unheld ss m e = ap (marks_of m) (none-held ss m e) ∙ marks-none m

-- without a savepoint an undo changes nothing
pub unheld : (s : StoreValue) → s.marks ≡ [] → s ≡ undone s
unheld s e =
    (λ i. record s { marks = e i })
    ∙ sym (λ i. record s { persistent = newest_copy s.persistent (e i); marks = drop 1 (e i) })
