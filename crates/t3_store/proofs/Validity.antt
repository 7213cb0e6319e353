-- That objects are as ones of their kinds can be, now and at each savepoint, whatever happens.
use Rattle.std.proofs.Common.{◌≡◌, ◌∙◌, ap, sym, subst, refl, ℕ, zero, suc, ◌-◌, ◌≤◌, nat_lt, Bool, true, false, cond, List, [], ◌∷◌, length, take, drop, Option, None, Some, IsTrue, Bor, true≢false}
use Rattle.std.specs.Option.{option_map}
use Rattle.std.specs.Prelude.{IfSome}
use Rattle.std.specs.Ordering.{nat_cmp}
use Rattle.std.specs.Cmp.{nat_cmp_total}
use Rattle.std.specs.FinMap.{get, insert, empty, get-empty, get-insert}
use Rattle.t3_undo.specs.Content.{Parts, is_form}
use Rattle.t3_undo.specs.Present.{Present}
use Rattle.t3_undo.specs.Objects as journaled
use Rattle.t3_undo.specs.Objects.{Objects, OldPart, Segment, part_at, is_noted, before, with_part}
use Rattle.t3_undo.specs.Journal.{room, is_due, add, note_in, newest_next, newest_records}
use Rattle.t3_undo.specs.UndoLaw as law
use Rattle.t3_undo.specs.declared.cell.Cell.{Cell}
use Rattle.t3_undo.proofs.Maps.{get-adjust}
use Rattle.t3_undo.proofs.PuttingBack.{put_back-note, before-made}
use Rattle.t3_store.specs.Inner.Shapes.{Shape, thing_of, value_of, values}
use Rattle.t3_store.specs.Value.{Value, can_lose_at}
use Rattle.t3_store.specs.declared.object.Object.{Object}
use Rattle.t3_store.proofs.KindValues.{valid-without, lose-form}
use Rattle.t3_store.proofs.MapValues.{get-values}
use Rattle.t3_store.specs.Inner.Valid.{IsValid, AreValid, AreValidBefore}
use Rattle.t3_store.proofs.Rows.{same, same-is}
use Rattle.t3_store.specs.Inner.Store.{record_of}
use Rattle.t3_store.proofs.Marks.{before-undue, before-now}

-- none, one changed, and one more
pub valid-none : AreValid empty
valid-none q thing e = let none : ◌≡◌ {A = Option (Shape × Parts)} None (Some thing) = sym (get-empty nat_cmp q) ∙ e in cc

pub valid-set : (things : Objects Shape) (n : ℕ) (c : Cell) (o : Option Present) → AreValid things
    → ((x : Shape × Parts) → get things n ≡ Some x → IsValid (with_part c o x)) → AreValid (journaled.set_cell things n c o)
valid-set things n c o valid own q thing e =
    by (same q n) refl (get things q) refl (sym (get-adjust nat_cmp_total things n (with_part c o) q) ∙ e)
  where
    by : (b : Bool) → same q n ≡ b → (x : Option (Shape × Parts)) → get things q ≡ x
        → cond b (option_map (with_part c o) x) x ≡ Some thing → IsValid thing
    by true t None is e = cc
    by true t (Some x) is e =
        let value : with_part c o x ≡ thing = cc in
        subst IsValid value (own x (ap (get things) (sym (same-is q n t)) ∙ is))
    by false t x is e = valid q thing (is ∙ e)

pub valid-insert : (things : Objects Shape) (n : ℕ) (x : Shape × Parts) → AreValid things → IsValid x → AreValid (insert things n x)
valid-insert things n x valid own q thing e = by (same q n) (sym (get-insert nat_cmp_total things n x q) ∙ e)
  where
    by : (b : Bool) → cond b (Some x) (get things q) ≡ Some thing → IsValid thing
    by true e = let value : x ≡ thing = cc in subst IsValid value own
    by false e = valid q thing e

-- at each savepoint
back-newest : (s : Segment) (ss : List Segment) (a b : Objects Shape) → before a s ≡ before b s → AreValidBefore b (s ∷ ss) → AreValidBefore a (s ∷ ss)
back-newest s ss a b e valid =
    (subst AreValid (sym e) valid.0, subst (λ m. AreValidBefore m ss) (sym e) valid.1)

back-added : (s : Segment) (ss : List Segment) (m : Objects Shape) (n : ℕ) (c : Cell) (o : Option Present) (stamp : ℕ) → AreValidBefore m (s ∷ ss)
    → AreValidBefore (journaled.set_cell m n c o)
    (record s { records = record_of n c (part_at m n c) stamp ∷ s.records } ∷ ss)
back-added s ss m n c o stamp valid =
    let back = ap (journaled.below s.next) (put_back-note s.records m n c o stamp) in
    (subst AreValid (sym back) valid.0, subst (λ m. AreValidBefore m ss) (sym back) valid.1)

back-if : (b : Bool) (m : Objects Shape) (ss : List Segment) → AreValidBefore m ss → AreValidBefore m (cond b ss [])
back-if true m ss valid = valid
back-if false m ss valid = tt

back-room : (limit : ℕ) (ss : List Segment) (m : Objects Shape) → AreValidBefore m ss → AreValidBefore m (room limit ss)
back-room limit [] m valid = tt
back-room limit (s ∷ ss) m valid =
    back-if (nat_lt (length s.records) limit) m (s ∷ room (limit - length s.records) ss)
    (valid.0, back-room (limit - length s.records) ss (before m s) valid.1)

pub back-noted : (limit : ℕ) (ss : List Segment) (m : Objects Shape) (n : ℕ) (c : Cell) (o : Option Present) (stamp : ℕ) → AreValidBefore m ss
    → AreValidBefore (journaled.set_cell m n c o) (note_in limit (record_of n c (part_at m n c) stamp) ss)
back-noted limit ss m n c o stamp valid = by (is_due n c ss) refl
  where
    due : (ss : List Segment) → AreValidBefore m ss
        → AreValidBefore (journaled.set_cell m n c o) (add (record_of n c (part_at m n c) stamp) ss)
    due [] valid = tt
    due (s ∷ ss) valid = back-added s ss m n c o stamp valid

    undue : (ss : List Segment) → is_due n c ss ≡ false → AreValidBefore m ss → AreValidBefore (journaled.set_cell m n c o) ss
    undue [] e valid = tt
    undue (s ∷ ss) e valid = back-newest s ss (journaled.set_cell m n c o) m (before-undue s m n c o e) valid

    by : (b : Bool) → is_due n c ss ≡ b
        → AreValidBefore (journaled.set_cell m n c o) (cond b (add (record_of n c (part_at m n c) stamp) (room limit ss)) ss)
    by true e = due (room limit ss) (back-room limit ss m valid)
    by false e = undue ss e valid

pub back-made : (ss : List Segment) (m : Objects Shape) (n : ℕ) (x : Shape × Parts)
    → ((q : Segment) (qs : List Segment) → ss ≡ q ∷ qs → q.next ≤ n) → AreValidBefore m ss → AreValidBefore (insert m n x) ss
back-made [] m n x older valid = tt
back-made (s ∷ ss) m n x older valid = back-newest s ss (insert m n x) m (before-made s m n x (older s ss refl)) valid

pub back-take : (k : ℕ) (ss : List Segment) (m : Objects Shape) → AreValidBefore m ss → AreValidBefore m (take k ss)
back-take zero ss m valid = tt
back-take (suc k) [] m valid = tt
back-take (suc k) (s ∷ ss) m valid = (valid.0, back-take k ss (before m s) valid.1)

pub back-saved : (serial next : ℕ) (ss : List Segment) (m : Objects Shape) → ((q : ℕ) → next ≤ q → get m q ≡ None) → AreValid m
    → AreValidBefore m ss → AreValidBefore m (record { serial = serial; next = next; records = [] } ∷ ss)
back-saved serial next ss m all valid old =
    let same = sym (before-now serial next m all) in (subst AreValid same valid, subst (λ x. AreValidBefore x ss) same old)

pub back-undone : (ss : List Segment) (m : Objects Shape) → AreValidBefore m ss → AreValidBefore (law.undone m ss) (drop 1 ss)
back-undone [] m valid = tt
back-undone (s ∷ ss) m valid = valid.1

pub valid-undone : (ss : List Segment) (m : Objects Shape) (next : ℕ) → newest_next ss ≡ Some next → AreValidBefore m ss → AreValid (law.undone m ss)
valid-undone [] m next e valid = cc
valid-undone (s ∷ ss) m next e valid = valid.0

-- one object's cell taken away
pub valid-less : (things : Objects Shape) (n : ℕ) (c : Cell) → AreValid things → IsTrue (can_lose_at (get (values things) n) c)
    → AreValid (journaled.set_cell things n c None)
valid-less things n c valid can =
    valid-set things n c None valid (λ x e.
    valid-without x c (sym (ap (λ o. can_lose_at o c) (get-values things n ∙ ap (option_map value_of) e)) ∙ can) (valid n x e))

-- an object that was found among valid ones
pub valid-found : (things : Objects Shape) (n : ℕ) (r : Option (Bor Object)) → option_map (λ o. thing_of o.now) r ≡ get things n → AreValid things
    → IfSome r (λ o. IsValid (thing_of o.now))
valid-found things n None e valid = tt
valid-found things n (Some o) e valid = valid n (thing_of o.now) (sym e)

-- what was put back and cut is what an undo gives
pub undone-is : (m : Objects Shape) (ss : List Segment) (next : ℕ) → newest_next ss ≡ Some next
    → journaled.below next (journaled.put_back m (newest_records ss)) ≡ law.undone m ss
undone-is m [] next e = cc
undone-is m (s ∷ ss) next e =
    let same : s.next ≡ next = cc in ap (λ n. journaled.below n (journaled.put_back m s.records)) (sym same)

-- what can be taken away has the form of nothing
pub can-lose-form : (o : Option Value) (c : Cell) → IsTrue (can_lose_at o c) → IsTrue (is_form c None)
can-lose-form None c can = absurd (true≢false (sym can))
can-lose-form (Some value) c can = lose-form value c can
