-- Superclasses stay whole: a cell that is set or taken away.
use Rattle.std.proofs.Common.{◌≡◌, ◌∙◌, ap, sym, subst, refl, ℕ, ◌-◌, Bool, true, false, cond, nat_lt, if◌then◌else◌, List, [], ◌∷◌, length, Option, None, Some}
use Rattle.std.specs.Prelude.{option_and_then}
use Rattle.std.specs.Option.{option_map}
use Rattle.std.specs.Ordering.{nat_cmp, eq_by_cmp}
use Rattle.std.specs.Cmp.{nat_cmp_total}
use Rattle.std.specs.FinMap.{get}
use Rattle.t3_undo.specs.Content.{Parts}
use Rattle.t3_undo.specs.Present.{Present}
use Rattle.t3_undo.specs.Objects as journaled
use Rattle.t3_undo.specs.Objects.{Objects, OldPart, Segment, with_part, before, put_back}
use Rattle.t3_undo.specs.Journal.{room, is_due, add, note_in}
use Rattle.t3_undo.specs.declared.cell.Cell.{Cell}
use Rattle.t3_undo.proofs.Maps.{get-adjust}
use Rattle.t3_tadsobj.specs.Order.{SupersAt}
use Rattle.t3_store.specs.Value.{supers_of}
use Rattle.t3_store.specs.Store.{either}
use Rattle.t3_store.specs.Inner.Shapes.{Shape, TadsShape, TextShape, ItemsShape, VectorShape, TableShape, values, value_of}
use Rattle.t3_store.specs.Inner.Whole.{supers_by, supers_from, supers_of_both, AreOlderSupers, AreWhole}
use Rattle.t3_store.proofs.MapValues.{get-values}

-- functions are equal where they answer alike
pub alike : {X Y : Type 0} (f g : X → Y) → ((x : X) → f x ≡ g x) → f ≡ g
alike f g e = λ i x. e x i

-- by values and by shapes superclasses are the same
pub supers-value : (o : Option (Shape × Parts)) → option_and_then supers_of (option_map value_of o) ≡ supers_by o
supers-value None = refl
supers-value (Some (TadsShape supers class, parts)) = refl
supers-value (Some (TextShape bytes, parts)) = refl
supers-value (Some (ItemsShape items, parts)) = refl
supers-value (Some (VectorShape, parts)) = refl
supers-value (Some (TableShape, parts)) = refl

pub supers-values : (m : Objects Shape) (q : ℕ) → option_and_then supers_of (get (values m) q) ≡ supers_from m q
supers-values m q = ap (option_and_then supers_of) (get-values m q) ∙ supers-value (get m q)

either-map : (a b : Option (Shape × Parts)) → either (option_map value_of a) (option_map value_of b) ≡ option_map value_of (either a b)
either-map None b = refl
either-map (Some x) b = refl

pub supers-both : (p t : Objects Shape) (q : ℕ) → option_and_then supers_of (either (get (values p) q) (get (values t) q)) ≡ supers_of_both p t q
supers-both p t q =
    (λ i. option_and_then supers_of (either (get-values p q i) (get-values t q i)))
    ∙ ap (option_and_then supers_of) (either-map (get p q) (get t q)) ∙ supers-value (either (get p q) (get t q))

-- a cell that is set leaves them
set-same : (b : Bool) (c : Cell) (o : Option Present) (x : Option (Shape × Parts)) → supers_by (cond b (option_map (with_part c o) x) x) ≡ supers_by x
set-same true c o None = refl
set-same true c o (Some (TadsShape supers class, parts)) = refl
set-same true c o (Some (TextShape bytes, parts)) = refl
set-same true c o (Some (ItemsShape items, parts)) = refl
set-same true c o (Some (VectorShape, parts)) = refl
set-same true c o (Some (TableShape, parts)) = refl
set-same false c o x = refl

pub supers-set : (m : Objects Shape) (n : ℕ) (c : Cell) (o : Option Present) (q : ℕ) → supers_from (journaled.set_cell m n c o) q ≡ supers_from m q
supers-set m n c o q = ap supers_by (get-adjust nat_cmp_total m n (with_part c o) q) ∙ set-same (eq_by_cmp nat_cmp q n) c o (get m q)

first-same : (b : Bool) (c : Cell) (o : Option Present) (x y : Option (Shape × Parts))
    → supers_by (either (cond b (option_map (with_part c o) x) x) y) ≡ supers_by (either x y)
first-same true c o None y = refl
first-same true c o (Some (TadsShape supers class, parts)) y = refl
first-same true c o (Some (TextShape bytes, parts)) y = refl
first-same true c o (Some (ItemsShape items, parts)) y = refl
first-same true c o (Some (VectorShape, parts)) y = refl
first-same true c o (Some (TableShape, parts)) y = refl
first-same false c o x y = refl

second-same : (b : Bool) (c : Cell) (o : Option Present) (x y : Option (Shape × Parts))
    → supers_by (either x (cond b (option_map (with_part c o) y) y)) ≡ supers_by (either x y)
second-same b c o (Some x) y = refl
second-same b c o None y = set-same b c o y

both-first : (p t : Objects Shape) (n : ℕ) (c : Cell) (o : Option Present) (q : ℕ) → supers_of_both (journaled.set_cell p n c o) t q ≡ supers_of_both p t q
both-first p t n c o q =
    ap (λ x. supers_by (either x (get t q))) (get-adjust nat_cmp_total p n (with_part c o) q) ∙ first-same (eq_by_cmp nat_cmp q n) c o (get p q) (get t q)

both-second : (p t : Objects Shape) (n : ℕ) (c : Cell) (o : Option Present) (q : ℕ) → supers_of_both p (journaled.set_cell t n c o) q ≡ supers_of_both p t q
both-second p t n c o q =
    ap (λ x. supers_by (either (get p q) x)) (get-adjust nat_cmp_total t n (with_part c o) q) ∙ second-same (eq_by_cmp nat_cmp q n) c o (get p q) (get t q)

older-if : (at : SupersAt) (b : Bool) (ss : List Segment) → AreOlderSupers at ss → AreOlderSupers at (if b then ss else [])
older-if at true ss all = all
older-if at false ss all = tt

older-room : (at : SupersAt) (limit : ℕ) (ss : List Segment) → AreOlderSupers at ss → AreOlderSupers at (room limit ss)
older-room at limit [] all = tt
older-room at limit (s ∷ ss) all =
    older-if at (nat_lt (length s.records) limit) (s ∷ room (limit - length s.records) ss) (all.0, older-room at (limit - length s.records) ss all.1)

older-added : (at : SupersAt) (part : OldPart) (ss : List Segment) → AreOlderSupers at ss → AreOlderSupers at (add part ss)
older-added at part [] all = tt
older-added at part (s ∷ ss) all = (all.0, all.1)

older-noted : (at : SupersAt) (limit : ℕ) (part : OldPart) (ss : List Segment) → AreOlderSupers at ss → AreOlderSupers at (note_in limit part ss)
older-noted at limit part ss all = by (is_due part.number part.cell ss)
  where
    by : (b : Bool) → AreOlderSupers at (if b then add part (room limit ss) else ss)
    by true = older-added at part (room limit ss) (older-room at limit ss all)
    by false = all

pub whole-persistent : (p t : Objects Shape) (next next_transient limit n : ℕ) (ss : List Segment) (c : Cell) (o : Option Present) (part : OldPart)
    → AreWhole (supers_from p) (supers_of_both p t) next next_transient ss
    → AreWhole (supers_from (journaled.set_cell p n c o)) (supers_of_both (journaled.set_cell p n c o) t) next next_transient (note_in limit part ss)
whole-persistent p t next next_transient limit n ss c o part whole =
    let one = alike _ _ (λ q. sym (supers-set p n c o q)) in
    let two = alike _ _ (λ q. sym (both-first p t n c o q)) in
    subst (λ at. AreWhole at (supers_of_both (journaled.set_cell p n c o) t) next next_transient (note_in limit part ss)) one
    (subst (λ at. AreWhole (supers_from p) at next next_transient (note_in limit part ss)) two (record {
      there = whole.there;
      older = older-noted (supers_from p) limit part ss whole.older;
      given = whole.given;
      acyclic = whole.acyclic;
    }))

pub whole-transient : (p t : Objects Shape) (next next_transient n : ℕ) (ss : List Segment) (c : Cell) (o : Option Present)
    → AreWhole (supers_from p) (supers_of_both p t) next next_transient ss
    → AreWhole (supers_from p) (supers_of_both p (journaled.set_cell t n c o)) next next_transient ss
whole-transient p t next next_transient n ss c o whole =
    subst (λ at. AreWhole (supers_from p) at next next_transient ss) (alike _ _ (λ q. sym (both-second p t n c o q))) whole
