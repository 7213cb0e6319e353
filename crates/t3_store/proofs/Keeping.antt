-- What stays true of a store: numbers, what can be put back, and what is counted.
use Rattle.std.proofs.Common.{◌≡◌, ◌∙◌, ap, sym, subst, refl, ℕ, zero, suc, ◌-◌, ◌<◌, ◌≤◌, Bool, true, false, cond, not, ◌&&◌, nat_lt, if◌then◌else◌, List, [], ◌∷◌, ◌++◌, append_assoc, length, take, drop, Option, None, Some, is_some, ltb-true, arith}
use Rattle.std.specs.Option.{option_map}
use Rattle.std.specs.Ordering.{nat_cmp, eq_by_cmp}
use Rattle.std.specs.Cmp.{nat_cmp_total}
use Rattle.std.specs.FinMap.{FinMap, get}
use Rattle.t3_undo.specs.Content.{Places}
use Rattle.t3_undo.specs.Present.{Present}
use Rattle.t3_undo.specs.Objects as journaled
use Rattle.t3_undo.specs.Objects.{Objects, OldPart, Segment, with_part, is_noted}
use Rattle.t3_undo.specs.Journal.{room, is_due, add, note_in}
use Rattle.t3_undo.specs.declared.cell.Cell.{Cell}
use Rattle.t3_undo.proofs.Maps.{get-adjust}
use Rattle.t3_store.specs.Value.{units_in}
use Rattle.t3_store.specs.Store.{Mark, room_for, is_change_due, add_change, changed_in}
use Rattle.t3_store.specs.Inner.Shapes.{Shape}
use Rattle.t3_store.specs.Inner.Store.{CanBePut, CanAllBePut, IsSound, AreKept, AreNumbered, IsFront, saved_units}

-- fronts of lists
pub front-itself : (xs : List ℕ) → IsFront xs xs
front-itself xs = record { rest = []; is = whole xs }
  where
    whole : (xs : List ℕ) → xs ≡ xs ++ []
    whole [] = refl
    whole (x ∷ xs) = ap (λ ys. x ∷ ys) (whole xs)

pub front-of : (xs ys zs : List ℕ) → IsFront xs ys → IsFront ys zs → IsFront xs zs
front-of xs ys zs a b = record { rest = a.rest ++ b.rest; is = b.is ∙ ap (λ w. w ++ b.rest) a.is ∙ append_assoc xs a.rest b.rest }

pub front-cons : (x : ℕ) (xs ys : List ℕ) → IsFront xs ys → IsFront (x ∷ xs) (x ∷ ys)
front-cons x xs ys a = record { rest = a.rest; is = ap (λ w. x ∷ w) a.is }

pub front-none : (xs : List ℕ) → IsFront [] xs
front-none xs = record { rest = xs; is = refl }

pub front-take : (k : ℕ) (xs ys : List ℕ) → IsFront xs ys → IsFront (take k xs) (take k ys)
front-take zero xs ys a = front-none []
front-take (suc k) [] ys a = front-none (take (suc k) ys)
front-take (suc k) (x ∷ xs) [] a = cc
front-take (suc k) (x ∷ xs) (y ∷ ys) a =
    let same : x ≡ y = cc in
    let rest : ys ≡ xs ++ a.rest = cc in
    subst (λ z. IsFront (x ∷ take k xs) (z ∷ take k ys)) same (front-cons x (take k xs) (take k ys)
    (front-take k xs ys (record { rest = a.rest; is = rest })))

pub front-drop : (x : ℕ) (xs ys : List ℕ) → IsFront (x ∷ xs) ys → IsFront xs (drop 1 ys)
front-drop x xs [] a = cc
front-drop x xs (y ∷ ys) a = record { rest = a.rest; is = cc }

-- the savepoints that a change leaves are a front of those before
front-room : (limit : ℕ) (ms : List Mark) → IsFront (saved_units (room_for limit ms)) (saved_units ms)
front-room limit [] = front-none []
front-room limit (m ∷ ms) = by (nat_lt (length m.changed) limit) (front-room (limit - length m.changed) ms)
  where
    by : (b : Bool) → IsFront (saved_units (room_for (limit - length m.changed) ms)) (saved_units ms)
        → IsFront (saved_units (if b then m ∷ room_for (limit - length m.changed) ms else [])) (saved_units (m ∷ ms))
    by true rest = front-cons (units_in m.copy) _ _ rest
    by false rest = front-none (saved_units (m ∷ ms))

units-added : (n : ℕ) (c : Cell) (ms : List Mark) → saved_units (add_change n c ms) ≡ saved_units ms
units-added n c [] = refl
units-added n c (m ∷ ms) = refl

pub front-changed : (limit n : ℕ) (c : Cell) (ms : List Mark) → IsFront (saved_units (changed_in limit n c ms)) (saved_units ms)
front-changed limit n c ms = by (is_change_due n c ms)
  where
    by : (b : Bool) → IsFront (saved_units (if b then add_change n c (room_for limit ms) else ms)) (saved_units ms)
    by true = subst (λ us. IsFront us (saved_units ms)) (sym (units-added n c (room_for limit ms))) (front-room limit ms)
    by false = front-itself (saved_units ms)

-- what can be put back, where places are kept
pub put-keep : (old new : FinMap nat_cmp Places) (parts : List OldPart) → AreKept old new → CanAllBePut old parts → CanAllBePut new parts
put-keep old new [] kept can = tt
put-keep old new (part ∷ parts) kept can =
    (record { placed = kept part.number part.cell can.0.placed; formed = can.0.formed }, put-keep old new parts kept can.1)

pub sound-keep : (old new : FinMap nat_cmp Places) (top more : ℕ) (ss : List Segment) → AreKept old new → top ≤ more → IsSound old top ss
    → IsSound new more ss
sound-keep old new top more [] kept h sound = tt
sound-keep old new top more (s ∷ ss) kept h sound =
    (omega (arith, sound.0), sound.1, put-keep old new s.records kept sound.2, sound-keep old new s.next s.next ss kept (omega arith) sound.3)

sound-if : (places : FinMap nat_cmp Places) (top : ℕ) (b : Bool) (ss : List Segment) → IsSound places top ss → IsSound places top (if b then ss else [])
sound-if places top true ss sound = sound
sound-if places top false ss sound = tt

sound-room : (places : FinMap nat_cmp Places) (top limit : ℕ) (ss : List Segment) → IsSound places top ss → IsSound places top (room limit ss)
sound-room places top limit [] sound = tt
sound-room places top limit (s ∷ ss) sound =
    sound-if places top (nat_lt (length s.records) limit) (s ∷ room (limit - length s.records) ss)
    (sound.0, sound.1, sound.2, sound-room places s.next (limit - length s.records) ss sound.3)

and-first : (a b : Bool) → (a && b) ≡ true → a ≡ true
and-first true b e = refl
and-first false b e = e

pub sound-noted : (places : FinMap nat_cmp Places) (top limit : ℕ) (ss : List Segment) (part : OldPart) → CanBePut places part
    → IsSound places top ss → IsSound places top (note_in limit part ss)
sound-noted places top limit ss part can sound = by (is_due part.number part.cell ss) refl
  where
    older : (ss : List Segment) → is_due part.number part.cell ss ≡ true → (s : Segment) (qs : List Segment) → ss ≡ s ∷ qs → part.number < s.next
    older [] e s qs is = cc
    older (q ∷ rest) e s qs is =
        let same : q ≡ s = cc in
        subst (λ (x : Segment). part.number < x.next) same
        (ltb-true part.number q.next (and-first (nat_lt part.number q.next) (not (is_noted part.number part.cell q.records)) e))

    added : (ss : List Segment) → is_due part.number part.cell ss ≡ true → IsSound places top ss → IsSound places top (add part (room limit ss))
    added [] e sound = tt
    added (s ∷ ss) e sound = inner (nat_lt (length s.records) limit)
      where
        inner : (b : Bool) → IsSound places top (add part (if b then s ∷ room (limit - length s.records) ss else []))
        inner true = (
          sound.0,
          (older (s ∷ ss) e s ss refl, sound.1),
          (can, sound.2),
          sound-room places s.next (limit - length s.records) ss sound.3,
        )
        inner false = tt

    by : (b : Bool) → is_due part.number part.cell ss ≡ b → IsSound places top (if b then add part (room limit ss) else ss)
    by true e = added ss e sound
    by false e = sound

-- numbers, where a cell is set
pub none-set : {X : Type 0} (b : Bool) (f : X → X) (o : Option X) → o ≡ None → cond b (option_map f o) o ≡ None
none-set true f None e = refl
none-set true f (Some x) e = cc
none-set false f o e = e

pub none-kept : (things : Objects Shape) (n : ℕ) (c : Cell) (o : Option Present) (q : ℕ) → get things q ≡ None
    → get (journaled.set_cell things n c o) q ≡ None
none-kept things n c o q e = get-adjust nat_cmp_total things n (with_part c o) q ∙ none-set (eq_by_cmp nat_cmp q n) (with_part c o) (get things q) e

pub some-set : {X : Type 0} (b : Bool) (f : X → X) (o : Option X) → is_some (cond b (option_map f o) o) ≡ is_some o
some-set true f None = refl
some-set true f (Some x) = refl
some-set false f o = refl

some-kept : (things : Objects Shape) (n : ℕ) (c : Cell) (o : Option Present) (q : ℕ) → is_some (get (journaled.set_cell things n c o) q) ≡ true
    → is_some (get things q) ≡ true
some-kept things n c o q e =
    sym (ap is_some (get-adjust nat_cmp_total things n (with_part c o) q) ∙ some-set (eq_by_cmp nat_cmp q n) (with_part c o) (get things q)) ∙ e

pub numbered-persistent : (p t : Objects Shape) (next next_transient n : ℕ) (c : Cell) (o : Option Present) → AreNumbered p t next next_transient
    → AreNumbered (journaled.set_cell p n c o) t next next_transient
numbered-persistent p t next next_transient n c o are = record {
  persistent_from_one = none-kept p n c o 0 are.persistent_from_one;
  transient_from_one = are.transient_from_one;
  next_from_one = are.next_from_one;
  persistent_below = λ q h. none-kept p n c o q (are.persistent_below q h);
  transient_low = are.transient_low;
  transient_high = are.transient_high;
  next_fits = are.next_fits;
  transient_from = are.transient_from;
  transient_fits = are.transient_fits;
  distinct = λ q h. are.distinct q (some-kept p n c o q h);
}

pub numbered-transient : (p t : Objects Shape) (next next_transient n : ℕ) (c : Cell) (o : Option Present) → AreNumbered p t next next_transient
    → AreNumbered p (journaled.set_cell t n c o) next next_transient
numbered-transient p t next next_transient n c o are = record {
  persistent_from_one = are.persistent_from_one;
  transient_from_one = none-kept t n c o 0 are.transient_from_one;
  next_from_one = are.next_from_one;
  persistent_below = are.persistent_below;
  transient_low = λ q h l. none-kept t n c o q (are.transient_low q h l);
  transient_high = λ q h. none-kept t n c o q (are.transient_high q h);
  next_fits = are.next_fits;
  transient_from = are.transient_from;
  transient_fits = are.transient_fits;
  distinct = λ q h. none-kept t n c o q (are.distinct q h);
}
