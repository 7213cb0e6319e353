-- A cell of a store's object set or taken away: what the store is then, and what stays true of it.
use Rattle.std.proofs.Common.{◌≡◌, ◌∙◌, ap, sym, subst, refl, ℕ, ◌+◌, ◌-◌, ◌<◌, ◌≤◌, ◌^◌, Bool, true, false, ◌&&◌, if◌then◌else◌, List, Option, None, Some, Result, Ok, Err, IsTrue, IsSome, is_some, is_none, true≢false, arith}
use Rattle.std.specs.Ordering.{nat_cmp}
use Rattle.std.specs.FinMap.{FinMap, get, len}
use Rattle.t3_undo.specs.Present.{Present}
use Rattle.t3_undo.specs.Objects.{Objects, Segment, adjust}
use Rattle.t3_undo.specs.Journal.{Held, note_in}
use Rattle.t3_undo.specs.declared.cell.Cell.{Cell}
use Rattle.t3_holder.specs.declared.holder.Holder.{Holder}
use Rattle.t3_store.specs.Value.{Value, units_in, holder_at, can_have_at, can_lose_at, with_cell, without_cell}
use Rattle.t3_undo.specs.Units.{cell_units}
use Rattle.t3_store.specs.Store.{StoreValue, value_at, either, is_persistent, noted, with_value, changed_in, taken, written, set_cell, is_full_with, objects_in, store_units}
use Rattle.t3_store.specs.Inner.Shapes.{Shape, Stored, values, stamp_at, HaveZeroStamps, AreWithin}
use Rattle.t3_store.specs.Inner.Store.{marks_of, store_of, record_of, IsWritten, NotesChange, IsStore, AreNumbered, saved_units, IsFront}
use Rattle.t3_undo.specs.Stamps.{AreStamped}
use Rattle.t3_store.specs.declared.limits.StoreLimits.{StoreLimits}
use Rattle.t3_store.proofs.MapValues.{some-values, len-adjust, units_in-with, units_in-without, present-can_at}
use Rattle.t3_store.proofs.Marks.{marks-changed}
use Rattle.t3_store.specs.Inner.Whole.{supers_from, supers_of_both, AreWhole}
use Rattle.t3_store.proofs.KindsKept.{kinds-persistent, kinds-transient, kinds-more}
use Rattle.t3_store.proofs.Ticks.{within-more}
use Rattle.t3_store.proofs.Creating.{not-full}
use Rattle.t3_store.proofs.Stamped.{written-noted}
use Rattle.t3_store.proofs.WholeWritten.{whole-persistent, whole-transient}
use Rattle.t3_store.proofs.Keeping.{front-of, front-changed, sound-keep, sound-noted, numbered-persistent, numbered-transient}

-- a change of a persistent object, and of a transient one
with-persistent : (s : StoreValue) (n : ℕ) (c : Cell) (g : Value → Value) → is_persistent s n ≡ true
    → with_value n g (noted n c s) ≡ record s { persistent = adjust s.persistent n g; marks = changed_in s.limits.records n c s.marks }
with-persistent s n c g e =
    ap (λ b. with_value n g (if b then record s { marks = changed_in s.limits.records n c s.marks } else s)) e
    ∙ ap (λ b. if b then record s { persistent = adjust s.persistent n g; marks = changed_in s.limits.records n c s.marks }
    else record s { transient = adjust s.transient n g; marks = changed_in s.limits.records n c s.marks }) e

with-transient : (s : StoreValue) (n : ℕ) (c : Cell) (g : Value → Value) → is_persistent s n ≡ false
    → with_value n g (noted n c s) ≡ record s { transient = adjust s.transient n g }
with-transient s n c g e =
    ap (λ b. with_value n g (if b then record s { marks = changed_in s.limits.records n c s.marks } else s)) e
    ∙ ap (λ b. if b then record s { persistent = adjust s.persistent n g } else record s { transient = adjust s.transient n g }) e

marks-written : (limit : ℕ) (ss : List Segment) (old new : Stored) (n : ℕ) (c : Cell) (g : Value → Value) (was : Option Present) (stamp : ℕ)
    → IsWritten old new n c g was
    → marks_of new.objects (note_in limit (record_of n c was stamp) ss) ≡ changed_in limit n c (marks_of old.objects ss)
marks-written limit ss old new n c g was stamp w =
    (λ i. marks_of (w.objects i) (note_in limit (record_of n c (w.stood i) stamp) ss)) ∙ marks-changed limit ss old.objects n c w.content stamp

-- the store with a persistent object changed
pub persistent-changed : (old new : Stored) (t : Objects Shape) (next next_transient : ℕ) (limits : StoreLimits) (ss : List Segment) (limit n : ℕ)
    (c : Cell) (g : Value → Value) (was : Option Present) (stamp : ℕ) → IsWritten old new n c g was → limit ≡ limits.records
    → is_some (get old.objects n) ≡ true
    → store_of new.objects t next next_transient limits (note_in limit (record_of n c was stamp) ss)
    ≡ with_value n g (noted n c (store_of old.objects t next next_transient limits ss))
persistent-changed old new t next next_transient limits ss limit n c g was stamp w same there =
    (λ i. record {
      persistent = w.values i;
      transient = values t;
      next = next;
      next_transient = next_transient;
      limits = limits;
      marks = (marks-written limit ss old new n c g was stamp w ∙ ap (λ l. changed_in l n c (marks_of old.objects ss)) same) i;
    })
    ∙ sym (with-persistent (store_of old.objects t next next_transient limits ss) n c g (some-values old.objects n ∙ there))

pub transient-changed : (old new : Stored) (p : Objects Shape) (next next_transient : ℕ) (limits : StoreLimits) (ss : List Segment) (n : ℕ)
    (c : Cell) (g : Value → Value) (was : Option Present) → IsWritten old new n c g was → is_some (get p n) ≡ false
    → store_of p new.objects next next_transient limits ss ≡ with_value n g (noted n c (store_of p old.objects next next_transient limits ss))
transient-changed old new p next next_transient limits ss n c g was w gone =
    (λ i. record {
      persistent = values p;
      transient = w.values i;
      next = next;
      next_transient = next_transient;
      limits = limits;
      marks = marks_of p ss;
    })
    ∙ sym (with-transient (store_of p old.objects next next_transient limits ss) n c g (some-values p n ∙ gone))

-- what stays true
pub persistent-kept : (old new t : Stored) (next next_transient : ℕ) (limits : StoreLimits) (j : Held) (units : List ℕ) (room writes n : ℕ)
    (c : Cell) (g : Value → Value) (was : Option Present) (stamp : ℕ) → IsStore old t next next_transient limits j units room writes
    → IsWritten old new n c g was → units_in (values new.objects) ≤ limits.units → writes + 1 ≤ 2 ^ 63
    → AreStamped j.marks (stamp_at new.places) (note_in j.record_limit (record_of n c was stamp) j.segments)
    → IsStore new t next next_transient limits (record j { segments = note_in j.record_limit (record_of n c was stamp) j.segments }) units room
    (writes + 1)
persistent-kept old new t next next_transient limits j units room writes n c g was stamp is w few more stamped = record {
  bounded = is.bounded;
  records = is.records;
  savepoints = is.savepoints;
  numbered = subst (λ o. AreNumbered o t.objects next next_transient) (sym w.objects) (numbered-persistent old.objects t.objects next next_transient n c w.content is.numbered);
  stamped = stamped;
  transient_stamps = is.transient_stamps;
  sound = sound-noted new.places next j.record_limit j.segments (record_of n c was stamp) (record { placed = w.placed; formed = w.formed })
      (sound-keep old.places new.places next next j.segments w.kept (omega arith) is.sound);
  counted = record {
    objects = subst (λ k. k + len (values t.objects) ≤ limits.objects)
        (sym (ap len w.values ∙ len-adjust (values old.objects) n g)) is.counted.objects;
    persistent_units = few;
    transient_units = is.counted.transient_units;
    copies = front-of _ _ _
        (subst (λ ms. IsFront (saved_units ms) (saved_units (marks_of old.objects j.segments)))
        (sym (marks-written j.record_limit j.segments old new n c g was stamp w)) (front-changed j.record_limit n c (marks_of old.objects j.segments)))
        is.counted.copies;
    each = is.counted.each;
    few = is.counted.few;
    fits = is.counted.fits;
  };
  few_writes = more;
  whole = subst (λ o. AreWhole (supers_from o) (supers_of_both o t.objects) next next_transient
      (note_in j.record_limit (record_of n c was stamp) j.segments)) (sym w.objects)
      (whole-persistent old.objects t.objects next next_transient j.record_limit n j.segments c w.content (record_of n c was stamp) is.whole);
  kinds = kinds-persistent old new t j.segments j.record_limit n stamp writes c g was is.kinds w;
}

-- the same once what stood there is noted
pub noted-changed : (old mid new : Stored) (t : Objects Shape) (next next_transient : ℕ) (limits : StoreLimits) (j after : Held) (n : ℕ)
    (c : Cell) (g : Value → Value) (was : Option Present) → IsWritten old mid n c g was → NotesChange mid new j after n c was
    → j.record_limit ≡ limits.records → is_some (get old.objects n) ≡ true
    → store_of new.objects t next next_transient limits after.segments
    ≡ with_value n g (noted n c (store_of old.objects t next next_transient limits j.segments))
noted-changed old mid new t next next_transient limits j after n c g was w is same there =
    (λ i. store_of new.objects t next next_transient limits (is.recorded i).segments)
    ∙ persistent-changed old new t next next_transient limits j.segments j.record_limit n c g was is.stamp
    (written-noted old mid new j after n c g was w is) same there

pub noted-kept : (old mid new t : Stored) (next next_transient : ℕ) (limits : StoreLimits) (j after : Held) (units : List ℕ)
    (room writes n : ℕ) (c : Cell) (g : Value → Value) (was : Option Present) → IsStore old t next next_transient limits j units room writes
    → IsWritten old mid n c g was → NotesChange mid new j after n c was → units_in (values mid.objects) ≤ limits.units → writes + 1 ≤ 2 ^ 63
    → IsStore new t next next_transient limits after units room (writes + 1)
noted-kept old mid new t next next_transient limits j after units room writes n c g was is w noted few more =
    subst (λ (h : Held). IsStore new t next next_transient limits h units room (writes + 1)) (sym noted.recorded)
    (persistent-kept old new t next next_transient limits j units room writes n c g was noted.stamp is
    (written-noted old mid new j after n c g was w noted)
    (subst (λ o. units_in (values o) ≤ limits.units) (sym noted.objects) few) more
    (subst (λ (h : Held). AreStamped h.marks (stamp_at new.places) h.segments) noted.recorded noted.stamped))

pub transient-kept : (p old new : Stored) (next next_transient : ℕ) (limits : StoreLimits) (j : Held) (units : List ℕ) (room writes n : ℕ)
    (c : Cell) (g : Value → Value) (was : Option Present) → IsStore p old next next_transient limits j units room writes
    → IsWritten old new n c g was → units_in (values new.objects) ≤ limits.units → writes + 1 ≤ 2 ^ 63
    → HaveZeroStamps new.places
    → IsStore p new next next_transient limits j units room (writes + 1)
transient-kept p old new next next_transient limits j units room writes n c g was is w few more zeros = record {
  bounded = is.bounded;
  records = is.records;
  savepoints = is.savepoints;
  numbered = subst (λ o. AreNumbered p.objects o next next_transient) (sym w.objects)
      (numbered-transient p.objects old.objects next next_transient n c w.content is.numbered);
  sound = is.sound;
  stamped = is.stamped;
  transient_stamps = zeros;
  counted = record {
    objects = subst (λ k. len (values p.objects) + k ≤ limits.objects)
        (sym (ap len w.values ∙ len-adjust (values old.objects) n g)) is.counted.objects;
    persistent_units = is.counted.persistent_units;
    transient_units = few;
    copies = is.counted.copies;
    each = is.counted.each;
    few = is.counted.few;
    fits = is.counted.fits;
  };
  few_writes = more;
  whole = subst (λ o. AreWhole (supers_from p.objects) (supers_of_both p.objects o) next next_transient j.segments) (sym w.objects)
      (whole-transient p.objects old.objects next next_transient n j.segments c w.content is.whole);
  kinds = kinds-transient p old new j.segments n writes c g was is.kinds w;
}

-- a write that changes nothing
pub writes-kept : (p t : Stored) (next next_transient : ℕ) (limits : StoreLimits) (j : Held) (units : List ℕ) (room writes : ℕ)
    → IsStore p t next next_transient limits j units room writes → writes + 1 ≤ 2 ^ 63
    → IsStore p t next next_transient limits j units room (writes + 1)
writes-kept p t next next_transient limits j units room writes is more = record {
  bounded = is.bounded;
  records = is.records;
  savepoints = is.savepoints;
  numbered = is.numbered;
  sound = is.sound;
  stamped = is.stamped;
  transient_stamps = is.transient_stamps;
  counted = is.counted;
  few_writes = more;
  whole = is.whole;
  kinds = kinds-more p t j.segments writes is.kinds;
}

-- there is room for a tick more
pub few-ticks : (ticks : FinMap nat_cmp ℕ) (writes : ℕ) → AreWithin (writes + 1) ticks → writes < 2 ^ 63 → AreWithin (2 ^ 64 - 2) ticks
few-ticks ticks writes all few = within-more (writes + 1) (2 ^ 64 - 2) ticks (omega arith) all

-- of a value in the one half or the other
pub either-some : (a b : Option Value) → is_some a ≡ true → either a b ≡ a
either-some None b e = absurd (true≢false (sym e))
either-some (Some v) b e = refl

pub either-none : (a b : Option Value) → is_some a ≡ false → either a b ≡ b
either-none None b e = refl
either-none (Some v) b e = absurd (true≢false e)

-- a present cell set anew counts as before
pub units-overwritten : (old new : Stored) (n : ℕ) (c : Cell) (holder : Holder) (was : Option Present) → IsWritten old new n c (with_cell c holder) was
    → IsSome (holder_at (get (values old.objects) n) c) → units_in (values new.objects) ≡ units_in (values old.objects)
units-overwritten old new n c holder was w some =
    ap units_in w.values
    ∙ units_in-with (values old.objects) n c holder (present-can_at (get (values old.objects) n) c some)
    ∙ ap (λ b. if b then units_in (values old.objects) else units_in (values old.objects) + cell_units c) some

-- what stands in a cell of a persistent object, and of another
pub held-persistent : (s now : StoreValue) (n : ℕ) (c : Cell) → s ≡ now → is_some (get s.persistent n) ≡ true
    → holder_at (value_at now n) c ≡ holder_at (get s.persistent n) c
held-persistent s now n c same there =
    ap (λ x. holder_at (value_at x n) c) (sym same) ∙ ap (λ o. holder_at o c) (either-some (get s.persistent n) (get s.transient n) there)

pub held-transient : (s now : StoreValue) (n : ℕ) (c : Cell) → s ≡ now → is_some (get s.persistent n) ≡ false
    → holder_at (value_at now n) c ≡ holder_at (get s.transient n) c
held-transient s now n c same gone =
    ap (λ x. holder_at (value_at x n) c) (sym same) ∙ ap (λ o. holder_at o c) (either-none (get s.persistent n) (get s.transient n) gone)

-- what didn't come for a full store wasn't full
pub ok-not : {X E B : Type 0} (r : Result X E) (x : X) (e : E) → r ≡ Ok x → (B → r ≡ Err e) → B → ⊥
ok-not r x e ok full b = let both : ◌≡◌ {A = Result _ _} (Ok x) (Err e) = sym ok ∙ full b in cc

-- a cell that is set keeps the units within the limit
pub units-set : (old new : Stored) (n : ℕ) (c : Cell) (holder : Holder) (was : Option Present) (full : Bool) (limit : ℕ)
    → IsWritten old new n c (with_cell c holder) was → IsTrue (can_have_at (get (values old.objects) n) c)
    → (IsTrue (is_none (holder_at (get (values old.objects) n) c) && full) → ⊥)
    → (full ≡ false → units_in (values old.objects) + cell_units c ≤ limit) → units_in (values old.objects) ≤ limit → units_in (values new.objects) ≤ limit
units-set old new n c holder was full limit w can apart room little =
    by (holder_at (get (values old.objects) n) c) full refl apart room
  where
    sum : units_in (values new.objects) ≡ (if is_some (holder_at (get (values old.objects) n) c) then units_in (values old.objects) else units_in (values old.objects) + cell_units c)
    sum = ap units_in w.values ∙ units_in-with (values old.objects) n c holder can

    by : (o : Option Holder) (f : Bool) → holder_at (get (values old.objects) n) c ≡ o → (IsTrue (is_none o && f) → ⊥)
        → (f ≡ false → units_in (values old.objects) + cell_units c ≤ limit) → units_in (values new.objects) ≤ limit
    by (Some h) f e apart room =
        let same : units_in (values new.objects) ≡ units_in (values old.objects) =
        sum ∙ ap (λ o. if is_some o then units_in (values old.objects) else units_in (values old.objects) + cell_units c) e in
        omega arith
    by None true e apart room = absurd (apart refl)
    by None false e apart room =
        let more : units_in (values new.objects) ≡ units_in (values old.objects) + cell_units c =
        sum ∙ ap (λ o. if is_some o then units_in (values old.objects) else units_in (values old.objects) + cell_units c) e in
        omega (arith, room refl)

pub units-taken : (old new : Stored) (n : ℕ) (c : Cell) (was : Option Present) → IsWritten old new n c (without_cell c) was
    → IsSome (holder_at (get (values old.objects) n) c) → IsTrue (can_lose_at (get (values old.objects) n) c)
    → units_in (values new.objects) + cell_units c ≡ units_in (values old.objects)
units-taken old new n c was w some can = ap (λ m. units_in m + cell_units c) w.values ∙ units_in-without old.objects n c some can

-- a write that isn't full
pub written-ok : (s : StoreValue) (n : ℕ) (c : Cell) (holder : Holder) (o : Option Holder) → o ≡ holder_at (value_at s n) c
    → (full : Bool) → full ≡ is_full_with 0 (cell_units c) s → (IsTrue (is_none o && full) → ⊥) → written n c holder s ≡ Some (set_cell n c holder s)
written-ok s n c holder o is full fills apart =
    (λ i. if is_none (sym is i) && sym fills i then None else Some (set_cell n c holder s)) ∙ by (is_none o && full) apart
  where
    by : (b : Bool) → (IsTrue b → ⊥) → ◌≡◌ {A = Option StoreValue} (if b then None else Some (set_cell n c holder s)) (Some (set_cell n c holder s))
    by true apart = absurd (apart refl)
    by false apart = refl

pub taken-some : (s : StoreValue) (n : ℕ) (c : Cell) → IsSome (holder_at (value_at s n) c)
    → taken n c s ≡ with_value n (without_cell c) (noted n c s)
taken-some s n c some = ap (λ b. if b then with_value n (without_cell c) (noted n c s) else s) some

-- nothing is full: there is room for so many more
pub room-for : (s now : StoreValue) (objects units : ℕ) → s ≡ now → is_full_with objects units now ≡ false
    → (objects_in s + objects ≤ s.limits.objects) × (store_units s + units ≤ s.limits.units)
room-for s now objects units same e =
    not-full s.limits.objects (objects_in s + objects) s.limits.units (store_units s + units) (ap (is_full_with objects units) same ∙ e)

-- what can be done with a persistent object's cell, and with another's
module _ (can : Option Value → Cell → Bool) where
  pub can-persistent : (s now : StoreValue) (n : ℕ) (c : Cell) → s ≡ now → is_some (get s.persistent n) ≡ true
      → IsTrue (can (value_at now n) c) → IsTrue (can (get s.persistent n) c)
  can-persistent s now n c same there is =
      sym (ap (λ o. can o c) (either-some (get s.persistent n) (get s.transient n) there)) ∙ ap (λ x. can (value_at x n) c) same ∙ is

  pub can-transient : (s now : StoreValue) (n : ℕ) (c : Cell) → s ≡ now → is_some (get s.persistent n) ≡ false
      → IsTrue (can (value_at now n) c) → IsTrue (can (get s.transient n) c)
  can-transient s now n c same gone is =
      sym (ap (λ o. can o c) (either-none (get s.persistent n) (get s.transient n) gone)) ∙ ap (λ x. can (value_at x n) c) same ∙ is

pub neither : (a b : Option Value) → a ≡ None → b ≡ None → either a b ≡ None
neither a b e f = either-none a b (ap is_some e) ∙ f
