-- The stamps of places stay right, whatever a store does.
use Rattle.std.proofs.Common.{◌≡◌, ◌∙◌, ap, sym, subst, refl, ℕ, ◌+◌, ◌<◌, ◌≤◌, ◌⊎◌, inl, inr, Bool, true, false, cond, ◌&&◌, ◌||◌, if◌then◌else◌, nat_lt, List, [], ◌∷◌, drop, Option, None, Some, is_some, true≢false, arith}
use Rattle.std.specs.Option.{option_map}
use Rattle.std.specs.List.{AllByRecursion}
use Rattle.std.specs.Ordering.{nat_cmp, eq_by_cmp}
use Rattle.std.specs.Cmp.{nat_cmp_total}
use Rattle.std.specs.FinMap.{FinMap, get, insert, get-insert, same_map, get-retain_keys, nat_cmp-IsAntisymmetric}
use Rattle.t3_undo.specs.Cell.{cell_cmp, cell_cmp_total}
use Rattle.t3_undo.specs.Content.{Places}
use Rattle.t3_undo.specs.Present.{Present}
use Rattle.t3_undo.specs.Objects.{OldPart, Segment, is_of, is_noted}
use Rattle.t3_undo.specs.Journal.{Held, note_in, serial_for, newest_record, but_newest_record, HaveDistinctCells}
use Rattle.t3_undo.specs.Stamps.{Stamps, AreStamped, IsStamp, IsUnnoted, stamp_after}
use Rattle.t3_undo.specs.Stamps as stamps
use Rattle.t3_undo.specs.declared.cell.Cell.{Cell}
use Rattle.t3_undo.proofs.Maps.{get-adjust}
use Rattle.t3_undo.proofs.SlotLists.{insert-own, same-is as same-cell}
use Rattle.t3_undo.proofs.PuttingBack.{is_of-is}
use Rattle.t3_undo.proofs.Stamping.{stamp-new}
use Rattle.t3_undo.proofs.AllStamps.{stamped-fewer, stamped-more, stamped-replaced, stamped-changed, stamped-taken, stamped-ended}
use Rattle.t3_undo.proofs.StampChanges.{stamp_after-some}
use Rattle.t3_store.specs.Inner.Shapes.{Stored, values, has_place, has_place_in, stamp_in, stamp_at, with_place_stamp, places_below, HasZeroStamps, HaveZeroStamps}
use Rattle.t3_store.specs.Inner.Store.{emptied, CanAllBePut, IsSound, KeepStamps, HaveSamePlaces, HaveRisen, IsWritten, NotesChange, record_of}
use Rattle.t3_store.specs.Value.{Value}
use Rattle.t3_store.proofs.Rows.{same, same-is}

-- ---- a place with another stamp

has-stamp : (places : FinMap nat_cmp Places) (q : ℕ) (d : Cell) → has_place places q d ≡ is_some (stamp_at places q d)
has-stamp places q d = by (get places q)
  where
    by : (o : Option Places) → has_place_in o d ≡ is_some (stamp_in o d)
    by None = refl
    by (Some own) = refl

-- where an object has a place, it has places
restamped : (o : Option Places) (c d : Cell) (t u : ℕ) → stamp_in o c ≡ Some u
    → stamp_in (option_map (λ own. insert own c t) o) d ≡ (if eq_by_cmp cell_cmp d c then Some t else stamp_in o d)
restamped None c d t u there = cc
restamped (Some own) c d t u there = get-insert cell_cmp_total own c t d ∙ by (eq_by_cmp cell_cmp d c)
  where
    by : (b : Bool) → cond b (Some t) (get own d) ≡ (if b then Some t else get own d)
    by true = refl
    by false = refl

-- the stamps of all places then
pub stamps-with_place_stamp : (places : FinMap nat_cmp Places) (n : ℕ) (c : Cell) (t u : ℕ) → stamp_at places n c ≡ Some u
    → (q : ℕ) (d : Cell) → stamp_at (with_place_stamp n c t places) q d ≡ stamps.with_stamp n c t (stamp_at places) q d
stamps-with_place_stamp places n c t u there q d =
    ap (λ o. stamp_in o d) (get-adjust nat_cmp_total places n (λ own. insert own c t) q) ∙ by (eq_by_cmp nat_cmp q n) refl
  where
    by : (b : Bool) → eq_by_cmp nat_cmp q n ≡ b
        → stamp_in (cond b (option_map (λ own. insert own c t) (get places q)) (get places q)) d
        ≡ (if b && eq_by_cmp cell_cmp d c then Some t else stamp_at places q d)
    by true e = restamped (get places q) c d t u ((λ i. stamp_in (get places (same-is q n e i)) c) ∙ there)
    by false e = refl

-- and the same cells have a place
pub places-with_place_stamp : (places : FinMap nat_cmp Places) (n : ℕ) (c : Cell) (t u : ℕ) → stamp_at places n c ≡ Some u
    → HaveSamePlaces places (with_place_stamp n c t places)
places-with_place_stamp places n c t u there q d =
    has-stamp (with_place_stamp n c t places) q d ∙ ap is_some (stamps-with_place_stamp places n c t u there q d)
    ∙ by (eq_by_cmp nat_cmp q n) (eq_by_cmp cell_cmp d c) refl refl
  where
    by : (a b : Bool) → eq_by_cmp nat_cmp q n ≡ a → eq_by_cmp cell_cmp d c ≡ b
        → is_some (if a && b then Some t else stamp_at places q d) ≡ has_place places q d
    by true true e f = sym (has-stamp places q d ∙ ap is_some ((λ i. stamp_at places (same-is q n e i) (same-cell d c f i)) ∙ there))
    by true false e f = sym (has-stamp places q d)
    by false b e f = sym (has-stamp places q d)

-- stamps that are the same everywhere are right where the others are
pub stamped-alike : (made : ℕ) (old new : Stamps) (ss : List Segment) → ((q : ℕ) (d : Cell) → new q d ≡ old q d) → AreStamped made old ss
    → AreStamped made new ss
stamped-alike made old new ss alike is = stamped-fewer made old new ss (λ q d t there. sym (alike q d) ∙ there) is

-- ---- what has no record

-- a cell without a place has none
unrecorded-parts : (places : FinMap nat_cmp Places) (q : ℕ) (d : Cell) (parts : List OldPart) → has_place places q d ≡ false
    → CanAllBePut places parts → is_noted q d parts ≡ false
unrecorded-parts places q d [] gone can = refl
unrecorded-parts places q d (part ∷ parts) gone can = by (unrecorded-parts places q d parts gone can.1) (is_of q d part) refl
  where
    by : is_noted q d parts ≡ false → (b : Bool) → is_of q d part ≡ b → (b || is_noted q d parts) ≡ false
    by rest true e =
        let is = is_of-is q d part e in
        absurd (true≢false (sym ((λ i. has_place places (is.0 i) (is.1 i)) ∙ can.0.placed) ∙ gone))
    by rest false e = rest

unrecorded : (places : FinMap nat_cmp Places) (top q : ℕ) (d : Cell) (ss : List Segment) → has_place places q d ≡ false → IsSound places top ss
    → IsUnnoted q d ss
unrecorded places top q d [] gone sound = tt
unrecorded places top q d (s ∷ ss) gone sound =
    (unrecorded-parts places q d s.records gone sound.2, unrecorded places s.next q d ss gone sound.3)

-- nor has one of an object that is new
newer-parts : (top q : ℕ) (d : Cell) (parts : List OldPart) → top ≤ q → AllByRecursion (λ part. part.number < top) parts
    → is_noted q d parts ≡ false
newer-parts top q d [] new lower = refl
newer-parts top q d (part ∷ parts) new lower = by (newer-parts top q d parts new lower.1) (is_of q d part) refl
  where
    by : is_noted q d parts ≡ false → (b : Bool) → is_of q d part ≡ b → (b || is_noted q d parts) ≡ false
    by rest true e = let is = (is_of-is q d part e).0 in let less = lower.0 in absurd (omega arith)
    by rest false e = rest

newer : (places : FinMap nat_cmp Places) (top q : ℕ) (d : Cell) (ss : List Segment) → top ≤ q → IsSound places top ss → IsUnnoted q d ss
newer places top q d [] new sound = tt
newer places top q d (s ∷ ss) new sound =
    let lower = sound.0 in
    (newer-parts s.next q d s.records (omega arith) sound.1, newer places s.next q d ss (omega arith) sound.3)

-- ---- a place more, an object more, objects taken away, other objects

-- a place is made
pub stamped-placed : (made top : ℕ) (old new : FinMap nat_cmp Places) (ss : List Segment) → IsSound old top ss → KeepStamps old new
    → AreStamped made (stamp_at old) ss → AreStamped made (stamp_at new) ss
stamped-placed made top old new ss sound theirs is =
    stamped-more made (stamp_at old) (stamp_at new) ss fresh (λ q d t u there was. by-same q d t u was (theirs q d t there)) is
  where
    by-same : (q : ℕ) (d : Cell) (t u : ℕ) → stamp_at old q d ≡ Some u
        → (stamp_at old q d ≡ Some t) ⊎ ((stamp_at old q d ≡ None) × (t ≡ 0)) → u ≡ t
    by-same q d t u was (inl kept) = cc
    by-same q d t u was (inr made) = let none = made.0 in cc

    by-fresh : (q : ℕ) (d : Cell) (t : ℕ) → stamp_at old q d ≡ None
        → (stamp_at old q d ≡ Some t) ⊎ ((stamp_at old q d ≡ None) × (t ≡ 0)) → t ≡ 0
    by-fresh q d t none (inl kept) = cc
    by-fresh q d t none (inr made) = made.1

    fresh : (q : ℕ) (d : Cell) (t : ℕ) → stamp_at new q d ≡ Some t → stamp_at old q d ≡ None → (t ≡ 0) × IsUnnoted q d ss
    fresh q d t there none =
        (by-fresh q d t none (theirs q d t there), unrecorded old top q d ss (has-stamp old q d ∙ ap is_some none) sound)

-- an object is made
pub stamped-created : (made next : ℕ) (places : FinMap nat_cmp Places) (own : Places) (ss : List Segment) → IsSound places next ss
    → HasZeroStamps own → AreStamped made (stamp_at places) ss → AreStamped made (stamp_at (insert places next own)) ss
stamped-created made next places own ss sound zeros is = record {
  serials = is.serials;
  each = λ q d t there.
      by q d t (eq_by_cmp nat_cmp q next) refl (sym (ap (λ o. stamp_in o d) (get-insert nat_cmp_total places next own q)) ∙ there);
}
  where
    by : (q : ℕ) (d : Cell) (t : ℕ) (b : Bool) → eq_by_cmp nat_cmp q next ≡ b → stamp_in (cond b (Some own) (get places q)) d ≡ Some t
        → IsStamp (made + 1) q d t ss
    by q d t true e there =
        let at = same-is q next e in
        subst (λ u. IsStamp (made + 1) q d u ss) (sym (zeros d t there))
        (stamp-new ss (made + 1) q d is.serials (newer places next q d ss (omega arith) sound))
    by q d t false e there = is.each q d t there

below-in : {X : Type 0} (read : Option Places → X) (next : ℕ) (places : FinMap nat_cmp Places) (q : ℕ)
    → read (get (places_below next places) q) ≡ read (cond (nat_lt q next) (get places q) None)
below-in read next places q =
    ap read (get-retain_keys places (λ number. nat_lt number next) q (λ x t. ap (λ n. nat_lt n next) (sym (nat_cmp-IsAntisymmetric q x t))))

-- objects are taken away
pub stamped-below : (made next : ℕ) (places : FinMap nat_cmp Places) (ss : List Segment) → AreStamped made (stamp_at places) ss
    → AreStamped made (stamp_at (places_below next places)) ss
stamped-below made next places ss is =
    stamped-fewer made (stamp_at places) (stamp_at (places_below next places)) ss
    (λ q d t there. by q d t (nat_lt q next) (sym (below-in (λ o. stamp_in o d) next places q) ∙ there)) is
  where
    by : (q : ℕ) (d : Cell) (t : ℕ) (b : Bool) → stamp_in (cond b (get places q) None) d ≡ Some t → stamp_at places q d ≡ Some t
    by q d t true there = there
    by q d t false there = cc

-- all objects are others, and no savepoint is held
pub stamped-afresh : (made : ℕ) (places : FinMap nat_cmp Places) → HaveZeroStamps places → AreStamped made (stamp_at places) []
stamped-afresh made places zeros = stamped-replaced made (stamp_at places) (λ q d t there. by q d t (get places q) refl there)
  where
    by : (q : ℕ) (d : Cell) (t : ℕ) (o : Option Places) → get places q ≡ o → stamp_in o d ≡ Some t → t ≡ 0
    by q d t None e there = cc
    by q d t (Some own) e there = zeros q own e d t there

-- ---- a change that is noted

-- its place gets the newest serial, and the record the stamp that it had
pub stamped-noted : (made limit serial : ℕ) (places : FinMap nat_cmp Places) (ss : List Segment) (part : OldPart)
    → stamp_at places part.number part.cell ≡ Some part.stamp → serial_for part.number ss ≡ Some serial → AreStamped made (stamp_at places) ss
    → AreStamped made (stamp_at (with_place_stamp part.number part.cell serial places)) (note_in limit part ss)
stamped-noted made limit serial places ss part stood due is =
    stamped-alike made (stamps.with_stamp part.number part.cell serial (stamp_at places)) _ (note_in limit part ss)
    (stamps-with_place_stamp places part.number part.cell serial part.stamp stood)
    (subst (λ t. AreStamped made (stamps.with_stamp part.number part.cell t (stamp_at places)) (note_in limit part ss))
    (stamp_after-some part.number part.stamp serial ss due) (stamped-changed made limit (stamp_at places) ss part stood is))

-- a record is made
pub notes-change : (old new : Stored) (j after : Held) (n : ℕ) (c : Cell) (was : Option Present) (stamp serial : ℕ)
    → new ≡ record old { places = with_place_stamp n c serial old.places } → stamp_at old.places n c ≡ Some stamp
    → serial_for n j.segments ≡ Some serial → AreStamped j.marks (stamp_at old.places) j.segments
    → after ≡ record j { segments = note_in j.record_limit (record_of n c was stamp) j.segments } → NotesChange old new j after n c was
notes-change old new j after n c was stamp serial changed had due is recorded = record {
  stamp = stamp;
  had = had;
  objects = ap (λ (s : Stored). s.objects) changed;
  ticks = ap (λ (s : Stored). s.ticks) changed;
  places = ap (λ (s : Stored). s.places) changed
      ∙ ap (λ t. with_place_stamp n c t old.places) (sym (stamp_after-some n stamp serial j.segments due));
  recorded = recorded;
  stamped = subst (λ (x : Stored × Held). AreStamped x.1.marks (stamp_at x.0.places) x.1.segments)
      (λ i. (sym changed i, sym recorded i))
      (stamped-noted j.marks j.record_limit serial old.places j.segments (record_of n c was stamp) had due is);
}

-- a place gets the stamp that it has
own-stamp : (places : FinMap nat_cmp Places) (n : ℕ) (c : Cell) (t : ℕ) → stamp_at places n c ≡ Some t → with_place_stamp n c t places ≡ places
own-stamp places n c t had =
    same_map nat_cmp_total nat_cmp-IsAntisymmetric _ _
    (λ q. get-adjust nat_cmp_total places n (λ own. insert own c t) q ∙ by q (eq_by_cmp nat_cmp q n) refl)
  where
    there : (o : Option Places) → stamp_in o c ≡ Some t → option_map (λ own. insert own c t) o ≡ o
    there None e = refl
    there (Some own) e = ap Some (insert-own own c t e)

    by : (q : ℕ) (b : Bool) → eq_by_cmp nat_cmp q n ≡ b
        → cond b (option_map (λ own. insert own c t) (get places q)) (get places q) ≡ get places q
    by q true e = there (get places q) ((λ i. stamp_at places (same-is q n e i) c) ∙ had)
    by q false e = refl

-- none is due
pub notes-nothing : (old : Stored) (j : Held) (n : ℕ) (c : Cell) (was : Option Present) (stamp : ℕ) → stamp_at old.places n c ≡ Some stamp
    → stamp_after n stamp j.segments ≡ stamp → note_in j.record_limit (record_of n c was stamp) j.segments ≡ j.segments
    → AreStamped j.marks (stamp_at old.places) j.segments → NotesChange old old j j n c was
notes-nothing old j n c was stamp had same kept is = record {
  stamp = stamp;
  had = had;
  objects = refl;
  ticks = refl;
  places = sym (ap (λ t. with_place_stamp n c t old.places) same ∙ own-stamp old.places n c stamp had);
  recorded = λ i. record j { segments = sym kept i };
  stamped = is;
}

-- what was written stays so once it is noted
pub written-noted : (old mid new : Stored) (j after : Held) (n : ℕ) (c : Cell) (g : Value → Value) (was : Option Present)
    → IsWritten old mid n c g was → NotesChange mid new j after n c was → IsWritten old new n c g was
written-noted old mid new j after n c g was w noted = record {
  content = w.content;
  objects = noted.objects ∙ w.objects;
  values = ap values noted.objects ∙ w.values;
  kept = λ q d there. same q d ∙ w.kept q d there;
  placed = same n c ∙ w.placed;
  stood = w.stood;
  formed = w.formed;
  ticks = subst (λ ticks. HaveRisen old.ticks ticks was) (sym noted.ticks) w.ticks;
  filled = w.filled;
}
  where
    same : HaveSamePlaces mid.places new.places
    same q d =
        (λ i. has_place (noted.places i) q d)
        ∙ places-with_place_stamp mid.places n c (stamp_after n noted.stamp j.segments) noted.stamp noted.had q d

-- ---- a record that is put back

-- the stamp of a place that is there
pub the-stamp : (places : FinMap nat_cmp Places) (n : ℕ) (c : Cell) → has_place places n c ≡ true
    → (t : ℕ) × (stamp_at places n c ≡ Some t)
the-stamp places n c placed = by (stamp_at places n c) refl (sym (has-stamp places n c) ∙ placed)
  where
    by : (o : Option ℕ) → stamp_at places n c ≡ o → is_some o ≡ true → (t : ℕ) × (stamp_at places n c ≡ Some t)
    by None e there = absurd (true≢false (sym there))
    by (Some t) e there = (t, e)

-- the newest record's stamp is put back
pub stamped-put : (made : ℕ) (places : FinMap nat_cmp Places) (ss : List Segment) (part : OldPart) (t : ℕ)
    → stamp_at places part.number part.cell ≡ Some t → newest_record ss ≡ Some part → HaveDistinctCells ss
    → AreStamped made (stamp_at places) ss
    → AreStamped made (stamp_at (with_place_stamp part.number part.cell part.stamp places)) (but_newest_record ss)
stamped-put made places ss part t stood newest distinct is =
    stamped-alike made (stamps.with_stamp part.number part.cell part.stamp (stamp_at places)) _ (but_newest_record ss)
    (stamps-with_place_stamp places part.number part.cell part.stamp t stood)
    (stamped-taken made (stamp_at places) ss part newest distinct (ap is_some stood) is)

-- and all are: the savepoint ends, and what was made since goes
pub stamped-back : (next : ℕ) (places : FinMap nat_cmp Places) (was j after : Held) → AreStamped j.marks (stamp_at places) j.segments
    → j ≡ record was { segments = emptied was.segments } → after ≡ record j { segments = drop 1 j.segments }
    → AreStamped after.marks (stamp_at (places_below next places)) after.segments
stamped-back next places was j after is empty ended =
    subst (λ (h : Held). AreStamped h.marks (stamp_at (places_below next places)) h.segments) (sym ended)
    (stamped-ended j.marks (stamp_at (places_below next places)) j.segments
    (ap (λ (h : Held). newest_record h.segments) empty ∙ bare was.segments) (stamped-below j.marks next places j.segments is))
  where
    bare : (ss : List Segment) → newest_record (emptied ss) ≡ None
    bare [] = refl
    bare (s ∷ ss) = refl
