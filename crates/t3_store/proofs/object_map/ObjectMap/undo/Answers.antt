use Rattle.std.proofs.Common.{◌∙◌, ap, sym, subst, drop, arith}
use Rattle.std.specs.FinMap.{len}
use Rattle.t3_store.specs.Inner.Shapes.{Shape, Stored, values, stamp_at, AreWithin}
use Rattle.t3_undo.specs.Objects.{Objects, below, put_back}
use Rattle.t3_undo.specs.UndoLaw.{undone}
use Rattle.t3_store.specs.Value.{units_in}
use Rattle.t3_store.specs.Inner.Valid.{AreValid}
use Rattle.t3_store.specs.Inner.Entries.{things_of, stored_of}
use Rattle.t3_undo.specs.Stamps.{AreStamped}
use Rattle.t3_undo.specs.Journal.{newest_records}
use Rattle.t3_store.specs.Inner.Bounded.{parts_under, AreBounded, IsWithoutGaps}
use Rattle.t3_store.specs.Inner.Store.{CanEachBePut, IsSound}
use Rattle.t3_store.proofs.FewPlaces.{bounded-below}
use Rattle.t3_store.proofs.PlacesKept.{back-gaps, sound-cut}
use Rattle.t3_store.proofs.Purged.{can-each}
use Rattle.t3_store.proofs.Stamped.{stamped-back}
use Rattle.t3_store.proofs.Ticks.{within-below}
use Rattle.t3_store.proofs.Validity.{undone-is}
use Rattle.t3_store.proofs.MapValues.{len-values}
use Rattle.t3_store.proofs.object_map.ObjectMap.undo.Goals as goal

pub returns-clause-fewer : goal.returns-clause-fewer
returns-clause-fewer c =
    let now = len-values c.cut.new.entries.items c.cut.ensures.rising in
    let before = len-values c.self.inside.entries.items c.self.invariant.rising in
    let view = ap (λ (s : Stored). len (values s.objects)) c.self.view_is in
    omega (arith, c.cut.ensures.len, c.put_back.ensures.len)

pub invariant_of-self : goal.invariant_of-self
invariant_of-self c =
    let things = c.cut.ensures.things ∙ ap (below c.args.next) c.put_back.ensures.things
    ∙ undone-is (things_of c.self.inside.entries.items) c.args.journal.now.segments c.args.next c.requires.next
    ∙ ap (λ (s : Stored). undone s.objects c.args.journal.now.segments) c.self.view_is in
    record {
      rising = c.cut.ensures.rising;
      counted = c.requires.units ∙ ap (λ (m : Objects Shape). units_in (values m)) (sym things);
      valid = subst AreValid (sym things) c.requires.valid;
    }

pub returns-clause-ticks : goal.returns-clause-ticks
returns-clause-ticks c bound all records =
    subst (AreWithin bound) (sym c.cut.ensures.ticks)
    (within-below bound c.args.next _
    (c.put_back.ensures.ticks bound (subst (λ (s : Stored). AreWithin bound s.ticks) (sym c.self.view_is) all) records))

pub put_back-requires : goal.put_back-requires
put_back-requires c =
    let view = c.self.view_is in
    record {
      rising = c.self.invariant.rising;
      limit = c.requires.limit;
      can = subst (λ (s : Stored). CanEachBePut s.places c.args.journal.now.segments) (sym view)
          (can-each c.args.self.now.places c.args.next c.args.journal.now.segments c.requires.sound);
      stamped = subst (λ (s : Stored). AreStamped c.args.journal.now.marks (stamp_at s.places) c.args.journal.now.segments) (sym view)
          c.requires.stamped;
      bounded = subst (AreBounded c.args.record_limit) (sym view) c.requires.bounded;
      gaps = λ q noted.
          subst (λ (s : Stored). IsWithoutGaps q (parts_under (put_back s.objects (newest_records c.args.journal.now.segments)) q)
          (drop 1 c.args.journal.now.segments)) (sym view)
          (back-gaps c.args.self.now.objects c.args.journal.now.segments c.args.self.now.places c.args.next c.requires.next c.requires.sound
          c.requires.valid c.requires.gaps q noted);
    }

pub returns-clause-sound : goal.returns-clause-sound
returns-clause-sound c =
    subst (λ places. IsSound places c.args.next (drop 1 c.args.journal.now.segments)) (sym c.cut.ensures.places)
    (sound-cut c.args.self.now.places _ c.args.next c.args.journal.now.segments c.requires.next c.requires.sound c.put_back.ensures.can)

pub returns-clause-bounded : goal.returns-clause-bounded
returns-clause-bounded c =
    bounded-below c.args.record_limit c.args.next (stored_of c.put_back.new.entries.items) (stored_of c.cut.new.entries.items) c.cut.ensures.things c.cut.ensures.places
    c.put_back.ensures.bounded

pub returns-clause-stamped : goal.returns-clause-stamped
returns-clause-stamped c =
    subst (λ places. AreStamped c.take_mark-ended.new.self.marks (stamp_at places) c.take_mark-ended.new.self.segments)
    (sym c.cut.ensures.places)
    (stamped-back c.args.next _ c.args.journal.now c.put_back.new.journal _ c.put_back.ensures.stamped c.put_back.ensures.journal
    c.take_mark-ended.ensures.left)
