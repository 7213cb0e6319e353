use Rattle.std.proofs.Common.{◌≡◌, ◌∙◌, ◌+◌, ◌-◌, ◌^◌, ap, sym, subst, List, None, is_some, arith}
use Rattle.std.specs.FinMap.{get}
use Rattle.t3_undo.specs.Content.{shown}
use Rattle.t3_undo.specs.Objects.{set_cell, part_at}
use Rattle.t3_store.specs.Value.{units_in, holder_at, can_have_at}
use Rattle.t3_store.specs.Inner.Shapes.{Stored, values, AreWithin}
use Rattle.t3_tables.specs.Entries.{risen}
use Rattle.t3_store.specs.Inner.Valid.{AreValid}
use Rattle.t3_store.specs.Inner.Entries.{things_of, ticks_in}
use Rattle.t3_store.specs.declared.entries.Entry.{Entry}
use Rattle.t3_store.specs.Inner.Bounded.{IsFilledBelow}
use Rattle.t3_store.proofs.NoGaps.{filled-below}
use Rattle.t3_store.proofs.OwnPlaces.{present-set}
use Rattle.t3_store.proofs.Counting.{set-counted, set-absent}
use Rattle.t3_store.proofs.Ticks.{within-more, risen-least}
use Rattle.t3_store.proofs.object_map.ObjectMap.set.Goals as goal

pub content_with-content-requires-clause-room : goal.content_with-content-requires-clause-room
content_with-content-requires-clause-room c =
    subst (λ (es : List Entry). AreWithin (2 ^ 64 - 2) (ticks_in es)) (sym c.deref.ensures.value)
    (subst (λ (s : Stored). AreWithin (2 ^ 64 - 2) s.ticks) (sym c.self.view_is) c.requires.few)

pub overflow_cast-self : goal.overflow_cast-self
overflow_cast-self c =
    let none : holder_at (get (values c.args.self.now.objects) c.args.number) c.args.cell.now ≡ None =
    set-absent c.self.inside.entries.items c.args.self.now.objects c.args.number c.args.cell.now _ (ap (λ s. s.objects) c.self.view_is)
    c.self.invariant.valid c.put-old.ensures.old (sym c.is_present.ensures ∙ c.if-not-is_present.true) in
    let room = c.requires.room none in
    omega (arith, c.cell_units.ensures)

pub overflow_add-self : goal.overflow_add-self
overflow_add-self c =
    let none : holder_at (get (values c.args.self.now.objects) c.args.number) c.args.cell.now ≡ None =
    set-absent c.self.inside.entries.items c.args.self.now.objects c.args.number c.args.cell.now _ (ap (λ s. s.objects) c.self.view_is)
    c.self.invariant.valid c.put-old.ensures.old (sym c.is_present.ensures ∙ c.if-not-is_present.true) in
    let room = c.requires.room none in
    let same = ap (λ s. units_in (values s.objects)) c.self.view_is in
    let counted = c.self.invariant.counted in
    omega (arith, c.cell_units.ensures)

pub invariant_of-self : goal.invariant_of-self
invariant_of-self c = record {
  rising = c.put-old.ensures.rising;
  counted = ap (λ n. c.self.inside.units + n) c.cell_units.ensures
      ∙ set-counted c.self.inside.entries.items _ _ c.args.self.now.objects c.args.number c.args.cell.now c.args.value _ _ _ _
      (ap (λ s. s.objects) c.self.view_is) c.deref.ensures.value c.put-old.ensures.things c.content_with-content.ensures.set
      c.self.invariant.valid c.requires.can c.put-old.ensures.old c.self.invariant.counted
      (sym c.is_present.ensures ∙ c.if-not-is_present.true);
  valid = subst AreValid (sym c.put-old.ensures.things)
      (subst (λ (es : List Entry). AreValid (set_cell (things_of es) c.args.number c.args.cell.now (shown c.content_with-content.result)))
      c.deref.ensures.value c.content_with-content.ensures.valid);
}

pub invariant_of-self-else-not-is_present : goal.invariant_of-self-else-not-is_present
invariant_of-self-else-not-is_present c = record {
  rising = c.put-old.ensures.rising;
  counted = set-counted c.self.inside.entries.items _ _ c.args.self.now.objects c.args.number c.args.cell.now c.args.value _ _ _ _
      (ap (λ s. s.objects) c.self.view_is) c.deref.ensures.value c.put-old.ensures.things c.content_with-content.ensures.set
      c.self.invariant.valid c.requires.can c.put-old.ensures.old c.self.invariant.counted
      (sym c.is_present.ensures ∙ c.if-not-is_present.false);
  valid = subst AreValid (sym c.put-old.ensures.things)
      (subst (λ (es : List Entry). AreValid (set_cell (things_of es) c.args.number c.args.cell.now (shown c.content_with-content.result)))
      c.deref.ensures.value c.content_with-content.ensures.valid);
}

pub returns-then-not-is_present-clause-ticks : goal.returns-then-not-is_present-clause-ticks
returns-then-not-is_present-clause-ticks c bound all =
    let mine = subst (λ (s : Stored). AreWithin bound s.ticks) (sym c.self.view_is) all in
    let was = shown c.put-old.result in
    let content = c.content_with-content.ensures.tick bound (subst (λ (es : List Entry). AreWithin bound (ticks_in es)) (sym c.deref.ensures.value) mine) in
    let same : risen bound (part_at (things_of c.deref.result.now) c.args.number c.args.cell.now) ≡ risen bound was =
    ap (λ (es : List Entry). risen bound (part_at (things_of es) c.args.number c.args.cell.now)) c.deref.ensures.value
    ∙ ap (risen bound) (sym c.put-old.ensures.old) in (
      c.put-old.ensures.below bound mine,
      c.put-old.ensures.ticks (risen bound was) (within-more bound (risen bound was) _ (risen-least bound was) mine) (omega (arith, content, same)),
    )

pub returns-else-not-is_present-clause-ticks : goal.returns-else-not-is_present-clause-ticks
returns-else-not-is_present-clause-ticks c bound all =
    let mine = subst (λ (s : Stored). AreWithin bound s.ticks) (sym c.self.view_is) all in
    let was = shown c.put-old.result in
    let content = c.content_with-content.ensures.tick bound (subst (λ (es : List Entry). AreWithin bound (ticks_in es)) (sym c.deref.ensures.value) mine) in
    let same : risen bound (part_at (things_of c.deref.result.now) c.args.number c.args.cell.now) ≡ risen bound was =
    ap (λ (es : List Entry). risen bound (part_at (things_of es) c.args.number c.args.cell.now)) c.deref.ensures.value
    ∙ ap (risen bound) (sym c.put-old.ensures.old) in (
      c.put-old.ensures.below bound mine,
      c.put-old.ensures.ticks (risen bound was) (within-more bound (risen bound was) _ (risen-least bound was) mine) (omega (arith, content, same)),
    )

pub returns-then-not-is_present-clause-present : goal.returns-then-not-is_present-clause-present
returns-then-not-is_present-clause-present c =
    ap (λ m. is_some (part_at m c.args.number c.args.cell.now)) c.put-old.ensures.things
    ∙ present-set (things_of c.self.inside.entries.items) c.args.number c.args.cell.now _
    ((λ i. can_have_at (get (values (c.self.view_is i).objects) c.args.number) c.args.cell.now) ∙ c.requires.can)
    c.content_with-content.ensures.present

pub returns-then-not-is_present-clause-filled : goal.returns-then-not-is_present-clause-filled
returns-then-not-is_present-clause-filled c =
    subst (λ (s : Stored). IsFilledBelow s.objects c.args.number c.args.cell.now) c.self.view_is
    (filled-below (things_of c.self.inside.entries.items) c.args.number c.args.cell.now c.self.invariant.valid
    ((λ i. can_have_at (get (values (c.self.view_is i).objects) c.args.number) c.args.cell.now) ∙ c.requires.can))

pub returns-else-not-is_present-clause-present : goal.returns-else-not-is_present-clause-present
returns-else-not-is_present-clause-present c =
    ap (λ m. is_some (part_at m c.args.number c.args.cell.now)) c.put-old.ensures.things
    ∙ present-set (things_of c.self.inside.entries.items) c.args.number c.args.cell.now _
    ((λ i. can_have_at (get (values (c.self.view_is i).objects) c.args.number) c.args.cell.now) ∙ c.requires.can)
    c.content_with-content.ensures.present

pub returns-else-not-is_present-clause-filled : goal.returns-else-not-is_present-clause-filled
returns-else-not-is_present-clause-filled c =
    subst (λ (s : Stored). IsFilledBelow s.objects c.args.number c.args.cell.now) c.self.view_is
    (filled-below (things_of c.self.inside.entries.items) c.args.number c.args.cell.now c.self.invariant.valid
    ((λ i. can_have_at (get (values (c.self.view_is i).objects) c.args.number) c.args.cell.now) ∙ c.requires.can))
