use Rattle.std.proofs.Common.{◌≡◌, ◌∙◌, ◌+◌, ap, sym, subst, None, IsTrue, arith}
use Rattle.std.specs.FinMap.{get}
use Rattle.t3_undo.specs.Content.{shown}
use Rattle.t3_undo.specs.Objects.{set_cell}
use Rattle.t3_store.specs.Value.{units_in, can_lose_at}
use Rattle.t3_undo.specs.Units.{cell_units}
use Rattle.t3_store.specs.Inner.Shapes.{Stored, values, AreWithin}
use Rattle.t3_tables.specs.Entries.{risen}
use Rattle.t3_store.specs.Inner.Valid.{AreValid}
use Rattle.t3_store.specs.Inner.Entries.{things_of}
use Rattle.t3_store.proofs.MapValues.{values-without, present-can_at}
use Rattle.t3_store.proofs.NoGaps.{filled-below}
use Rattle.t3_store.proofs.Counting.{take-counted}
use Rattle.t3_store.proofs.Ticks.{within-more, risen-least, least}
use Rattle.t3_store.proofs.Validity.{valid-less, can-lose-form}
use Rattle.t3_store.proofs.object_map.ObjectMap.take.Goals as goal

pub put-old-requires-clause-form : goal.put-old-requires-clause-form
put-old-requires-clause-form c = can-lose-form (get (values c.args.self.now.objects) c.args.number) c.args.cell.now c.requires.can

counted : (c : goal.After-cell_units) → units_in (values (things_of c.put-old.new.entries.items)) + cell_units c.args.cell.now ≡ c.self.inside.units
counted c =
    take-counted c.self.inside.entries.items _ c.args.self.now.objects c.args.number c.args.cell.now c.self.inside.units
    (ap (λ s. s.objects) c.self.view_is) c.put-old.ensures.things c.self.invariant.valid c.requires.present c.requires.can
    c.self.invariant.counted

pub overflow_cast-self : goal.overflow_cast-self
overflow_cast-self c = let all = counted c in omega (arith, c.cell_units.ensures)

pub overflow_sub-self : goal.overflow_sub-self
overflow_sub-self c = let all = counted c in omega (arith, c.cell_units.ensures)

pub invariant_of-self : goal.invariant_of-self
invariant_of-self c = record {
  rising = c.put-old.ensures.rising;
  counted =
      let all = take-counted c.self.inside.entries.items _ c.args.self.now.objects c.args.number c.args.cell.now c.self.inside.units
      (ap (λ s. s.objects) c.self.view_is) c.put-old.ensures.things c.self.invariant.valid c.requires.present c.requires.can
      c.self.invariant.counted in
      omega (arith, c.cell_units.ensures);
  valid = subst AreValid (sym c.put-old.ensures.things)
      (valid-less (things_of c.self.inside.entries.items) c.args.number c.args.cell.now c.self.invariant.valid
      (subst (λ (s : Stored). IsTrue (can_lose_at (get (values s.objects) c.args.number) c.args.cell.now)) (sym c.self.view_is) c.requires.can));
}

pub returns-clause-changed : goal.returns-clause-changed
returns-clause-changed c = record {
  content = None;
  objects = c.put-old.ensures.things ∙ ap (λ s. set_cell s.objects c.args.number c.args.cell.now None) c.self.view_is;
  places = c.put-old.ensures.places ∙ ap (λ s. s.places) c.self.view_is;
  values = ap values (c.put-old.ensures.things ∙ ap (λ s. set_cell s.objects c.args.number c.args.cell.now None) c.self.view_is)
      ∙ values-without c.args.self.now.objects c.args.number c.args.cell.now
      (subst (λ (s : Stored). AreValid s.objects) c.self.view_is c.self.invariant.valid) c.requires.can;
}

pub returns-clause-ticks : goal.returns-clause-ticks
returns-clause-ticks c bound all =
    let mine = subst (λ (s : Stored). AreWithin bound s.ticks) (sym c.self.view_is) all in (
      c.put-old.ensures.below bound mine,
      c.put-old.ensures.ticks (risen bound (shown c.put-old.result))
          (within-more bound (risen bound (shown c.put-old.result)) _ (risen-least bound (shown c.put-old.result)) mine)
          (least bound (shown c.put-old.result)),
    )

pub returns-clause-filled : goal.returns-clause-filled
returns-clause-filled c =
    filled-below c.args.self.now.objects c.args.number c.args.cell.now
    (subst (λ (s : Stored). AreValid s.objects) c.self.view_is c.self.invariant.valid)
    (present-can_at (get (values c.args.self.now.objects) c.args.number) c.args.cell.now c.requires.present)
