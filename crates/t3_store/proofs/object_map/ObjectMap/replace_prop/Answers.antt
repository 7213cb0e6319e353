use Rattle.std.proofs.Common.{◌∙◌, ap, sym, subst, refl, inl, is_some, arith}
use Rattle.std.specs.FinMap.{get}
use Rattle.t3_undo.specs.Content.{shown}
use Rattle.t3_undo.specs.declared.cell.Cell.TheVariants as cells
use Rattle.t3_undo.specs.declared.content.Content.TheVariants as contents
use Rattle.t3_store.specs.Value.{with_cell, holder_at}
use Rattle.t3_store.specs.Inner.Shapes.{Stored, values, has_place, AreWithin}
use Rattle.t3_tables.specs.Entries.{risen}
use Rattle.t3_store.specs.Inner.Store.{IsWritten}
use Rattle.t3_store.specs.Inner.Entries.{things_of, places_in, ticks_in}
use Rattle.t3_undo.specs.Objects.{part_at}
use Rattle.t3_store.specs.Inner.Bounded.{IsPlaced}
use Rattle.t3_store.proofs.NoGaps.{filled-prop}
use Rattle.t3_store.proofs.OwnPlaces.{present-again}
use Rattle.t3_store.proofs.KindValues.{no-tick-prop}
use Rattle.t3_store.proofs.Ticks.{within-more, risen-least}
use Rattle.t3_store.proofs.Replacing.{values-after, valid-after, units-after}
use Rattle.t3_store.proofs.object_map.ObjectMap.replace_prop.Goals as goal

pub invariant_of-self : goal.invariant_of-self
invariant_of-self c =
    let things = things_of c.self.inside.entries.items in
    let e = c.replace_prop.ensures in
    record {
      rising = e.rising;
      counted = c.self.invariant.counted
          ∙ units-after things _ c.args.number c.args.property c.args.value (shown c.replace_prop.result) c.self.invariant.valid e.value e.formed e.set e.kept;
      valid = valid-after things _ c.args.number c.args.property c.args.value (shown c.replace_prop.result) c.self.invariant.valid e.value e.formed e.set
          e.kept;
    }

pub returns-clause-value : goal.returns-clause-value
returns-clause-value c = c.replace_prop.ensures.value ∙ λ i. holder_at (get (values (c.self.view_is i).objects) c.args.number) (cells.Prop c.args.property)

pub returns-clause-written : goal.returns-clause-written
returns-clause-written c some =
    let cell = cells.Prop c.args.property in
    let was = shown c.replace_prop.result in
    let things = things_of c.self.inside.entries.items in
    let e = c.replace_prop.ensures in
    let items = c.replace_prop.new.entries.items in
    let new : Stored = record { objects = things_of items; places = places_in items; ticks = ticks_in items } in
    subst (λ (s : Stored). IsWritten s new c.args.number cell (with_cell cell c.args.value) was) c.self.view_is (record {
      content = shown (contents.Held c.args.value);
      objects = e.set some;
      values = values-after things _ c.args.number c.args.property c.args.value was c.self.invariant.valid e.value e.formed e.set e.kept some;
      kept = λ number other placed. ap (λ places. has_place places number other) e.places ∙ placed;
      placed = ap (λ places. has_place places c.args.number cell) e.places ∙ e.placed some;
      stood = e.old some;
      formed = e.formed;
      ticks = λ bound all.
          let none = no-tick-prop cell was refl e.formed in (
            omega (arith, none),
            subst (AreWithin (risen bound was)) (sym e.ticks) (within-more bound (risen bound was) _ (risen-least bound was) all),
          );
      filled = filled-prop things c.args.number c.args.property;
    })

pub returns-clause-placed : goal.returns-clause-placed
returns-clause-placed c some =
    let cell = cells.Prop c.args.property in
    let things = things_of c.self.inside.entries.items in
    let e = c.replace_prop.ensures in
    let was = sym (ap is_some (e.old some)) ∙ some in
    let items = c.replace_prop.new.entries.items in
    let new : Stored = record { objects = things_of items; places = places_in items; ticks = ticks_in items } in
    subst (λ (s : Stored). IsPlaced s new c.args.number cell) c.self.view_is (record {
      present = ap (λ m. is_some (part_at m c.args.number cell)) (e.set some) ∙ present-again things c.args.number cell _ was refl;
      made = inl (was, e.places);
    })

pub returns-clause-kept : goal.returns-clause-kept
returns-clause-kept c none =
    (λ i. record {
      objects = c.replace_prop.ensures.kept none i;
      places = c.replace_prop.ensures.places i;
      ticks = c.replace_prop.ensures.ticks i;
    }) ∙ c.self.view_is
