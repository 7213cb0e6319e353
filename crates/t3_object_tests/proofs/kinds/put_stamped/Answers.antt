use Rattle.std.proofs.Common.{◌∙◌, refl}
use Rattle.std.specs.FinMap.{contains_key}
use Rattle.t3_undo.specs.Slots.{places_of}
use Rattle.t3_undo.specs.declared.cell.Cell.TheVariants as cells
use Rattle.t3_undo.proofs.SlotLists.{placed-made}
use Rattle.t3_object_tests.proofs.Places.{still-placed}
use Rattle.t3_object_tests.proofs.kinds.put_stamped.Goals as goal

pub set_stamp-requires : goal.set_stamp-requires
set_stamp-requires c =
    placed-made (places_of c.args.slots.now) (places_of c.make_place.new.self) (cells.Prop c.args.number) (cells.Prop c.args.number)
    c.in_ok-make_place.ensures.ok refl

pub put-old-requires-clause-place : goal.put-old-requires-clause-place
put-old-requires-clause-place c =
    let cell = cells.Prop c.args.number in
    (λ i. contains_key (c.set_stamp.ensures.places i) cell)
    ∙ still-placed (places_of c.make_place.new.self) cell cell c.args.stamp
    (placed-made (places_of c.args.slots.now) (places_of c.make_place.new.self) cell cell c.in_ok-make_place.ensures.ok refl)

pub stamp-requires : goal.stamp-requires
stamp-requires c =
    let cell = cells.Prop c.args.number in
    (λ i. contains_key (c.put-old.ensures.places i) cell) ∙ (λ i. contains_key (c.set_stamp.ensures.places i) cell)
    ∙ still-placed (places_of c.make_place.new.self) cell cell c.args.stamp
    (placed-made (places_of c.args.slots.now) (places_of c.make_place.new.self) cell cell c.in_ok-make_place.ensures.ok refl)
