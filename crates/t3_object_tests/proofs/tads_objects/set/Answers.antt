use Rattle.std.proofs.Common.{ap, refl}
use Rattle.t3_undo.specs.declared.cell.Cell.TheVariants as cells
use Rattle.t3_undo.proofs.SlotLists.{placed-made}
use Rattle.t3_object_tests.proofs.tads_objects.set.Goals as goal

pub put-requires-clause-place : goal.put-requires-clause-place
put-requires-clause-place c =
    placed-made c.args.object.now.places c.make_place.new.self.places (cells.Prop c.args.number) (cells.Prop c.args.number)
    (ap (λ t. t.places) c.in_ok-make_place.ensures.ok) refl
