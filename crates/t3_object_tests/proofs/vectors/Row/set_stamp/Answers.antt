use Rattle.t3_undo.specs.declared.cell.Cell.TheVariants as cells
use Rattle.t3_lists.specs.Vector.{places_of}
use Rattle.t3_object_tests.proofs.Places.{stamped-places}
use Rattle.t3_object_tests.proofs.vectors.Row.set_stamp.Goals as goal

pub invariant_of-self : goal.invariant_of-self
invariant_of-self c =
    let old = places_of c.args.self.now.vector in
    let new = places_of c.set_stamp.new.self in
    let cell = cells.Elem c.args.number in
    record { placed = stamped-places old new cell c.args.stamp c.args.self.now.count c.args.self.now.placed c.set_stamp.ensures.places }
