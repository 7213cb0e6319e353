use Rattle.t3_undo.specs.declared.cell.Cell.TheVariants as cells
use Rattle.t3_undo.proofs.SlotLists.{placed-made}
use Rattle.t3_tables.specs.Table.{places_of}
use Rattle.t3_object_tests.proofs.tables.put.Goals as goal

pub put-requires-clause-place : goal.put-requires-clause-place
put-requires-clause-place c =
    placed-made (places_of c.args.table.now) (places_of c.make_place.new.self) c.in_ok-copy.field-0 (cells.Key c.args.key)
    c.in_ok-make_place.ensures.ok c.in_ok-copy.ensures
