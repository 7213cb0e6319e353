use Rattle.t3_undo.specs.declared.cell.Cell.TheVariants as cells
use Rattle.t3_undo.proofs.SlotLists.{placed-made}
use Rattle.t3_tables.specs.Table.{places_of}
use Rattle.t3_object_tests.proofs.tables.empty_place.Goals as goal

pub stamp-first-requires : goal.stamp-first-requires
stamp-first-requires c =
    placed-made (places_of c.args.table.now) (places_of c.make_place.new.self) c.in_ok-copy.field-0 (cells.Key c.args.key)
    c.in_ok-make_place.ensures.ok c.in_ok-copy.ensures

pub set_stamp-requires : goal.set_stamp-requires
set_stamp-requires c =
    placed-made (places_of c.args.table.now) (places_of c.make_place.new.self) c.in_ok-copy.field-0 (cells.Key c.args.key)
    c.in_ok-make_place.ensures.ok c.in_ok-copy.ensures
