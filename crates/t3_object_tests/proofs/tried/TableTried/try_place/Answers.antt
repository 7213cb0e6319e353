use Rattle.t3_undo.proofs.SlotLists.{placed-made}
use Rattle.t3_tables.specs.Table.{places_of}
use Rattle.t3_object_tests.proofs.tried.TableTried.try_place.Goals as goal

pub returns : goal.returns
returns c = λ _.
    placed-made (places_of c.args.self.now) (places_of c.make_place.new.self) c.in_ok-copy.field-0 c.args.cell.now
    c.in_ok-make_place.ensures.ok c.in_ok-copy.ensures
