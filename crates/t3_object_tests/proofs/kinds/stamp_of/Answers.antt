use Rattle.t3_undo.proofs.SlotLists.{placed-made}
use Rattle.t3_object_tests.proofs.kinds.stamp_of.Goals as goal

pub stamp-requires : goal.stamp-requires
stamp-requires g c =
    placed-made (g.M.Metaclass.places c.args.object.now) (g.M.Metaclass.places c.make_place.new.self) c.in_ok-copy.field-0
    c.args.cell.now c.in_ok-make_place.ensures.ok c.in_ok-copy.ensures
