use Rattle.std.proofs.Common.{ap}
use Rattle.t3_undo.proofs.SlotLists.{placed-made}
use Rattle.t3_object_tests.proofs.tried.TadsObjectTried.try_place.Goals as goal

pub returns : goal.returns
returns c = λ _.
    placed-made c.args.self.now.places c.make_place.new.self.places c.in_ok-copy.field-0 c.args.cell.now
    (ap (λ t. t.places) c.in_ok-make_place.ensures.ok) c.in_ok-copy.ensures
