use Rattle.t3_store.specs.Inner.Shapes.{Stored, values}
use Rattle.std.proofs.Common.{subst, ◌≤◌}
use Rattle.std.specs.FinMap.{get, len}
use Rattle.t3_store.specs.Value.{cells_at}
use Rattle.t3_store.specs.Inner.Bounded.{parts_under}
use Rattle.t3_store.specs.Inner.Entries.{things_of}
use Rattle.t3_store.proofs.CellCounts.{under-cells}
use Rattle.t3_store.proofs.object_map.ObjectMap.places.Goals as goal

pub returns-in-Some-clause-cells : goal.returns-in-Some-clause-cells
returns-in-Some-clause-cells c =
    subst (λ (s : Stored). len (parts_under s.objects c.args.number) ≤ cells_at (get (values s.objects) c.args.number)) c.self.view_is
    (under-cells (things_of c.self.inside.entries.items) c.args.number c.self.invariant.valid)

pub returns-in-None-clause-cells : goal.returns-in-None-clause-cells
returns-in-None-clause-cells c =
    subst (λ (s : Stored). len (parts_under s.objects c.args.number) ≤ cells_at (get (values s.objects) c.args.number)) c.self.view_is
    (under-cells (things_of c.self.inside.entries.items) c.args.number c.self.invariant.valid)
