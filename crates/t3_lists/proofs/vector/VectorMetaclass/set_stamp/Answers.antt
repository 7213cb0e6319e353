use Rattle.std.proofs.Common.{◌∙◌, ap, sym, is_some}
use Rattle.t3_lists.specs.Vector.{stamps_of, places_from}
use Rattle.t3_lists.specs.Inner.Elements.{index_of, stamp_in, restamped}
use Rattle.t3_lists.proofs.ElementLists.{contains-places, places-restamped}
use Rattle.t3_lists.proofs.vector.VectorMetaclass.set_stamp.Goals as goal

pub set_stamp-requires : goal.set_stamp-requires
set_stamp-requires c =
    (λ i. is_some (stamp_in (stamps_of (c.self.view_is i)) (index_of c.args.cell.now)))
    ∙ sym (contains-places (stamps_of c.args.self.now) c.args.cell.now) ∙ c.requires

pub returns-clause-places : goal.returns-clause-places
returns-clause-places c =
    ap (places_from 1) (c.set_stamp.ensures.stamps ∙ λ i. restamped (stamps_of (c.self.view_is i)) (index_of c.args.cell.now) c.args.stamp)
    ∙ places-restamped (stamps_of c.args.self.now) c.args.cell.now c.args.stamp
    (sym (contains-places (stamps_of c.args.self.now) c.args.cell.now) ∙ c.requires)
