use Rattle.std.proofs.Common.{◌∙◌, sym, is_some}
use Rattle.t3_lists.specs.Vector.{stamps_of}
use Rattle.t3_lists.specs.Inner.Elements.{index_of, stamp_in}
use Rattle.t3_lists.proofs.ElementLists.{contains-places}
use Rattle.t3_lists.proofs.ElementStamps.{get-places}
use Rattle.t3_lists.proofs.vector.VectorMetaclass.stamp.Goals as goal

pub stamp_at-requires : goal.stamp_at-requires
stamp_at-requires c =
    (λ i. is_some (stamp_in (stamps_of ((c.deref.ensures.value ∙ c.self.view_is) i)) (index_of c.args.cell.now)))
    ∙ sym (contains-places (stamps_of c.args.self.now) c.args.cell.now) ∙ c.requires

pub returns : goal.returns
returns c =
    get-places (stamps_of c.args.self.now) c.args.cell.now
    ∙ (λ i. stamp_in (stamps_of (sym (c.deref.ensures.value ∙ c.self.view_is) i)) (index_of c.args.cell.now)) ∙ c.stamp_at.ensures
