use Rattle.std.proofs.Common.{◌∙◌, sym}
use Rattle.std.proofs.lemmas.Map.Keys.{IsDistinct-from_sorted}
use Rattle.std.specs.FinMap.{len}
use Rattle.std.specs.Ordering.{nat_cmp}
use Rattle.t3_tadsobj.proofs.EntryLists.{len-places}
use Rattle.t3_tadsobj.proofs.object.TadsObjectMetaclass.places.Goals as goal

pub returns : goal.returns
returns c =
    c.len.ensures.len ∙ sym (len-places c.self.inside.props.entries (IsDistinct-from_sorted nat_cmp _ c.len.ensures.ordered))
    ∙ λ i. len (c.self.view_is i).places
