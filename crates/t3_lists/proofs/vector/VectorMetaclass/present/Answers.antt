use Rattle.std.proofs.Common.{◌∙◌, sym}
use Rattle.std.specs.FinMap.{len}
use Rattle.t3_lists.specs.Vector.{parts_of, values_of}
use Rattle.t3_lists.proofs.ElementPurges.{len-parts}
use Rattle.t3_lists.proofs.vector.VectorMetaclass.present.Goals as goal

pub returns : goal.returns
returns c =
    c.from.ensures ∙ c.self.invariant.counted ∙ sym (len-parts (values_of c.self.inside.elements.items))
    ∙ λ i. len (parts_of (c.self.view_is i))
