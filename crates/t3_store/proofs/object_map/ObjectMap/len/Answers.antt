use Rattle.std.proofs.Common.{◌∙◌, sym}
use Rattle.std.specs.FinMap.{len}
use Rattle.t3_store.specs.Inner.Shapes.{values}
use Rattle.t3_store.proofs.MapValues.{len-values}
use Rattle.t3_store.proofs.object_map.ObjectMap.len.Goals as goal

pub returns : goal.returns
returns c =
    c.len.ensures ∙ c.self.inside.entries.ok.0 ∙ sym (len-values c.self.inside.entries.items c.self.invariant.rising)
    ∙ λ i. len (values (c.self.view_is i).objects)
