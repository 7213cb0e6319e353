use Rattle.std.proofs.Common.{◌∙◌, sym, is_some}
use Rattle.t3_store.proofs.MapValues.{some-values, some-map}
use Rattle.t3_store.specs.Inner.Shapes.{thing_of}
use Rattle.t3_store.proofs.object_map.ObjectMap.has.Goals as goal

pub returns-clause-value : goal.returns-clause-value
returns-clause-value c =
    c.is_some.ensures ∙ sym (some-map (λ object. thing_of object.now) c.object.result)
    ∙ (λ i. is_some (c.object.ensures.thing i)) ∙ sym (some-values c.args.self.now.objects c.args.number)
