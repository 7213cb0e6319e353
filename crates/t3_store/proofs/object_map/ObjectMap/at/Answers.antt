use Rattle.std.proofs.Common.{◌≡◌, ◌∙◌, ap, sym, refl, Option, Some, None, Bor}
use Rattle.std.specs.Option.{option_map}
use Rattle.t3_store.specs.declared.object.Object.{Object}
use Rattle.t3_store.specs.Inner.Shapes.{thing_of, value_of, value_under}
use Rattle.t3_store.proofs.MapValues.{get-values}
use Rattle.t3_store.proofs.object_map.ObjectMap.at.Goals as goal

under : (o : Option (Bor Object)) → value_under o ≡ option_map value_of (option_map (λ object. thing_of object.now) o)
under None = refl
under (Some object) = refl

pub returns : goal.returns
returns c =
    c.new.ensures ∙ under c.object.result ∙ ap (option_map value_of) c.object.ensures.thing
    ∙ sym (get-values c.args.self.now.objects c.args.number)
