use Rattle.std.proofs.Common.{◌∙◌, ap}
use Rattle.std.specs.Option.{option_and_then}
use Rattle.t3_undo.specs.Present.{value_in}
use Rattle.t3_store.specs.Value.{holder_at}
use Rattle.t3_store.proofs.KindValues.{held-value}
use Rattle.t3_store.proofs.MapValues.{found-value, no-value}
use Rattle.t3_store.proofs.object_map.ObjectMap.get.Goals as goal

pub returns-in-Some-clause-value : goal.returns-in-Some-clause-value
returns-in-Some-clause-value c =
    ap (option_and_then value_in) c.get.ensures.content
    ∙ held-value _ c.args.cell.now c.in-Some.ensures.valid
    ∙ ap (λ o. holder_at o c.args.cell.now) (found-value c.args.self.now.objects c.args.number _ c.in-Some.ensures.thing)

pub returns-in-None-clause-value : goal.returns-in-None-clause-value
returns-in-None-clause-value c =
    ap (λ o. holder_at o c.args.cell.now) (no-value c.args.self.now.objects c.args.number c.in-None.ensures.thing)
