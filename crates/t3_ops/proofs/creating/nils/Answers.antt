use Rattle.std.proofs.Common.{◌++◌, [], ◌∷◌, ap, ◌∙◌}
use Rattle.t3_holder.specs.declared.holder.Holder.TheVariants.{Nil}
use Rattle.t3_ops.proofs.Creations.{replicate-push}
use Rattle.t3_ops.proofs.creating.nils.Goals as goal

pub loop-preserved : goal.loop-preserved
loop-preserved c =
    c.in_ok-push.ensures.items
    ∙ ap (λ l. l ++ Nil ∷ []) c.loop.invariant
    ∙ replicate-push c.loop.counter Nil
