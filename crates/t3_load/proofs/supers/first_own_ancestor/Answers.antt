use Rattle.std.proofs.lemmas.Result.{IfOk-weaker}
use Rattle.t3_load.proofs.WithSupers.{cyclic_of_all}
use Rattle.t3_load.proofs.supers.first_own_ancestor.Goals as goal

pub returns : goal.returns
returns c =
    IfOk-weaker c.first_cyclic.result _ _
    (cyclic_of_all c.args.objects.now c.as_slice.result.now c.in_ok-numbers.numbers.items c.deref.result.now
    c.as_slice.ensures.distinct c.as_slice.ensures.objects c.in_ok-numbers.ensures c.deref.ensures.value) c.first_cyclic.ensures
