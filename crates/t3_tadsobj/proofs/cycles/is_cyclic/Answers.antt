use Rattle.std.proofs.Common.{◌∙◌, ap, sym, Some}
use Rattle.t3_tadsobj.proofs.CycleRests.{not-open}
use Rattle.t3_tadsobj.proofs.cycles.is_cyclic.Goals as goal

pub returns-in-Some-Open-clause-tells : goal.returns-in-Some-Open-clause-tells
returns-in-Some-Open-clause-tells g c =
    absurd (not-open (g.S.Supers.supers_at c.args.view.now) _ _ _ _ c.args.number _ c.in_ok-visit.ensures.rests
    (sym c.get.ensures.value ∙ sym c.copied.ensures ∙ c.in-Some-Open.is ∙ ap Some c.in-Some-Open.field-0-is))
