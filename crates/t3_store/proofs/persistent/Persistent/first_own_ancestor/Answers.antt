use Rattle.std.proofs.Common.{◌∙◌, ap, subst, ℕ, List}
use Rattle.std.specs.Prelude.{IfOk, filter}
use Rattle.std.specs.FinMap.{keys}
use Rattle.std.proofs.lemmas.Result.{IfOk-weaker}
use Rattle.t3_tadsobj.specs.Cycles.{IsFirstCyclic}
use Rattle.t3_store.specs.Broken.{has_superclass}
use Rattle.t3_store.specs.Whole.{supers_in}
use Rattle.t3_store.proofs.FirstBroken.{least-own}
use Rattle.t3_store.proofs.persistent.Persistent.first_own_ancestor.Goals as goal

pub returns : goal.returns
returns c =
    let P : List ℕ → Type 0 = λ ns. IfOk c.first_cyclic.result (IsFirstCyclic (supers_in c.args.self.now) ns) in
    IfOk-weaker c.first_cyclic.result _ _ (least-own c.args.self.now)
    (subst P (c.deref-2.ensures.value ∙ c.in_ok-subclasses.ensures ∙ ap (filter (has_superclass (supers_in c.args.self.now)))
    (c.deref.ensures.value ∙ c.in_ok-numbers.ensures ∙ ap (λ o. keys o) c.self.view_is)) c.first_cyclic.ensures)
