use Rattle.std.proofs.Common.{get_or, sym, ap, ◌∙◌}
use Rattle.std.proofs.lemmas.List.{drop_more}
use Rattle.std.proofs.Math.ListN.{drop_of_length-le}
use Rattle.t3_holder.specs.declared.holder.Holder.TheVariants.{Nil}
use Rattle.t3_ops.specs.Builtins.{best_of}
use Rattle.t3_ops.proofs.Bests.{best-more, best-fault, best-end}
use Rattle.t3_ops.proofs.builtins.extremes.best.Goals as goal

pub returns-in-Err-clause-made : goal.returns-in-Err-clause-made
returns-in-Err-clause-made c =
    let others = c.args.others.now in
    let index = c.loop-other.other-index in
    best-fault c.args.greatest c.args.pools.now.constants c.args.store.now.store others index c.loop-other.best (get_or others index Nil)
    c.in-Err.fault (drop_more others index Nil c.loop-other-test.true) c.in-Err.ensures
    ∙ c.loop-other.invariant

pub loop-other-preserved : goal.loop-other-preserved
loop-other-preserved c =
    let others = c.args.others.now in
    let index = c.loop-other.other-index in
    best-more c.args.greatest c.args.pools.now.constants c.args.store.now.store others index c.loop-other.best (get_or others index Nil)
    c.better-best.result c.in-Ok.order (drop_more others index Nil c.loop-other-test.true) c.in-Ok.ensures c.better-best.ensures
    ∙ c.loop-other.invariant

pub returns-clause-made : goal.returns-clause-made
returns-clause-made c =
    let others = c.args.others.now in
    let index = c.loop-other.other-index in
    let pool = c.args.pools.now.constants in
    let store = c.args.store.now.store in
    best-end c.args.greatest pool store c.loop-other.best
    ∙ ap (λ l. best_of c.args.greatest pool store l c.loop-other.best) (sym (drop_of_length-le others c.loop-other-test.false))
    ∙ c.loop-other.invariant
