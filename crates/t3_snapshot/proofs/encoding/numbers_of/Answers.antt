use Rattle.std.proofs.Common.{sym, subst}
use Rattle.t3_snapshot.proofs.Walk.{walk_starts, walk_more, all_walked, IsWalked}
use Rattle.t3_snapshot.proofs.encoding.numbers_of.Goals as goal

pub loop-next-init : goal.loop-next-init
loop-next-init c = subst (λ ns. IsWalked c.args.state.now ns 0) (sym c.new-numbers.ensures.items) (walk_starts c.args.state.now c.requires)

pub loop-next-preserved : goal.loop-next-preserved
loop-next-preserved c =
    subst (λ ns. IsWalked c.args.state.now ns c.in-Some.next) (sym c.in_ok-push.ensures.items)
    (walk_more c.args.state.now _ _ _ c.loop-next.invariant c.in-Some.ensures)

pub returns : goal.returns
returns c = all_walked c.args.state.now _ _ c.loop-next.invariant c.in_default.ensures
