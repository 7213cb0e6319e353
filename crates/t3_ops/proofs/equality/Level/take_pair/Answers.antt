use Rattle.std.proofs.Common.{Option, sym, subst}
use Rattle.t3_holder.specs.declared.holder.Holder.{Holder}
use Rattle.t3_ops.specs.References.{elements_of}
use Rattle.t3_ops.specs.Inner.Walk.{pairs_of, TakesPair}
use Rattle.t3_ops.proofs.Contents.{pairs-more, pairs-left, pairs-right}
use Rattle.t3_ops.proofs.equality.Level.take_pair.Goals as goal

pub returns-in_err-left-clause-pair : goal.returns-in_err-left-clause-pair
returns-in_err-left-clause-pair c =
    let pool = c.args.pools.now.constants in
    let level = c.args.self.now in
    subst (λ (o : Option (Holder × Holder)). TakesPair (pairs_of pool level) o (pairs_of pool level)) (sym c.from_residual.ensures)
    (pairs-left (elements_of pool level.left) (elements_of pool level.right) level.next c.in_err-left.ensures.element)

pub returns-in_err-right-clause-pair : goal.returns-in_err-right-clause-pair
returns-in_err-right-clause-pair c =
    let pool = c.args.pools.now.constants in
    let level = c.args.self.now in
    subst (λ (o : Option (Holder × Holder)). TakesPair (pairs_of pool level) o (pairs_of pool level))
    (sym c.from_residual-in_err-right.ensures)
    (pairs-right (elements_of pool level.left) (elements_of pool level.right) level.next c.in_err-right.ensures.element)

pub returns-clause-pair : goal.returns-clause-pair
returns-clause-pair c =
    let level = c.args.self.now in
    let xs = elements_of c.args.pools.now.constants level.left in
    let ys = elements_of c.args.pools.now.constants level.right in
    pairs-more xs ys level.next c.in_ok-left.left c.in_ok-right.right c.in_ok-left.ensures.element c.in_ok-right.ensures.element
