use Rattle.std.proofs.Common.{◌-◌, Ok, ◌∙◌, sym, ap}
use Rattle.t3_ops.proofs.Walking.{first-long, first-plain}
use Rattle.t3_ops.proofs.equality.equal.Goals as goal

pub returns-then-turns-eq0 : goal.returns-then-turns-eq0
returns-then-turns-eq0 c =
    first-long c.args.pools.now.constants c.args.store.now.store c.args.turns.now c.args.left c.args.right c.if-turns-eq0.true

pub returns-then-has_plain : goal.returns-then-has_plain
returns-then-has_plain c =
    first-plain c.args.pools.now.constants c.args.store.now.store c.args.turns.now c.args.left c.args.right c.if-turns-eq0.false
    (sym c.if-has_plain.ensures)
    ∙ ap (λ b. Ok (b, c.args.turns.now - 1)) (sym c.same_holder.ensures)
