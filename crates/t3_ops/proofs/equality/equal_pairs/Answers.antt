use Rattle.std.proofs.Common.{arith}
use Rattle.t3_ops.specs.Inner.Walk.{pairs_of}
use Rattle.t3_ops.proofs.Walking.{walks-done, walks-out, walks-long, walks-same, walks-apart, walks-unread, walks-moved, nil_of_none}
use Rattle.t3_ops.proofs.equality.equal_pairs.Goals as goal

pub returns-in-None : goal.returns-in-None
returns-in-None c =
    let none = c.in-None.ensures.cases.0 in
    let ok = c.walk.outer.ok in
    walks-done c.args.pools.now.constants c.args.store.now.store c.args.turns.now (pairs_of c.args.pools.now.constants c.args.level)
    c.walk.turns c.walk.level c.walk.outer.items c.walk.invariant c.in_default.ensures.pair
    (nil_of_none c.walk.outer.items (omega arith))

pub walk-preserved-in_default : goal.walk-preserved-in_default
walk-preserved-in_default c =
    walks-out c.args.pools.now.constants c.args.store.now.store c.args.turns.now (pairs_of c.args.pools.now.constants c.args.level)
    c.walk.turns c.walk.level c.in-Some-pop.next c.walk.outer.items c.pop.new.self.items c.walk.invariant c.in_default.ensures.pair
    c.in-Some-pop.ensures.items

pub returns-then-turns-eq0 : goal.returns-then-turns-eq0
returns-then-turns-eq0 c =
    walks-long c.args.pools.now.constants c.args.store.now.store c.args.turns.now (pairs_of c.args.pools.now.constants c.args.level)
    c.walk.turns c.walk.level c.walk.outer.items (c.in-Some.left, c.in-Some.right)
    (pairs_of c.args.pools.now.constants c.take_pair.new.self)
    c.walk.invariant c.in-Some.ensures.pair c.if-turns-eq0.true

pub walk-preserved-in-Same : goal.walk-preserved-in-Same
walk-preserved-in-Same c =
    walks-same c.args.pools.now.constants c.args.store.now.store c.args.turns.now (pairs_of c.args.pools.now.constants c.args.level)
    c.walk.turns c.walk.level c.take_pair.new.self c.walk.outer.items (c.in-Some.left, c.in-Some.right) c.walk.invariant
    c.in-Some.ensures.pair c.in-Some.ensures.level c.if-turns-eq0.false c.in-Same.ensures.found

pub returns-in-Different : goal.returns-in-Different
returns-in-Different c =
    walks-apart c.args.pools.now.constants c.args.store.now.store c.args.turns.now (pairs_of c.args.pools.now.constants c.args.level)
    c.walk.turns c.walk.level c.walk.outer.items (c.in-Some.left, c.in-Some.right)
    (pairs_of c.args.pools.now.constants c.take_pair.new.self)
    c.walk.invariant c.in-Some.ensures.pair c.if-turns-eq0.false c.in-Different.ensures.found

pub returns-in-Unreadable : goal.returns-in-Unreadable
returns-in-Unreadable c =
    walks-unread c.args.pools.now.constants c.args.store.now.store c.args.turns.now (pairs_of c.args.pools.now.constants c.args.level)
    c.walk.turns c.walk.level c.walk.outer.items (c.in-Some.left, c.in-Some.right)
    (pairs_of c.args.pools.now.constants c.take_pair.new.self)
    c.walk.invariant c.in-Some.ensures.pair c.if-turns-eq0.false c.in-Unreadable.ensures.found

pub walk-preserved : goal.walk-preserved
walk-preserved c =
    let pool = c.args.pools.now.constants in
    walks-moved pool c.args.store.now.store c.args.turns.now (pairs_of pool c.args.level) c.walk.turns c.walk.level c.take_pair.new.self
    c.in-Inside.inner c.replace.result c.replace.new.dest c.walk.outer.items c.push.new.self.items (c.in-Some.left, c.in-Some.right)
    c.walk.invariant c.in-Some.ensures.pair c.in-Some.ensures.level c.if-turns-eq0.false c.in-Inside.ensures.found c.in-Inside.ensures.level
    c.replace.ensures.value c.replace.ensures.after c.in_ok-push-in-Inside.ensures.items
