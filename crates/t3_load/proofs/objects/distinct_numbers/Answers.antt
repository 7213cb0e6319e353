use Rattle.t3_load.specs.declared.standing.StaticObject.{StaticObject}
use Rattle.t3_load.proofs.Firsts.{first_twice}
use Rattle.t3_load.proofs.objects.distinct_numbers.Goals as goal

pub returns-then-not-added : goal.returns-then-not-added
returns-then-not-added c =
    first_twice (λ (s : StaticObject). s.number) c.args.statics.now c.loop-placed.placed-index _ c.loop-placed.numbers.keys c.in_ok-_index.added
    c.loop-placed-test.true c.loop-placed.invariant.0 c.loop-placed.invariant.1 c.in_ok-_index.ensures.added c.if-not-added.true
