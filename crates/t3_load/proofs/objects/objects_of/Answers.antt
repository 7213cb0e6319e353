use Rattle.std.proofs.Common.{refl, subst}
use Rattle.t3_load.specs.Inner.Objects.{static_of, entry_kind_at, GivesObjectOf}
use Rattle.t3_load.proofs.ObjectRules.{first_without, are_next}
use Rattle.t3_load.proofs.objects.objects_of.Goals as goal

pub returns-in-None : goal.returns-in-None
returns-in-None c = (
  _,
  refl,
  first_without static_of (entry_kind_at c.args.kinds.now) c.args.statics.now c.loop-placed.placed-index _ c.loop-placed.objects.items
      c.loop-placed-test.true c.loop-placed.invariant
      (subst (GivesObjectOf (entry_kind_at c.args.kinds.now) _) c.in-None.is c.in_ok-object.ensures),
)

pub loop-placed-preserved : goal.loop-placed-preserved
loop-placed-preserved c =
    are_next static_of (entry_kind_at c.args.kinds.now) c.args.statics.now c.loop-placed.placed-index _ c.loop-placed.objects.items
    c.push.new.self.items c.in-Some.object c.loop-placed-test.true c.loop-placed.invariant
    (subst (GivesObjectOf (entry_kind_at c.args.kinds.now) _) c.in-Some.is c.in_ok-object.ensures) c.in_ok-push-in-Some.ensures.items
