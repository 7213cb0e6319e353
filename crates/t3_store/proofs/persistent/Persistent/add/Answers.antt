use Rattle.std.proofs.Common.{◌∙◌, ap, sym}
use Rattle.std.specs.FinMap.{insert}
use Rattle.t3_store.specs.Value.{is_past, units_of}
use Rattle.t3_store.specs.Inner.Shapes.{Stored, values, thing_of, places_of, tick_of}
use Rattle.t3_store.proofs.MapValues.{values-insert}
use Rattle.t3_store.proofs.Starting.{unvalued}
use Rattle.t3_store.proofs.Adding.{added-kept}
use Rattle.t3_store.proofs.persistent.Persistent.add.Goals as goal

pub add-requires-clause-new : goal.add-requires-clause-new
add-requires-clause-new c = unvalued c.self.inside.objects.objects c.args.self.now c.args.number c.self.view_is c.requires.new

pub invariant_of-self-2 : goal.invariant_of-self-2
invariant_of-self-2 c =
    added-kept c.self.inside.objects c.add.new.self c.args.number (thing_of c.in_ok-object.object) (places_of c.in_ok-object.object)
    (tick_of c.in_ok-object.object) c.self.invariant (unvalued c.self.inside.objects.objects c.args.self.now c.args.number c.self.view_is c.requires.new)
    c.requires.number.0 c.requires.number.1
    ((λ i. is_past (values c.self.inside.objects.objects) (units_of (c.in_ok-object.ensures.value i)))
    ∙ (λ i. is_past (values c.self.inside.objects.objects) (sym c.units-units.ensures i))
    ∙ sym c.is_past.ensures ∙ c.if-is_past.false)
    c.in_ok-object.ensures.tick c.in_ok-object.ensures.fresh_places c.in_ok-add.ensures.ok

pub returns-clause-ok : goal.returns-clause-ok
returns-clause-ok c =
    ap (λ (s : Stored). values s.objects) c.in_ok-add.ensures.ok
    ∙ values-insert c.self.inside.objects.objects c.args.number (thing_of c.in_ok-object.object)
    ∙ λ i. insert (c.self.view_is i) c.args.number (c.in_ok-object.ensures.value i)
