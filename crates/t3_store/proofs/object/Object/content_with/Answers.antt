use Rattle.std.proofs.Common.{◌≡◌, refl}
use Rattle.t3_store.specs.Inner.Shapes.{TableShape, thing_of, tick_of}
use Rattle.std.specs.FinMap.{get}
use Rattle.t3_store.proofs.Ticks.{least}
use Rattle.t3_store.proofs.KindValues.{other-shape, held-form, value-with, valid-with}
use Rattle.t3_store.proofs.object.Object.content_with.Goals as goal

other : (c : goal.In_default) → (thing_of c.args.self.now).0 ≡ TableShape → ⊥
other c = other-shape c.args.self.now c.in_default.not-Table

pub returns-in_default : goal.returns-in_default
returns-in_default c = record {
  form = held-form (thing_of c.args.self.now) c.args.cell.now c.args.value (other c) c.requires.can;
  set = value-with (thing_of c.args.self.now) c.args.cell.now c.args.value (other c) c.requires.can c.requires.valid;
  present = refl;
  valid = valid-with (thing_of c.args.self.now) c.args.cell.now c.args.value (other c) c.requires.can c.requires.valid;
  tick = least (tick_of c.args.self.now) (get (thing_of c.args.self.now).1 c.args.cell.now);
}
