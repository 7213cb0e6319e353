use Rattle.std.proofs.Common.{◌∙◌, ap, subst}
use Rattle.t3_undo.specs.Content.{shown}
use Rattle.t3_undo.specs.Objects.{set_cell, adjust, part_at}
use Rattle.t3_store.specs.Value.{with_cell}
use Rattle.t3_store.specs.Inner.Shapes.{values, has_place}
use Rattle.t3_store.specs.Inner.Bounded.{IsFilledBelow}
use Rattle.t3_store.specs.Inner.Store.{HaveRisen}
use Rattle.t3_store.proofs.writing.set.Goals as goal

pub returns-clause-ok : goal.returns-clause-ok
returns-clause-ok c =
    let ready = c.in_ok-make_room.ensures.ok in
    let changed = c.set.ensures.changed in
    record {
      content = changed.content;
      objects = changed.objects ∙ ap (λ m. set_cell m c.args.number c.args.cell.now changed.content) ready.same;
      values = changed.values ∙ ap (λ m. adjust (values m) c.args.number (with_cell c.args.cell.now c.args.value)) ready.same;
      kept = λ q d there. (λ i. has_place (changed.places i) q d) ∙ ready.kept q d there;
      placed = (λ i. has_place (changed.places i) c.args.number c.args.cell.now) ∙ ready.placed;
      stood = c.set.ensures.old ∙ ap (λ m. part_at m c.args.number c.args.cell.now) ready.same;
      formed = c.set.ensures.formed;
      ticks = subst (λ ticks. HaveRisen ticks c.set.new.self.ticks (shown c.set.result)) ready.ticks c.set.ensures.ticks;
      filled = subst (λ m. IsFilledBelow m c.args.number c.args.cell.now) ready.same c.set.ensures.filled;
    }
