use Rattle.std.proofs.Common.{◌≡◌, ◌∙◌, sym, Option, Some, ℕ}
use Rattle.std.specs.FinMap.{get, contains_key}
use Rattle.t3_undo.proofs.SlotLists.{placed-made}
use Rattle.t3_object_tests.proofs.Places.{still-placed, own-stamp}
use Rattle.t3_object_tests.proofs.kinds.stamp_and_set.Goals as goal

pub set_stamp-requires : goal.set_stamp-requires
set_stamp-requires g c =
    placed-made (g.M.Metaclass.places c.args.object.now) (g.M.Metaclass.places c.make_place.new.self) c.in_ok-copy.field-0
    c.args.cell.now c.in_ok-make_place.ensures.ok c.in_ok-copy.ensures

pub put-old-requires-clause-place : goal.put-old-requires-clause-place
put-old-requires-clause-place g c =
    (λ i. contains_key (c.set_stamp.ensures.places i) c.args.cell.now)
    ∙ still-placed (g.M.Metaclass.places c.make_place.new.self) c.args.cell.now c.args.cell.now c.args.stamp
    (placed-made (g.M.Metaclass.places c.args.object.now) (g.M.Metaclass.places c.make_place.new.self) c.in_ok-copy.field-0
    c.args.cell.now c.in_ok-make_place.ensures.ok c.in_ok-copy.ensures)

pub stamp-requires : goal.stamp-requires
stamp-requires g c =
    (λ i. contains_key (c.put-old.ensures.places i) c.args.cell.now) ∙ (λ i. contains_key (c.set_stamp.ensures.places i) c.args.cell.now)
    ∙ still-placed (g.M.Metaclass.places c.make_place.new.self) c.args.cell.now c.args.cell.now c.args.stamp
    (placed-made (g.M.Metaclass.places c.args.object.now) (g.M.Metaclass.places c.make_place.new.self) c.in_ok-copy.field-0
    c.args.cell.now c.in_ok-make_place.ensures.ok c.in_ok-copy.ensures)

pub returns : goal.returns
returns g c =
    let is : ◌≡◌ {A = Option ℕ} (Some c.stamp.result) (Some c.args.stamp) =
    sym c.stamp.ensures ∙ (λ i. get (c.put-old.ensures.places i) c.args.cell.now) ∙ (λ i. get (c.set_stamp.ensures.places i) c.args.cell.now)
    ∙ own-stamp (g.M.Metaclass.places c.make_place.new.self) c.args.cell.now c.args.stamp in
    cc
