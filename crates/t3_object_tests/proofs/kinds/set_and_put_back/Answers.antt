use Rattle.std.proofs.Common.{◌∙◌, ap, cond}
use Rattle.std.specs.Cmp.{eq_by_cmp_equiv}
use Rattle.std.specs.FinMap.{get, contains_key}
use Rattle.t3_undo.specs.Cell.{cell_cmp_total, cell_cmp-IsAntisymmetric}
use Rattle.t3_undo.specs.Content.{shown}
use Rattle.t3_undo.specs.Objects.{set_at}
use Rattle.t3_undo.proofs.Maps.{get-set_at, set_at-back}
use Rattle.t3_undo.proofs.SlotLists.{placed-made}
use Rattle.t3_object_tests.proofs.kinds.set_and_put_back.Goals as goal

pub put-old-requires-clause-place : goal.put-old-requires-clause-place
put-old-requires-clause-place g c =
    placed-made (g.M.Metaclass.places c.args.object.now) (g.M.Metaclass.places c.make_place.new.self) c.in_ok-copy.field-0
    c.args.cell.now c.in_ok-make_place.ensures.ok c.in_ok-copy.ensures

pub put-content-requires-clause-place : goal.put-content-requires-clause-place
put-content-requires-clause-place g c =
    (λ i. contains_key (c.put-old.ensures.places i) c.args.cell.now)
    ∙ placed-made (g.M.Metaclass.places c.args.object.now) (g.M.Metaclass.places c.make_place.new.self) c.in_ok-copy.field-0
    c.args.cell.now c.in_ok-make_place.ensures.ok c.in_ok-copy.ensures

pub returns-clause-seen : goal.returns-clause-seen
returns-clause-seen g c =
    c.get-seen.ensures.content
    ∙ (λ i. get (c.put-old.ensures.parts i) c.args.cell.now)
    ∙ get-set_at cell_cmp_total (g.M.Metaclass.parts c.make_place.new.self) c.args.cell.now (shown c.args.content) c.args.cell.now
    ∙ ap (λ b. cond b (shown c.args.content) (get (g.M.Metaclass.parts c.make_place.new.self) c.args.cell.now))
    ((eq_by_cmp_equiv cell_cmp_total).refl c.args.cell.now)

pub returns-clause-parts : goal.returns-clause-parts
returns-clause-parts g c =
    c.put-content.ensures.parts
    ∙ (λ i. set_at (c.put-old.ensures.parts i) c.args.cell.now (c.put-old.ensures.old i))
    ∙ set_at-back cell_cmp_total cell_cmp-IsAntisymmetric (g.M.Metaclass.parts c.make_place.new.self) c.args.cell.now
    (shown c.args.content)
    ∙ c.in_ok-make_place.ensures.parts
