use Rattle.std.proofs.Common.{◌∙◌, ap}
use Rattle.t3_lists.specs.Vector.{parts_in, parts_of, places_from, stamps_of, values_of}
use Rattle.t3_lists.specs.Inner.Elements.{index_of, with_next_stamp}
use Rattle.t3_lists.proofs.ElementLists.{parts-next, places-next}
use Rattle.t3_lists.proofs.vector.VectorMetaclass.make_place.Goals as goal

pub returns-clause-parts : goal.returns-clause-parts
returns-clause-parts c =
    ap parts_in c.in_ok-add_missing.ensures.values
    ∙ parts-next (values_of c.self.inside.elements.items) (index_of c.args.cell)
    ∙ ap parts_of c.self.view_is

pub returns-clause-ok : goal.returns-clause-ok
returns-clause-ok c =
    ap (places_from 1) (c.in_ok-add_missing.ensures.stamps ∙ λ i. with_next_stamp (stamps_of (c.self.view_is i)) (index_of c.args.cell))
    ∙ places-next (stamps_of c.args.self.now) c.args.cell c.requires
