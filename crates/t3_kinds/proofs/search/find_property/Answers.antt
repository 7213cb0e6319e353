use Rattle.std.proofs.Common.{refl, sym, ◌∙◌}
use Rattle.t3_kinds.proofs.Searching.{here_by, above_by, nowhere_by}
use Rattle.t3_kinds.proofs.search.find_property.Goals as goal

pub returns-in-Here : goal.returns-in-Here
returns-in-Here c =
    here_by c.args.store.now.store c.loop.at c.args.property c.in-Here.value c.loop.invariant.1 (sym c.next_place.ensures ∙ c.in-Here.is)
    ∙ c.loop.invariant.0

pub returns-in-Nowhere : goal.returns-in-Nowhere
returns-in-Nowhere c =
    nowhere_by c.args.store.now.store c.loop.at c.args.property c.loop.invariant.1 (sym c.next_place.ensures ∙ c.in-Nowhere.is)
    ∙ c.loop.invariant.0

pub loop-preserved : goal.loop-preserved
loop-preserved c =
    let above = above_by c.args.store.now.store c.loop.at c.args.property c.in-Above.above c.loop.invariant.1
    (sym c.next_place.ensures ∙ c.in-Above.is) in
    (above.0 ∙ c.loop.invariant.0, above.1)

pub loop-init : goal.loop-init
loop-init c = (refl, c.objects-end.ensures.acyclic c.args.number)
