use Rattle.std.proofs.Common.{◌∙◌, sym}
use Rattle.t3_store.proofs.MapValues.{none-of}
use Rattle.t3_store.proofs.Places.{ready}
use Rattle.t3_store.proofs.writing.make_room.Goals as goal

pub returns-clause-ok : goal.returns-clause-ok
returns-clause-ok c =
    ready c.args.objects.now _ c.args.number c.args.cell.now _ c.in_ok-copy.ensures c.in_ok-make_place.ensures.ok c.in_ok-make_place.ensures.placed
    (sym c.get.ensures.content ∙ none-of _ (sym c.is_present.ensures ∙ c.if-is_present.false))
