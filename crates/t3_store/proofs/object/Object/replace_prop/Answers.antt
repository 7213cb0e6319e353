use Rattle.std.proofs.Common.{◌∙◌, ap, sym}
use Rattle.t3_undo.specs.Content.{shown}
use Rattle.t3_store.specs.Inner.Shapes.{places_of}
use Rattle.t3_store.proofs.Places.{places-replaced}
use Rattle.t3_store.proofs.object.Object.replace_prop.Goals as goal

pub returns-in-Tads-clause-places : goal.returns-in-Tads-clause-places
returns-in-Tads-clause-places c =
    places-replaced c.in-Tads.object c.replace.new.self c.args.number (shown c.replace.result.content) c.replace.result.stamp
    c.replace.ensures.placed (λ some. ap (λ o. o.places) (c.replace.ensures.set some))
    (λ none. ap (λ o. o.places) (c.replace.ensures.kept none))
    ∙ ap places_of (sym c.in-Tads.is)
