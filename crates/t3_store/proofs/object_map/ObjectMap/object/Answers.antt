use Rattle.std.proofs.Common.{◌∙◌, ap, sym}
use Rattle.std.specs.FinMap.{get}
use Rattle.std.specs.Option.{option_map}
use Rattle.t3_store.specs.Inner.Shapes.{thing_of, places_of}
use Rattle.t3_store.specs.Inner.Entries.{object_at, things_of}
use Rattle.t3_store.proofs.Outcomes.{option_map-now}
use Rattle.t3_store.proofs.Rows.{get-by_number}
use Rattle.t3_store.proofs.Validity.{valid-found}
use Rattle.t3_store.proofs.object_map.ObjectMap.object.Goals as goal

pub returns-clause-thing : goal.returns-clause-thing
returns-clause-thing c =
    option_map-now thing_of c.object_at.result
    ∙ ap (option_map thing_of) (c.object_at.ensures ∙ ap (object_at c.args.number) c.deref.ensures.value)
    ∙ sym (get-by_number thing_of c.self.inside.entries.items c.args.number) ∙ λ i. get (c.self.view_is i).objects c.args.number

pub returns-clause-places : goal.returns-clause-places
returns-clause-places c =
    option_map-now places_of c.object_at.result
    ∙ ap (option_map places_of) (c.object_at.ensures ∙ ap (object_at c.args.number) c.deref.ensures.value)
    ∙ sym (get-by_number places_of c.self.inside.entries.items c.args.number) ∙ λ i. get (c.self.view_is i).places c.args.number

pub returns-clause-valid : goal.returns-clause-valid
returns-clause-valid c =
    valid-found (things_of c.self.inside.entries.items) c.args.number c.object_at.result
    (option_map-now thing_of c.object_at.result
    ∙ ap (option_map thing_of) (c.object_at.ensures ∙ ap (object_at c.args.number) c.deref.ensures.value)
    ∙ sym (get-by_number thing_of c.self.inside.entries.items c.args.number)) c.self.invariant.valid
