use Rattle.std.proofs.Common.{◌∙◌, ap, sym, subst}
use Rattle.t3_tadsobj.specs.Object.{Tads}
use Rattle.t3_undo.specs.Content.{places_for}
use Rattle.t3_store.specs.Inner.Shapes.{thing_of, value_of}
use Rattle.t3_tables.proofs.EntryUnits.{IsTableCopy, table-copy}
use Rattle.t3_store.specs.Value.{Table}
use Rattle.t3_tables.specs.Table.{TableValue}
use Rattle.t3_store.proofs.FreshPlaces.{places-none}
use Rattle.t3_store.proofs.object.Object.copy.Goals as goal

copied : (c : goal.In_ok-new-in-Table) → IsTableCopy c.in-Table.table.value c.in_ok-new-in-Table.field-0.value
copied c =
    let copy = table-copy c.deref.result.now c.in_ok-copy-in-Table.field-0 c.in_ok-copy-in-Table.ensures.parts
    c.in_ok-copy-in-Table.ensures.entries c.in_ok-copy-in-Table.ensures.next c.in_ok-copy-in-Table.ensures.few in
    subst (λ (t : TableValue). IsTableCopy c.in-Table.table.value t) (sym c.in_ok-new-in-Table.ensures.ok)
    (subst (λ (t : TableValue). IsTableCopy t c.in_ok-copy-in-Table.field-0) c.deref.ensures copy)

pub returns-in_ok-new-in-Table-clause-value : goal.returns-in_ok-new-in-Table-clause-value
returns-in_ok-new-in-Table-clause-value c =
    (λ i. Table ((copied c).entries i) ((copied c).default i)) ∙ ap (λ o. value_of (thing_of o)) (sym c.in-Table.is)

pub returns-in_ok-new-in-Table-clause-valid : goal.returns-in_ok-new-in-Table-clause-valid
returns-in_ok-new-in-Table-clause-valid c = (copied c).whole

pub returns-in_ok-new-in-Table-clause-tick : goal.returns-in_ok-new-in-Table-clause-tick
returns-in_ok-new-in-Table-clause-tick c = (copied c).tick

pub returns-in_ok-copy-in-Tads-clause-fresh_places : goal.returns-in_ok-copy-in-Tads-clause-fresh_places
returns-in_ok-copy-in-Tads-clause-fresh_places c =
    ap (λ (o : Tads). o.places) c.in_ok-copy-in-Tads.ensures ∙ sym (ap (λ (o : Tads). places_for o.parts) c.in_ok-copy-in-Tads.ensures)

pub returns-in_ok-copy-in-Text-clause-fresh_places : goal.returns-in_ok-copy-in-Text-clause-fresh_places
returns-in_ok-copy-in-Text-clause-fresh_places c = sym places-none

pub returns-in_ok-copy-in-List-clause-fresh_places : goal.returns-in_ok-copy-in-List-clause-fresh_places
returns-in_ok-copy-in-List-clause-fresh_places c = sym places-none

pub returns-in_ok-copy-in-Vector-clause-fresh_places : goal.returns-in_ok-copy-in-Vector-clause-fresh_places
returns-in_ok-copy-in-Vector-clause-fresh_places c =
    c.in_ok-copy-in-Vector.ensures.places ∙ sym (ap places_for c.in_ok-copy-in-Vector.ensures.parts)
