use Rattle.std.proofs.Common.{◌≡◌, ◌∙◌, ap, sym, subst}
use Rattle.t3_lists.specs.Vector.{items_of}
use Rattle.t3_lists.proofs.Items.{items-filled}
use Rattle.t3_tables.specs.Table as tables
use Rattle.t3_tables.specs.Table.{TableValue, new_table}
use Rattle.t3_store.specs.Value.{Vector, new_value, Table}
use Rattle.t3_undo.specs.Content.{places_for}
use Rattle.t3_store.specs.Inner.Shapes.{TableShape, value_of}
use Rattle.t3_tables.specs.Entries.{IsWholeTable}
use Rattle.t3_tables.proofs.EntryUnits.{entries-new, default-new, whole-new}
use Rattle.t3_store.proofs.FreshPlaces.{places-none, places-table}
use Rattle.t3_store.proofs.new_object.NewObject.make.Goals as goal

pub returns-in_ok-make_vector-in-Vector-clause-value : goal.returns-in_ok-make_vector-in-Vector-clause-value
returns-in_ok-make_vector-in-Vector-clause-value c =
    ap Vector (ap items_of c.in_ok-make_vector-in-Vector.ensures.parts ∙ items-filled _) ∙ ap new_value (sym c.in-Vector.is)

new_is : (c : goal.In_ok-new-in-Table) → c.in_ok-new-in-Table.field-0.value ≡ new_table
new_is c = c.in_ok-new-in-Table.ensures.ok ∙ c.new.ensures

pub returns-in_ok-new-in-Table-clause-value : goal.returns-in_ok-new-in-Table-clause-value
returns-in_ok-new-in-Table-clause-value c =
    ap (λ (t : TableValue). value_of (TableShape, tables.parts_of t)) (new_is c) ∙ (λ i. Table (entries-new i) (default-new i)) ∙ ap new_value (sym c.in-Table.is)

pub returns-in_ok-new-in-Table-clause-valid : goal.returns-in_ok-new-in-Table-clause-valid
returns-in_ok-new-in-Table-clause-valid c =
    subst (λ (t : TableValue). IsWholeTable (tables.parts_of t)) (sym (new_is c)) whole-new

pub returns-in-Text-clause-fresh_places : goal.returns-in-Text-clause-fresh_places
returns-in-Text-clause-fresh_places c = sym places-none

pub returns-in-List-clause-fresh_places : goal.returns-in-List-clause-fresh_places
returns-in-List-clause-fresh_places c = sym places-none

pub returns-in_ok-new-in-Table-clause-fresh_places : goal.returns-in_ok-new-in-Table-clause-fresh_places
returns-in_ok-new-in-Table-clause-fresh_places c =
    subst (λ (t : TableValue). tables.places_of t ≡ places_for (tables.parts_of t)) (sym (new_is c)) places-table
