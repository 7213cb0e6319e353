use Rattle.std.proofs.Common.{◌≡◌, ◌∙◌, List, ap, sym, subst, map}
use Rattle.std.specs.List.{IsDistinct}
use Rattle.t3_undo.specs.Slots as slots
use Rattle.t3_tables.specs.declared.pair.Pair.{Pair}
use Rattle.t3_tables.specs.Table.{parts_of, entries_of, pair_of}
use Rattle.t3_tables.proofs.OrderedEntries.{same_key}
use Rattle.t3_tables.proofs.TableLists.{gathered-entries, distinct-entries_of}
use Rattle.t3_tables.proofs.table.Table.entries.Goals as goal

listed : (c : goal.In_ok-pairs_of) → c.in_ok-pairs_of.field-0.items ≡ entries_of (parts_of c.args.self.now)
listed c =
    c.in_ok-pairs_of.ensures ∙ ap (map pair_of) c.in_ok-by_tick.ensures
    ∙ gathered-entries (slots.parts_of c.self.inside.slots) c.self.inside.default
    ∙ ap (λ t. entries_of (parts_of t)) c.self.view_is

pub invariant_of-result : goal.invariant_of-result
invariant_of-result c =
    let P : List Pair → Type 0 = λ pairs. IsDistinct same_key (map (λ (pair : Pair). pair.key) pairs) in
    subst P (sym (listed c)) (distinct-entries_of (parts_of c.args.self.now))

pub returns : goal.returns
returns c = listed c
