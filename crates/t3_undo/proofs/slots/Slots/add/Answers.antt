use Rattle.std.proofs.Common.{◌≡◌, ◌∙◌, ap, sym, subst, ◌+◌, ◌++◌, [], ◌∷◌, None, false, arith}
use Rattle.std.specs.FinMap.{len}
use Rattle.std.specs.List.{list_any}
use Rattle.t3_undo.specs.Cell.{cell_cmp_total}
use Rattle.t3_undo.specs.Content.{shown}
use Rattle.std.specs.Map.{keys_of, lookup}
use Rattle.indexmap.proofs.CallerLemmas.{insert_entry-new}
use Rattle.t3_undo.specs.Slots.{parts_of, AreSlots}
use Rattle.t3_undo.proofs.SlotLists.{Entries, same, seen, len-parts_of, get-parts_of, parts_of-add, lookup-none, formed-add}
use Rattle.t3_undo.proofs.Maps.{one_if, one_if-small, len-set_at}
use Rattle.t3_undo.specs.declared.cell.Cell.{Cell}
use Rattle.t3_undo.proofs.slots.Slots.add.Goals as goal

fresh : (slots others : Entries) (cell : Cell) → slots ≡ others → list_any (same cell) (keys_of others) ≡ false
    → list_any (same cell) (keys_of slots) ≡ false
fresh slots others cell e new = (λ i. list_any (same cell) (keys_of (e i))) ∙ new

not_found : (slots others : Entries) (cell : Cell) → slots ≡ others → list_any (same cell) (keys_of others) ≡ false
    → lookup (same cell) slots ≡ None
not_found slots others cell e new = lookup-none slots cell (fresh slots others cell e new)

pub overflow_add-self : goal.overflow_add-self
overflow_add-self c =
    let few = len-parts_of c.self.inside.cells.entries in
    let one = one_if-small (shown c.args.place.content) in
    omega (arith, few, one, c.self.invariant.counted, c.one_if_present-coming.ensures, c.len-within.ensures.len, c.len-within.ensures.small)

pub invariant_of-self-2 : goal.invariant_of-self-2
invariant_of-self-2 c =
    let slots = c.self.inside.cells.entries in
    let new = not_found slots c.args.self.now c.args.cell c.self.view_is c.requires.new in
    let added = c.in_ok-insert.ensures.entries ∙ insert_entry-new same c.self.inside.cells c.args.cell c.args.place new in
    let none = get-parts_of slots c.args.cell ∙ ap seen new in
    let counted = ap len (parts_of-add slots c.args.cell c.args.place (fresh slots c.args.self.now c.args.cell c.self.view_is c.requires.new)) in
    let more = len-set_at cell_cmp_total (parts_of slots) c.args.cell (shown c.args.place.content) in
    let was = ap one_if none in
    subst (λ slots. AreSlots slots (c.self.inside.present + c.one_if_present-coming.result)) (sym added) (record {
      formed = formed-add slots c.args.cell c.args.place c.self.invariant.formed c.requires.form;
      counted = omega (arith, counted, more, was, c.self.invariant.counted, c.one_if_present-coming.ensures);
    })

pub returns-clause-ok : goal.returns-clause-ok
returns-clause-ok c =
    let new = not_found c.self.inside.cells.entries c.args.self.now c.args.cell c.self.view_is c.requires.new in
    c.in_ok-insert.ensures.entries ∙ insert_entry-new same c.self.inside.cells c.args.cell c.args.place new
    ∙ λ i. c.self.view_is i ++ (c.args.cell, c.args.place) ∷ []
