use Rattle.std.proofs.Common.{◌≡◌, ◌∙◌, ap, sym, subst, ◌+◌, ◌-◌, Some, IsTrue, arith}
use Rattle.std.specs.FinMap.{get, len, contains_key}
use Rattle.std.specs.Map.{lookup}
use Rattle.t3_undo.specs.Cell.{cell_cmp_total}
use Rattle.t3_undo.specs.Content.{shown, is_form}
use Rattle.t3_undo.specs.Objects.{set_at}
use Rattle.t3_undo.specs.Slots.{parts_of, places_of, AreSlots}
use Rattle.t3_undo.specs.declared.cell.Cell.{Cell}
use Rattle.t3_undo.specs.declared.content.Content.{Content}
use Rattle.t3_undo.specs.declared.place.Place.{Place}
use Rattle.t3_undo.proofs.SlotLists.{Entries, same, seen, len-parts_of, place-there, get-parts_of, contains-places_of, parts_of-put, places_of-put, formed-set_value, formed-lookup}
use Rattle.t3_undo.proofs.Maps.{one_if, one_if-small, len-set_at}
use Rattle.t3_undo.proofs.slots.Slots.put.Goals as goal

pub exchange-old-requires : goal.exchange-old-requires
exchange-old-requires c =
    sym (contains-places_of c.self.inside.cells.entries c.args.cell.now)
    ∙ (λ i. contains_key (places_of (c.self.view_is i)) c.args.cell.now) ∙ c.requires.place

-- what the count comes to
abbrev moved : (slots : Entries) (cell : Cell) (content : Content) → len (set_at (parts_of slots) cell (shown content)) + one_if (get (parts_of slots) cell)
    ≡ len (parts_of slots) + one_if (shown content)
moved slots cell content = len-set_at cell_cmp_total (parts_of slots) cell (shown content)

gone : (slots : Entries) (cell : Cell) (place : Place) (content : Content) → lookup (same cell) slots ≡ Some place → content ≡ place.content
    → one_if (shown content) ≡ one_if (get (parts_of slots) cell)
gone slots cell place content there is = ap (λ x. one_if (shown x)) is ∙ ap one_if (sym (get-parts_of slots cell ∙ ap seen there))

pub overflow_add-self : goal.overflow_add-self
overflow_add-self c =
    let few = len-parts_of c.self.inside.cells.entries in
    let one = one_if-small (shown c.args.content) in
    omega (arith, few, one, c.self.invariant.counted, c.one_if_present-coming.ensures, c.len-within.ensures.len, c.len-within.ensures.small)

pub overflow_sub-self : goal.overflow_sub-self
overflow_sub-self c =
    let slots = c.self.inside.cells.entries in
    let p = place-there slots c.args.self.now c.args.cell.now c.self.view_is c.requires.place in
    let e = moved slots c.args.cell.now c.args.content in
    let f = gone slots c.args.cell.now p.0 c.exchange-old.result p.1 (c.exchange-old.ensures p.0 p.1).1 in
    omega (arith, e, f, c.one_if_present.ensures, c.one_if_present-coming.ensures, c.self.invariant.counted)

pub invariant_of-self : goal.invariant_of-self
invariant_of-self c =
    let slots = c.self.inside.cells.entries in
    let p = place-there slots c.args.self.now c.args.cell.now c.self.view_is c.requires.place in
    let new : Place = record p.0 { content = c.args.content } in
    let e = moved slots c.args.cell.now c.args.content in
    let f = gone slots c.args.cell.now p.0 c.exchange-old.result p.1 (c.exchange-old.ensures p.0 p.1).1 in
    let g = ap len (parts_of-put slots c.args.cell.now p.0 p.1 c.args.content) in
    subst (λ slots. AreSlots slots (c.self.inside.present + c.one_if_present-coming.result - c.one_if_present.result))
    (sym (c.exchange-old.ensures p.0 p.1).0) (record {
      formed = formed-set_value slots c.args.cell.now new c.self.invariant.formed c.requires.form;
      counted = omega (arith, e, f, g, c.one_if_present.ensures, c.one_if_present-coming.ensures, c.self.invariant.counted);
    })

pub returns-clause-parts : goal.returns-clause-parts
returns-clause-parts c =
    let p = place-there c.self.inside.cells.entries c.args.self.now c.args.cell.now c.self.view_is c.requires.place in
    ap parts_of (c.exchange-old.ensures p.0 p.1).0
    ∙ parts_of-put c.self.inside.cells.entries c.args.cell.now p.0 p.1 c.args.content
    ∙ λ i. set_at (parts_of (c.self.view_is i)) c.args.cell.now (shown c.args.content)

pub returns-clause-places : goal.returns-clause-places
returns-clause-places c =
    let p = place-there c.self.inside.cells.entries c.args.self.now c.args.cell.now c.self.view_is c.requires.place in
    ap places_of (c.exchange-old.ensures p.0 p.1).0
    ∙ places_of-put c.self.inside.cells.entries c.args.cell.now p.0 p.1 c.args.content
    ∙ λ i. places_of (c.self.view_is i)

pub returns-clause-old : goal.returns-clause-old
returns-clause-old c =
    let p = place-there c.self.inside.cells.entries c.args.self.now c.args.cell.now c.self.view_is c.requires.place in
    ap shown (c.exchange-old.ensures p.0 p.1).1
    ∙ ap seen (sym p.1)
    ∙ sym (get-parts_of c.self.inside.cells.entries c.args.cell.now)
    ∙ λ i. get (parts_of (c.self.view_is i)) c.args.cell.now

pub returns-clause-formed : goal.returns-clause-formed
returns-clause-formed c =
    let p = place-there c.self.inside.cells.entries c.args.self.now c.args.cell.now c.self.view_is c.requires.place in
    let P : Content → Type 0 = λ x. IsTrue (is_form c.args.cell.now (shown x)) in
    subst P (sym (c.exchange-old.ensures p.0 p.1).1)
    (formed-lookup c.self.inside.cells.entries c.args.cell.now c.self.invariant.formed p.0 p.1)
