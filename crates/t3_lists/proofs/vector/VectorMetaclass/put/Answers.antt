use Rattle.std.proofs.Common.{◌≡◌, ◌∙◌, ap, sym, subst, List, ◌+◌, ◌-◌, Option, IsTrue, is_some, true, arith}
use Rattle.t3_holder.specs.declared.holder.Holder.{Holder}
use Rattle.t3_undo.specs.Cell.{cell_cmp_total, cell_cmp-IsAntisymmetric}
use Rattle.t3_undo.specs.Content.{shown, is_form}
use Rattle.t3_undo.specs.Present.{Present}
use Rattle.t3_undo.proofs.Maps.{set_at-restored}
use Rattle.t3_lists.specs.Vector.{parts_in, places_from, values_of, stamps_of}
use Rattle.t3_undo.specs.StampedValue.{ValuePlace}
use Rattle.t3_lists.specs.Inner.Elements.{index_of, content_in, exchanged, AreCounted}
use Rattle.t3_lists.proofs.ElementLists.{found, one, get-parts, contains-places, formed, parts-exchanged, one-of-present, counted-exchanged, present-fits, element-placed}
use Rattle.t3_lists.proofs.Items.{stamp-found}
use Rattle.t3_lists.proofs.vector.VectorMetaclass.put.Goals as goal

module _ (c : goal.After-one_if_present) where
  -- the element has a place
  has : is_some (found (values_of c.args.self.now) (index_of c.args.cell.now)) ≡ true
  has = stamp-found c.args.self.now (index_of c.args.cell.now)
      (sym (contains-places (stamps_of c.args.self.now) c.args.cell.now) ∙ c.requires.place)

  there : is_some (found (values_of c.self.inside.elements.items) (index_of c.args.cell.now)) ≡ true
  there = ap (λ (elements : List ValuePlace). is_some (found (values_of elements) (index_of c.args.cell.now))) c.self.view_is ∙ has

  was : c.one_if_present.result ≡ one (shown (content_in (values_of c.self.inside.elements.items) (index_of c.args.cell.now)))
  was = c.one_if_present.ensures ∙ ap (λ content. one (shown content)) c.exchange-old.ensures.old

  counted : AreCounted (exchanged (values_of c.self.inside.elements.items) (index_of c.args.cell.now) c.args.content)
      (c.self.inside.present - c.one_if_present.result + c.one_if_present-added.result)
  counted = counted-exchanged (values_of c.self.inside.elements.items) c.self.inside.present c.one_if_present.result c.one_if_present-added.result
      c.args.content (index_of c.args.cell.now) c.self.invariant there was c.one_if_present-added.ensures

pub overflow_sub-present : goal.overflow_sub-present
overflow_sub-present c = one-of-present (values_of c.self.inside.elements.items) c.self.inside.present c.one_if_present.result
    c.one_if_present-added.result c.args.content (index_of c.args.cell.now) c.self.invariant (there c) (was c)

pub overflow_add-present : goal.overflow_add-present
overflow_add-present c = let fits = present-fits _ _ (counted c) in omega (arith, fits)

pub invariant_of-self : goal.invariant_of-self
invariant_of-self c =
    let P : List (Option Holder) → Type 0 = λ values. AreCounted values
    (c.self.inside.present - c.one_if_present.result + c.one_if_present-added.result) in
    let has = stamp-found c.args.self.now (index_of c.args.cell.now)
    (sym (contains-places (stamps_of c.args.self.now) c.args.cell.now) ∙ c.requires.place) in
    let there : is_some (found (values_of c.self.inside.elements.items) (index_of c.args.cell.now)) ≡ true =
    ap (λ (elements : List ValuePlace). is_some (found (values_of elements) (index_of c.args.cell.now))) c.self.view_is ∙ has in
    subst P (sym c.exchange-old.ensures.values)
    (counted-exchanged (values_of c.self.inside.elements.items) c.self.inside.present c.one_if_present.result c.one_if_present-added.result
    c.args.content (index_of c.args.cell.now) c.self.invariant there
    (c.one_if_present.ensures ∙ ap (λ content. one (shown content)) c.exchange-old.ensures.old) c.one_if_present-added.ensures)

pub returns-clause-parts : goal.returns-clause-parts
returns-clause-parts c =
    let has = stamp-found c.args.self.now (index_of c.args.cell.now)
    (sym (contains-places (stamps_of c.args.self.now) c.args.cell.now) ∙ c.requires.place) in
    ap parts_in (c.exchange-old.ensures.values
    ∙ ap (λ (elements : List ValuePlace). exchanged (values_of elements) (index_of c.args.cell.now) c.args.content) c.self.view_is)
    ∙ parts-exchanged (values_of c.args.self.now) c.args.content c.args.cell.now has c.requires.form

pub returns-clause-places : goal.returns-clause-places
returns-clause-places c = ap (places_from 1) (c.exchange-old.ensures.stamps ∙ λ i. stamps_of (c.self.view_is i))

pub returns-clause-old : goal.returns-clause-old
returns-clause-old c =
    ap shown c.exchange-old.ensures.old
    ∙ ap (λ (elements : List ValuePlace). shown (content_in (values_of elements) (index_of c.args.cell.now))) c.self.view_is
    ∙ sym (get-parts (values_of c.args.self.now) c.args.cell.now)

pub returns-clause-back : goal.returns-clause-back
returns-clause-back c =
    set_at-restored cell_cmp_total cell_cmp-IsAntisymmetric _ _ c.args.cell.now (shown c.args.content) _ (returns-clause-parts c)
    (returns-clause-old c)

pub returns-clause-formed : goal.returns-clause-formed
returns-clause-formed c =
    let has = stamp-found c.args.self.now (index_of c.args.cell.now)
    (sym (contains-places (stamps_of c.args.self.now) c.args.cell.now) ∙ c.requires.place) in
    let P : Option Present → Type 0 = λ o. IsTrue (is_form c.args.cell.now o) in
    subst P (sym (ap shown c.exchange-old.ensures.old
    ∙ ap (λ (elements : List ValuePlace). shown (content_in (values_of elements) (index_of c.args.cell.now))) c.self.view_is))
    (formed (values_of c.args.self.now) c.args.cell.now has)

pub returns-clause-only_elements : goal.returns-clause-only_elements
returns-clause-only_elements c =
    element-placed (values_of c.args.self.now) c.args.cell.now (stamp-found c.args.self.now (index_of c.args.cell.now)
    (sym (contains-places (stamps_of c.args.self.now) c.args.cell.now) ∙ c.requires.place))
