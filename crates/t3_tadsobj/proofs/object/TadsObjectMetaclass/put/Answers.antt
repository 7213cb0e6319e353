use Rattle.std.proofs.Common.{◌≡◌, ◌∙◌, ap, sym, Some, true≢false, arith}
use Rattle.std.specs.FinMap.{get, contains_key}
use Rattle.t3_undo.specs.Cell.{cell_cmp_total, cell_cmp-IsAntisymmetric}
use Rattle.t3_undo.specs.Content.{shown, is_form}
use Rattle.t3_undo.specs.Objects.{set_at}
use Rattle.t3_undo.specs.StampedValue.{ValuePlace}
use Rattle.t3_tadsobj.specs.Inner.Entries.{content_of, content_at, value_at}
use Rattle.t3_undo.proofs.Maps.{one_if, one_if-small, set_at-restored}
use Rattle.t3_tadsobj.specs.Object.{Tads}
use Rattle.t3_tadsobj.proofs.EntryLists.{at, found, len-set, len-parts, get-Prop, contains-Prop, contains-other, content-value, formed, parts-put, places-put}
use Rattle.t3_tadsobj.proofs.object.TadsObjectMetaclass.put.Goals as goal
use Rattle.t3_tadsobj.proofs.object.TadsObjectMetaclass.put.Goals.{After-content_of}

pub exchange-old-requires : goal.exchange-old-requires
exchange-old-requires c =
    sym (contains-Prop c.self.inside.props.entries c.in-Some.number)
    ∙ (λ i. contains_key (c.self.view_is i).places (sym c.in-Some.ensures i)) ∙ c.requires.place

there : (c : After-content_of) → (p : ValuePlace) × (at c.in-Some.number c.self.inside.props.entries ≡ Some p)
there c = found (at c.in-Some.number c.self.inside.props.entries)
    (sym (contains-Prop c.self.inside.props.entries c.in-Some.number)
    ∙ (λ i. contains_key (c.self.view_is i).places (sym c.in-Some.ensures i)) ∙ c.requires.place)

pub overflow_add-self : goal.overflow_add-self
overflow_add-self c =
    let few = len-parts c.self.inside.props.entries in
    let one = one_if-small c.value-value.result in
    omega (arith, few, one, c.one_if_present.ensures, c.self.invariant, c.len-within.ensures.len, c.len-within.ensures.small)

pub overflow_sub-self : goal.overflow_sub-self
overflow_sub-self c =
    let old = c.self.inside.props.entries in
    let n = c.in-Some.number in
    let p = found (at n old) (sym (contains-Prop old n)
    ∙ (λ i. contains_key (c.self.view_is i).places (sym c.in-Some.ensures i)) ∙ c.requires.place) in
    let called = c.exchange-old.ensures p.0 p.1 in
    let moved = len-set old c.exchange-old.new.entries.entries n (record p.0 { value = c.value-value.result }) called.0.0 in
    let was = ap one_if (called.1 ∙ ap value_at (sym p.1)) in
    omega (arith, moved, was, c.one_if_present.ensures, c.one_if_present-in-Some.ensures, c.self.invariant)

pub invariant_of-self : goal.invariant_of-self
invariant_of-self c =
    let old = c.self.inside.props.entries in
    let n = c.in-Some.number in
    let p = there c in
    let called = c.exchange-old.ensures p.0 p.1 in
    let moved = len-set old c.exchange-old.new.entries.entries n (record p.0 { value = c.value-value.result }) called.0.0 in
    let was = ap one_if (called.1 ∙ ap value_at (sym p.1)) in
    omega (arith, moved, was, c.one_if_present.ensures, c.one_if_present-in-Some.ensures, c.self.invariant)

pub returns-in-Some-clause-object : goal.returns-in-Some-clause-object
returns-in-Some-clause-object c =
    let old = c.self.inside.props.entries in
    let new = c.exchange-old.new.entries.entries in
    let n = c.in-Some.number in
    let p = there c in
    let fits = ap (λ v. shown (content_of v)) c.value-value.ensures
    ∙ content-value n c.args.content ((λ i. is_form (sym c.in-Some.ensures i) (shown c.args.content)) ∙ c.requires.form) in
    let updated = (c.exchange-old.ensures p.0 p.1).0.0 in
    let parts = parts-put old new n p.0 p.1 c.value-value.result updated
    ∙ λ i. set_at (c.self.view_is i).parts (sym c.in-Some.ensures i) (fits i) in
    let places = places-put old new n p.0 p.1 c.value-value.result updated ∙ λ i. (c.self.view_is i).places in
    λ i. record { parts = parts i; places = places i; supers = (c.self.view_is i).supers; class = (c.self.view_is i).class }

stood : (c : After-content_of) → shown c.content_of.result ≡ shown (content_at (at c.in-Some.number c.self.inside.props.entries))
stood c =
    let p = there c in
    ap shown c.content_of.ensures ∙ ap (λ v. shown (content_of v)) (c.exchange-old.ensures p.0 p.1).1
    ∙ ap (λ o. shown (content_at o)) (sym p.1)

pub returns-in-Some-clause-old : goal.returns-in-Some-clause-old
returns-in-Some-clause-old c =
    stood c ∙ sym (get-Prop c.self.inside.props.entries c.in-Some.number)
    ∙ λ i. get (c.self.view_is i).parts (sym c.in-Some.ensures i)

pub returns-in-Some-clause-formed : goal.returns-in-Some-clause-formed
returns-in-Some-clause-formed c =
    (λ i. is_form (c.in-Some.ensures i) (stood c i)) ∙ formed c.in-Some.number (at c.in-Some.number c.self.inside.props.entries)

pub returns-in-Some-clause-back : goal.returns-in-Some-clause-back
returns-in-Some-clause-back c =
    set_at-restored cell_cmp_total cell_cmp-IsAntisymmetric _ _ c.args.cell.now (shown c.args.content) _
    (ap (λ (o : Tads). o.parts) (returns-in-Some-clause-object c)) (returns-in-Some-clause-old c)

unplaced : (c : goal.In-None) → ⊥
unplaced c = true≢false (sym c.requires.place ∙ (λ i. contains_key (sym c.self.view_is i).places c.args.cell.now)
    ∙ contains-other c.self.inside.props.entries c.args.cell.now c.in-None.ensures)

pub returns-in-None-clause-object : goal.returns-in-None-clause-object
returns-in-None-clause-object c = absurd (unplaced c)

pub returns-in-None-clause-old : goal.returns-in-None-clause-old
returns-in-None-clause-old c = absurd (unplaced c)

pub returns-in-None-clause-back : goal.returns-in-None-clause-back
returns-in-None-clause-back c = absurd (unplaced c)

pub returns-in-None-clause-only_props : goal.returns-in-None-clause-only_props
returns-in-None-clause-only_props c = absurd (unplaced c)
