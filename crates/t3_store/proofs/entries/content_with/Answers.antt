use Rattle.std.proofs.Common.{◌≡◌, ◌∙◌, ap, sym, subst, Some, true≢false, arith}
use Rattle.std.specs.Option.{option_map}
use Rattle.std.specs.FinMap.{get}
use Rattle.t3_undo.specs.Content.{Parts, shown}
use Rattle.t3_undo.specs.Objects.{with_part, part_of, part_at}
use Rattle.t3_store.specs.Value.{with_cell, can_have_at}
use Rattle.t3_store.specs.Inner.Shapes.{Shape, thing_of, tick_of, value_of}
use Rattle.t3_tables.specs.Entries.{risen}
use Rattle.t3_store.specs.Inner.Valid.{IsValid}
use Rattle.t3_store.specs.Inner.Entries.{things_of}
use Rattle.t3_store.proofs.Ticks.{risen-up}
use Rattle.t3_store.proofs.Rows.{get-by_number, read-found}
use Rattle.t3_store.proofs.MapValues.{found-value, no-value, values-adjust}
use Rattle.t3_store.proofs.Validity.{valid-set}
use Rattle.t3_store.proofs.entries.content_with.Goals as goal

pub content_with-requires : goal.content_with-requires
content_with-requires c = record {
  can = ap (λ o. can_have_at o c.args.cell.now) (found-value (things_of c.args.entries.now) c.args.number _ (sym (read-found thing_of c.args.entries.now c.args.number c.in-Some.object.now c.in-Some.ensures))) ∙ c.requires.can;
  valid = c.requires.valid c.args.number _ (read-found thing_of c.args.entries.now c.args.number c.in-Some.object.now c.in-Some.ensures);
  room = let own = c.requires.room c.args.number _ (read-found tick_of c.args.entries.now c.args.number c.in-Some.object.now c.in-Some.ensures) in omega arith;
}

pub returns-in-Some-clause-set : goal.returns-in-Some-clause-set
returns-in-Some-clause-set c =
    let content = shown c.content_with.result in
    let P : Shape × Parts → Type 0 = λ x. value_of (with_part c.args.cell.now content x) ≡ with_cell c.args.cell.now c.args.value (value_of x) in
    values-adjust (things_of c.args.entries.now) c.args.number (with_part c.args.cell.now content)
    (with_cell c.args.cell.now c.args.value) (λ x e.
    let some : Some (thing_of c.in-Some.object.now) ≡ Some x = sym (read-found thing_of c.args.entries.now c.args.number c.in-Some.object.now c.in-Some.ensures) ∙ e in
    let same : thing_of c.in-Some.object.now ≡ x = cc in
    subst P same c.content_with.ensures.set)

pub returns-in-Some-clause-valid : goal.returns-in-Some-clause-valid
returns-in-Some-clause-valid c =
    let content = shown c.content_with.result in
    let P : Shape × Parts → Type 0 = λ x. IsValid (with_part c.args.cell.now content x) in
    valid-set (things_of c.args.entries.now) c.args.number c.args.cell.now content c.requires.valid (λ x e.
    let some : Some (thing_of c.in-Some.object.now) ≡ Some x = sym (read-found thing_of c.args.entries.now c.args.number c.in-Some.object.now c.in-Some.ensures) ∙ e in
    let same : thing_of c.in-Some.object.now ≡ x = cc in
    subst P same c.content_with.ensures.valid)

pub returns-in-Some-clause-tick : goal.returns-in-Some-clause-tick
returns-in-Some-clause-tick c bound all =
    let own = all c.args.number _ (read-found tick_of c.args.entries.now c.args.number c.in-Some.object.now c.in-Some.ensures) in
    let stood = get (thing_of c.in-Some.object.now).1 c.args.cell.now in
    let same : risen bound stood ≡ risen bound (part_at (things_of c.args.entries.now) c.args.number c.args.cell.now) =
    ap (λ o. risen bound (part_of o c.args.cell.now))
    (sym (read-found thing_of c.args.entries.now c.args.number c.in-Some.object.now c.in-Some.ensures)) in
    let more = risen-up (tick_of c.in-Some.object.now) bound stood own in
    omega (arith, more, same, c.content_with.ensures.tick)

pub returns-in-None : goal.returns-in-None
returns-in-None c =
    let none = no-value (things_of c.args.entries.now) c.args.number
    (ap (option_map thing_of) c.in-None.ensures ∙ sym (get-by_number thing_of c.args.entries.now c.args.number)) in
    absurd (true≢false (sym (ap (λ o. can_have_at o c.args.cell.now) none ∙ c.requires.can)))
