use Rattle.std.proofs.Common.{◌≡◌, ◌∙◌, ◌+◌, ℕ, suc, sym, subst, refl, length, Some, None, arith}
use Rattle.t3_undo.specs.Present as presents
use Rattle.t3_undo.specs.Objects.{set_at}
use Rattle.t3_undo.proofs.SlotLists.{placed-made}
use Rattle.t3_undo.specs.declared.cell.Cell.TheVariants as cells
use Rattle.t3_lists.specs.Vector.{places_of, HasPlaceBelow}
use Rattle.t3_lists.proofs.Items.{filled-push, place-below}
use Rattle.t3_store.proofs.new_object.add_element.Goals as goal

pub make_place-requires : goal.make_place-requires
make_place-requires c =
    let P : ℕ → Type 0 = λ n. HasPlaceBelow (places_of c.args.vector.now) (cells.Elem n) in
    let next : suc c.args.count ≡ c.args.count + 1 = omega arith in
    subst P next
    (place-below c.args.vector.now c.requires.count.items c.args.count c.requires.count.are (omega (arith, c.requires.count.count)))

pub put-absent-requires-clause-place : goal.put-absent-requires-clause-place
put-absent-requires-clause-place c =
    placed-made _ _ (cells.Elem (c.args.count + 1)) (cells.Elem (c.args.count + 1)) c.in_ok-make_place.ensures.ok refl

pub returns-clause-parts : goal.returns-clause-parts
returns-clause-parts c items are count =
    let number : c.args.count + 1 ≡ 1 + length items = omega (arith, count) in
    c.put-absent.ensures.parts
    ∙ (λ i. set_at ((c.make_place.ensures.parts ∙ are) i) (cells.Elem (number i)) (Some (presents.Value None c.args.value)))
    ∙ sym (filled-push items c.args.value)
