use Rattle.std.proofs.Common.{◌≡◌, ◌∙◌, ap, sym, subst, refl, suc, ◌+◌, List, [], ◌∷◌, ◌++◌, length, arith}
use Rattle.t3_holder.specs.declared.holder.Holder.{Holder}
use Rattle.t3_undo.specs.Content.{Parts, shown}
use Rattle.t3_undo.specs.Objects.{set_at}
use Rattle.t3_undo.specs.declared.cell.Cell.TheVariants as cells
use Rattle.t3_undo.specs.declared.content.Content.TheVariants.{Held}
use Rattle.t3_undo.proofs.SlotLists.{placed-made}
use Rattle.t3_lists.specs.Vector.{parts_of, places_of, items_of, filled, HasPlaceBelow}
use Rattle.t3_lists.proofs.Items.{place-below, filled-push, items-filled}
use Rattle.t3_object_tests.proofs.vectors.push.Goals as goal

pub overflow_add-number : goal.overflow_add-number
overflow_add-number c = omega (arith, c.length-number.ensures.present, c.requires.few)

pub make_place-requires : goal.make_place-requires
make_place-requires c =
    let items = c.requires.whole.0 in
    let is = c.length-number.ensures.whole items c.requires.whole.1 in
    let next : suc (length items) ≡ c.length-number.result + 1 = omega (arith, is) in
    subst (λ n. HasPlaceBelow (places_of c.args.vector.now) (cells.Elem n)) next
    (place-below c.args.vector.now items (length items) c.requires.whole.1 (omega arith))

pub put-absent-requires-clause-place : goal.put-absent-requires-clause-place
put-absent-requires-clause-place c =
    placed-made (places_of c.args.vector.now) (places_of c.make_place.new.self) (cells.Elem (c.length-number.result + 1))
    (cells.Elem (c.length-number.result + 1)) c.in_ok-make_place.ensures.ok refl

pub returns : goal.returns
returns c =
    let items = c.requires.whole.0 in
    let are : items_of (parts_of c.args.vector.now) ≡ items = ap items_of c.requires.whole.1 ∙ items-filled items in
    let number : c.length-number.result + 1 ≡ 1 + length items =
    let is = c.length-number.ensures.whole items c.requires.whole.1 in omega (arith, is) in
    c.put-absent.ensures.parts
    ∙ ap (λ (parts : Parts). set_at parts (cells.Elem (c.length-number.result + 1)) (shown (Held c.args.item)))
    (c.in_ok-make_place.ensures.parts ∙ c.requires.whole.1)
    ∙ ap (λ n. set_at (filled items) (cells.Elem n) (shown (Held c.args.item))) number
    ∙ sym (filled-push items c.args.item)
    ∙ ap (λ (xs : List Holder). filled (xs ++ c.args.item ∷ [])) (sym are)
