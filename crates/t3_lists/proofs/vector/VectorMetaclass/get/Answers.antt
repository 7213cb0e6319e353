use Rattle.std.proofs.Common.{◌≡◌, ◌∙◌, ap, sym, subst, List, Option, IsTrue, is_some}
use Rattle.t3_undo.specs.Content.{shown, is_form}
use Rattle.t3_undo.specs.Present.{Present}
use Rattle.t3_lists.specs.Vector.{values_of, stamps_of}
use Rattle.t3_undo.specs.StampedValue.{ValuePlace}
use Rattle.t3_lists.specs.Inner.Elements.{index_of, content_in}
use Rattle.t3_lists.proofs.ElementLists.{get-parts, contains-places, placed, formed}
use Rattle.t3_lists.proofs.Items.{stamp-found, found-stamp}
use Rattle.t3_lists.proofs.vector.VectorMetaclass.get.Goals as goal

-- what the call answers, of the vector's elements
answered : (c : goal.After-content_in) → shown c.content_in.result ≡ shown (content_in (values_of c.args.self.now) (index_of c.args.cell.now))
answered c = ap shown c.content_in.ensures
    ∙ ap (λ (elements : List ValuePlace). shown (content_in (values_of elements) (index_of c.args.cell.now)))
    (c.deref.ensures.value ∙ c.self.view_is)

pub returns-clause-content : goal.returns-clause-content
returns-clause-content c = answered c ∙ sym (get-parts (values_of c.args.self.now) c.args.cell.now)

pub returns-clause-placed : goal.returns-clause-placed
returns-clause-placed c there =
    contains-places (stamps_of c.args.self.now) c.args.cell.now
    ∙ found-stamp c.args.self.now (index_of c.args.cell.now)
    (placed (values_of c.args.self.now) (index_of c.args.cell.now) (sym (ap is_some (answered c)) ∙ there))

pub returns-clause-formed : goal.returns-clause-formed
returns-clause-formed c there =
    let P : Option Present → Type 0 = λ o. IsTrue (is_form c.args.cell.now o) in
    subst P (sym (answered c)) (formed (values_of c.args.self.now) c.args.cell.now
    (stamp-found c.args.self.now (index_of c.args.cell.now) (sym (contains-places (stamps_of c.args.self.now) c.args.cell.now) ∙ there)))
