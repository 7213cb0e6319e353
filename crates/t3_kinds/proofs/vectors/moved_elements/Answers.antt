use Rattle.std.proofs.Common.{[], ◌∷◌, ◌++◌, List, ap, ◌∙◌}
use Rattle.std.proofs.lemmas.List.{map-append}
use Rattle.t3_undo.specs.declared.cell.Cell.TheVariants.{Elem}
use Rattle.t3_kinds.specs.Changes.{Change, Sets}
use Rattle.t3_kinds.specs.Inner.Deeds.{change_of, changes_of}
use Rattle.t3_kinds.proofs.Elements.{moved-more}
use Rattle.t3_kinds.proofs.vectors.moved_elements.Goals as goal

pub loop-number-preserved : goal.loop-number-preserved
loop-number-preserved c =
    let at = c.loop-number in
    let vector = c.args.vector.now in
    ap changes_of c.in_ok-push.ensures.items ∙ map-append change_of at.changes.items _
    ∙ ap (λ (x : List Change). x ++ Sets vector.number (Elem at.number) c.get-next.result ∷ []) at.invariant
    ∙ moved-more vector.number c.args.first at.number vector.length vector.object c.get-next.result c.requires.vector c.get-next.ensures
    at.auto.number c.loop-number-test.true
