use Rattle.std.proofs.Common.{[], ◌∷◌, ◌++◌, ◌+◌, Some, List, ap, ◌∙◌}
use Rattle.std.proofs.lemmas.List.{map-append}
use Rattle.t3_holder.specs.declared.holder.Holder.TheVariants.{Nil}
use Rattle.t3_undo.specs.declared.cell.Cell.TheVariants.{Elem}
use Rattle.t3_kinds.specs.Changes.{Change, Sets}
use Rattle.t3_kinds.specs.Inner.Deeds.{change_of, changes_of}
use Rattle.t3_kinds.proofs.Elements.{nil-more}
use Rattle.t3_kinds.proofs.vectors.nil_elements.Goals as goal

pub loop-index-preserved : goal.loop-index-preserved
loop-index-preserved c =
    let at = c.loop-index in
    ap changes_of c.in_ok-push.ensures.items ∙ map-append change_of at.changes.items _
    ∙ ap (λ (x : List Change). x ++ Sets c.args.object (Elem (c.args.first + at.index)) (Some Nil) ∷ []) at.invariant
    ∙ nil-more c.args.object c.args.first at.index
