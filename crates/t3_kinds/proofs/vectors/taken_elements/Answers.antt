use Rattle.std.proofs.Common.{[], ◌∷◌, ◌++◌, ◌+◌, ◌-◌, suc, ◌≡◌, None, List, ap, ◌∙◌, arith}
use Rattle.std.proofs.lemmas.List.{map-append}
use Rattle.t3_undo.specs.declared.cell.Cell.TheVariants.{Elem}
use Rattle.t3_kinds.specs.Changes.{Change, Sets}
use Rattle.t3_kinds.specs.VectorMethods.{elements_taken}
use Rattle.t3_kinds.specs.Inner.Deeds.{change_of, changes_of}
use Rattle.t3_kinds.proofs.Elements.{take-more}
use Rattle.t3_kinds.proofs.vectors.taken_elements.Goals as goal

pub loop-index-preserved : goal.loop-index-preserved
loop-index-preserved c =
    let at = c.loop-index in
    let next : suc at.index ≡ at.index + 1 = omega arith in
    let within = c.requires in
    let below = c.loop-index-test.true in
    ap changes_of c.in_ok-push.ensures.items ∙ map-append change_of at.changes.items _
    ∙ ap (λ (x : List Change). x ++ Sets c.args.object (Elem (c.args.last - at.index)) None ∷ []) at.invariant
    ∙ take-more c.args.object c.args.last at.index (c.args.last - at.index) (omega (arith, within, below))
    ∙ ap (elements_taken c.args.object c.args.last) next
