use Rattle.std.proofs.Common.{◌≡◌, List, length, sym, ap, subst, ◌∙◌, arith}
use Rattle.std.proofs.lemmas.List.{length-map}
use Rattle.t3_store.specs.Value.{Value}
use Rattle.std.specs.Prelude.{Option}
use Rattle.t3_ops.specs.Elements.{IsVectorOf}
use Rattle.t3_ops.proofs.Appending.{vector-length}
use Rattle.t3_kinds.specs.Changes.{Change}
use Rattle.t3_kinds.specs.VectorMethods.{answers_self, length_changes}
use Rattle.t3_kinds.specs.Inner.Deeds.{change_of, changes_of, CanAllBeDone}
use Rattle.t3_kinds.proofs.Elements.{resizing}
use Rattle.t3_kinds.proofs.vectors.resized.Goals as goal

pub returns : goal.returns
returns c =
    let vector = c.args.vector.now in
    let s = c.args.store.now.store in
    let long = vector-length vector.object vector.length c.requires.long in
    let fits = c.ranges.wanted.fits in
    let are : changes_of c.in_ok-changes.changes.items ≡ length_changes vector.number vector.length c.args.wanted = c.in_ok-changes.ensures ∙ ap (length_changes vector.number vector.length) c.from.ensures in
    let can = resizing vector.number vector.length c.args.wanted s (subst (λ (o : Option Value). IsVectorOf o vector.length) c.requires.object c.requires.long)
    c.requires.few (omega (arith, fits)) in
    let all = length-map c.in_ok-changes.changes.items change_of in
    let same = ap (λ (x : List Change). length x) are in
    let few = can.1 in (
      ap (answers_self vector.number) (are ∙ ap (λ n. length_changes vector.number n c.args.wanted) (sym long)),
      (subst (λ (x : List Change). CanAllBeDone x s) (sym are) can.0, omega (arith, all, same, few)),
    )
