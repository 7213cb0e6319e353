use Rattle.std.proofs.Common.{◌≡◌, true, cond, List, Err, length, nat_lt, lt-ltb, sym, ap, subst, ◌∙◌, arith}
use Rattle.std.proofs.lemmas.List.{length-map}
use Rattle.std.specs.Prelude.{Option}
use Rattle.t3_store.specs.Value.{Value}
use Rattle.t3_ops.specs.declared.fault.Fault.TheVariants.{IndexRange}
use Rattle.t3_ops.specs.Elements.{vector_items, IsVectorOf}
use Rattle.t3_ops.proofs.Appending.{vector-length}
use Rattle.t3_kinds.specs.Changes.{Change}
use Rattle.t3_kinds.specs.VectorMethods.{answers_self, removing_changes}
use Rattle.t3_kinds.specs.Inner.Deeds.{change_of, changes_of, CanAllBeDone}
use Rattle.t3_kinds.proofs.Elements.{removing}
use Rattle.t3_kinds.proofs.vectors.removal.Goals as goal

pub returns : goal.returns
returns c =
    let vector = c.args.vector.now in
    let s = c.args.store.now.store in
    let items = vector_items vector.object in
    let long = vector-length vector.object vector.length c.requires.long in
    let within = c.if-index-vector.false in
    let are : changes_of c.in_ok-changes.changes.items ≡ removing_changes vector.number items c.args.index = c.in_ok-changes.ensures in
    let can = removing vector.number vector.length c.args.index items s
    (subst (λ (o : Option Value). IsVectorOf o vector.length) c.requires.object c.requires.long) long c.requires.few (omega arith) in
    let all = length-map c.in_ok-changes.changes.items change_of in
    let same = ap (λ (x : List Change). length x) are in
    let few = can.1 in
    let there : nat_lt c.args.index (length items) ≡ true = lt-ltb c.args.index (length items) (omega (arith, long, within)) in (
      ap (answers_self vector.number) are
          ∙ ap (λ b. cond b (answers_self vector.number (removing_changes vector.number items c.args.index)) (Err IndexRange)) (sym there),
      (subst (λ (x : List Change). CanAllBeDone x s) (sym are) can.0, omega (arith, all, same, few)),
    )
