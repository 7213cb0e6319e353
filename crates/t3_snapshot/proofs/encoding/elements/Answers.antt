use Rattle.std.proofs.Common.{sym, ap, ◌∙◌, arith, Some, length, ◌<◌, ◌+◌}
use Rattle.std.specs.Prelude.{unwrap_or}
use Rattle.std.proofs.lemmas.List.{take_all}
use Rattle.t3_holder.specs.declared.holder.Holder.TheVariants.{Nil}
use Rattle.t3_undo.specs.declared.cell.Cell.TheVariants.{Elem}
use Rattle.t3_store.specs.Value.{Vector, holder_at}
use Rattle.t3_snapshot.proofs.Trim.{one_item, element_is}
use Rattle.t3_snapshot.proofs.encoding.elements.Goals as goal

pub loop-index-preserved : goal.loop-index-preserved
loop-index-preserved c = λ items is.
    let same = one_item _ _ (sym is ∙ c.requires.1) in
    let lt : c.loop-index.index < length items = omega (arith, ap length same, c.requires.2, c.loop-index-test.true) in
    element_is items c.loop-index.index c.loop-index.holders.items c.push.new.self.items _ lt (c.loop-index.invariant items is)
    (c.element.ensures ∙ ap (λ o. unwrap_or (holder_at o (Elem (c.loop-index.index + 1))) Nil) is) c.in_ok-push.ensures.items

pub returns : goal.returns
returns c =
    c.requires.1 ∙ ap (λ xs. Some (Vector xs))
    (sym (c.loop-index.invariant c.requires.0 c.requires.1 ∙ take_all _ _ (omega (arith, c.requires.2, c.loop-index-test.false))))
