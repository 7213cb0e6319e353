use Rattle.std.proofs.Common.{◌≡◌, ◌+◌, [], ◌∷◌, ◌++◌, List, length, length-append, take, drop, sym, ap, ◌∙◌, arith}
use Rattle.t3_holder.specs.declared.holder.Holder.{Holder}
use Rattle.t3_ops.specs.References.{elements_of}
use Rattle.t3_kinds.proofs.Finding.{take-next}
use Rattle.t3_kinds.proofs.lists.items_in.Goals as goal

pub loop-items-preserved : goal.loop-items-preserved
loop-items-preserved c =
    let at = c.loop-items in
    let xs = elements_of c.args.pools.now.constants c.args.items in
    let rest = drop c.args.part.skipped xs in
    let count = length at.found.items in
    let item = c.in-Some.item in
    let long : length c.push.new.self.items ≡ count + 1 =
    ap (λ (x : List Holder). length x) c.in_ok-push.ensures.items ∙ length-append at.found.items (item ∷ []) in
    let place = at.invariant.index in
    let less = c.loop-items-test.true in
    let known = c.len-in-loop-items.ensures in
    record {
      items = c.in_ok-push.ensures.items ∙ ap (λ (x : List Holder). x ++ item ∷ []) at.invariant.items
          ∙ sym (take-next xs c.args.part.skipped count at.index item place c.in-Some.ensures.element)
          ∙ ap (λ n. take n rest) (sym long);
      index = omega (arith, place, long);
      within = omega (arith, long, less, known);
    }
