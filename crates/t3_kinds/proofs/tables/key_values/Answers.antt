use Rattle.std.proofs.Common.{[], ◌∷◌, ◌++◌, ◌+◌, ◌≡◌, take, ap, sym, ◌∙◌, arith}
use Rattle.std.proofs.lemmas.List.{take_more}
use Rattle.t3_tables.specs.declared.pair.Pair.{Pair}
use Rattle.t3_kinds.specs.TableMethods.{key_value, key_values, key_text, next_after, number_after}
use Rattle.t3_kinds.proofs.Keys.{key_values-more, number_after-more}
use Rattle.t3_kinds.proofs.tables.key_values.Goals as goal

pub loop-pair-preserved : goal.loop-pair-preserved
loop-pair-preserved c =
    let at = c.loop-pair in
    let pairs = c.args.pairs.now in
    let first = c.args.first in
    let pair = c.pair-item.result in
    let so_far = take at.pair-index pairs in
    let more : take (at.pair-index + 1) pairs ≡ so_far ++ pair ∷ [] =
    take_more pairs at.pair-index pair c.loop-pair-test.true ∙ ap (λ (p : Pair). so_far ++ p ∷ []) (sym c.pair-item.is) in
    let value : c.key_value.result ≡ key_value (number_after first so_far) pair.key =
    c.key_value.ensures ∙ ap (λ n. key_value n pair.key) at.invariant.next in
    let before = at.invariant.within in
    let step = c.next_after-next.ensures.within in
    record {
      items = c.in_ok-push.ensures.items ∙ (λ i. at.invariant.items i ++ value i ∷ []) ∙ sym (key_values-more first so_far pair)
          ∙ ap (key_values first) (sym more);
      next = c.next_after-next.ensures.after ∙ ap (next_after (key_text pair.key)) at.invariant.next
          ∙ sym (number_after-more first so_far pair) ∙ ap (number_after first) (sym more);
      within = omega (arith, before, step);
    }
