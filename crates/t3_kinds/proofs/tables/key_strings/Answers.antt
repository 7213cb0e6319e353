use Rattle.std.proofs.Common.{[], ◌∷◌, ◌++◌, ◌+◌, ◌≡◌, List, take, ap, sym, ◌∙◌}
use Rattle.std.proofs.lemmas.List.{take_more}
use Rattle.t3_tables.specs.declared.pair.Pair.{Pair}
use Rattle.t3_kinds.specs.Changes.{Change}
use Rattle.t3_kinds.specs.TableMethods.{key_strings, key_text, with_string}
use Rattle.t3_kinds.proofs.Keys.{key_strings-more}
use Rattle.t3_kinds.proofs.tables.key_strings.Goals as goal

pub loop-pair-preserved : goal.loop-pair-preserved
loop-pair-preserved c =
    let at = c.loop-pair in
    let pairs = c.args.pairs.now in
    let pair = c.pair-item.result in
    let so_far = take at.pair-index pairs in
    let more : take (at.pair-index + 1) pairs ≡ so_far ++ pair ∷ [] =
    take_more pairs at.pair-index pair c.loop-pair-test.true ∙ ap (λ (p : Pair). so_far ++ p ∷ []) (sym c.pair-item.is) in
    c.in_ok-push_string.ensures
    ∙ ap (λ (x : List Change). x ++ with_string (key_text pair.key) []) at.invariant
    ∙ sym (key_strings-more so_far pair) ∙ ap key_strings (sym more)
