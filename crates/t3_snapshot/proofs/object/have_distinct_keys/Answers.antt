use Rattle.std.proofs.Common.{sym, ap, subst, ◌∙◌, add-one, arith, ◌≡◌, take, not, map, ◌++◌, ◌∷◌, [], List, true}
use Rattle.std.proofs.lemmas.List.{take_all}
use Rattle.std.specs.List.{list_any}
use Rattle.t3_undo.specs.declared.key.Key.{Key}
use Rattle.t3_snapshot.specs.Layout.{keys_of}
use Rattle.t3_snapshot.specs.Inner.Reading.{are_distinct}
use Rattle.t3_snapshot.proofs.Keys.{same, not_added, is_added}
use Rattle.t3_snapshot.proofs.object.have_distinct_keys.Goals as goal

pub returns-then-not-branch : goal.returns-then-not-branch
returns-then-not-branch c =
    let keys : List Key = map (λ key. key.now) c.loop-pair.seen.keys in
    sym (not_added c.args.pairs.now c.loop-pair.pair-index c.pair-item.result keys c.in_ok-add_key.field-0 c.loop-pair-test.true
    c.loop-pair.invariant.0
    (c.in_ok-add_key.ensures.added ∙ ap (λ p. not (list_any (same p.key) keys)) c.pair-item.is) c.if-not-branch.true)

pub loop-pair-preserved : goal.loop-pair-preserved
loop-pair-preserved c =
    let keys : List Key = map (λ key. key.now) c.loop-pair.seen.keys in
    let new : List Key = map (λ key. key.now) c.add_key.new.seen.keys in
    rw add-one (is_added c.args.pairs.now c.loop-pair.pair-index c.pair-item.result keys new c.in_ok-add_key.field-0 c.loop-pair-test.true
    c.loop-pair.invariant.0 c.loop-pair.invariant.1
    (c.in_ok-add_key.ensures.added ∙ ap (λ p. not (list_any (same p.key) keys)) c.pair-item.is) c.if-not-branch.false
    (c.in_ok-add_key.ensures.keys c.if-not-branch.false ∙ ap (λ p. keys ++ p.key ∷ []) c.pair-item.is))

pub returns : goal.returns
returns c =
    let whole : take c.loop-pair.pair-index c.args.pairs.now ≡ c.args.pairs.now = take_all _ _ (omega arith) in
    sym (subst (λ ps. are_distinct (keys_of ps) ≡ true) whole c.loop-pair.invariant.1)
