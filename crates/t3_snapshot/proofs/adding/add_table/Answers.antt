use Rattle.std.proofs.Common.{ap, sym, subst, ◌∙◌, reverse, arith, ◌≡◌, ◌∷◌, []}
use Rattle.std.proofs.lemmas.List.{reverse-append, reverse-reverse, nil_from_length}
use Rattle.t3_tables.specs.declared.pair.Pair.{Pair}
use Rattle.t3_snapshot.proofs.OneMore.{begun, table_without, filled_more, full_table, all_filled, emptied, IsFilling, by_true, by_false, is_table}
use Rattle.t3_snapshot.proofs.adding.add_table.Goals as goal

pub returns-then-not-branch : goal.returns-then-not-branch
returns-then-not-branch c =
    emptied c.args.state.now c.args.number c.args.pairs.items c.args.default c.requires.new
    (by_false _ _ _ c.in_ok-add_made.ensures c.if-not-branch.true)

pub set_default-requires : goal.set_default-requires
set_default-requires c =
    record { table = is_table _ _ _ (by_true _ _ _ c.in_ok-add_made.ensures c.if-not-branch.false) }

pub loop-key-init : goal.loop-key-init
loop-key-init c =
    let made = by_true _ _ _ c.in_ok-add_made.ensures c.if-not-branch.false in
    let filling =
    begun c.args.state.now c.add_made.new.state c.set_default.new.self c.args.number c.args.pairs.items c.args.default made
    c.set_default.ensures in
    subst (λ ps. IsFilling c.args.state.now c.set_default.new.self c.args.number c.args.pairs.items c.args.default ps)
    (sym (ap reverse c.reverse.ensures.items ∙ reverse-reverse c.args.pairs.items)) filling

pub add_entry-requires : goal.add_entry-requires
add_entry-requires c =
    let pair : Pair = c.in-Some.field-0 in
    let turned : reverse c.loop-key.pairs.items ≡ pair ∷ reverse c.pop.new.self.items =
    ap reverse c.in-Some.ensures.items ∙ reverse-append c.pop.new.self.items (pair ∷ []) in
    let filling =
    subst (λ ps. IsFilling c.args.state.now c.loop-key.state c.args.number c.args.pairs.items c.args.default ps) turned
    c.loop-key.invariant in
    record { table = table_without _ _ _ _ _ pair _ filling c.requires.distinct }

pub returns-then-not-branch-2 : goal.returns-then-not-branch-2
returns-then-not-branch-2 c =
    let pair : Pair = c.in-Some.field-0 in
    let turned : reverse c.loop-key.pairs.items ≡ pair ∷ reverse c.pop.new.self.items =
    ap reverse c.in-Some.ensures.items ∙ reverse-append c.pop.new.self.items (pair ∷ []) in
    let filling =
    subst (λ ps. IsFilling c.args.state.now c.loop-key.state c.args.number c.args.pairs.items c.args.default ps) turned
    c.loop-key.invariant in
    full_table _ _ _ _ _ pair _ c.requires.new filling (by_false _ _ _ c.in_ok-add_entry.ensures c.if-not-branch-2.true)

pub loop-key-smaller : goal.loop-key-smaller
loop-key-smaller c = omega (arith, c.in-Some.ensures.cases)

pub loop-key-preserved : goal.loop-key-preserved
loop-key-preserved c =
    let pair : Pair = c.in-Some.field-0 in
    let turned : reverse c.loop-key.pairs.items ≡ pair ∷ reverse c.pop.new.self.items =
    ap reverse c.in-Some.ensures.items ∙ reverse-append c.pop.new.self.items (pair ∷ []) in
    let filling =
    subst (λ ps. IsFilling c.args.state.now c.loop-key.state c.args.number c.args.pairs.items c.args.default ps) turned
    c.loop-key.invariant in
    filled_more _ _ _ _ _ _ pair _ filling c.requires.distinct (by_true _ _ _ c.in_ok-add_entry.ensures c.if-not-branch-2.false)

pub returns : goal.returns
returns c =
    let none : c.loop-key.pairs.items ≡ [] = nil_from_length _ (omega (arith, c.in_default.ensures.cases.0)) in
    all_filled _ _ _ _ _ (subst (λ ps. IsFilling c.args.state.now c.loop-key.state c.args.number c.args.pairs.items c.args.default
    (reverse ps)) none c.loop-key.invariant)
