use Rattle.std.proofs.Common.{◌≡◌, ◌-◌, true, false, refl, sym, subst, ◌∙◌, ℕ, Some, arith}
use Rattle.t3_methods.specs.Inner.Window.{are_cased}
use Rattle.t3_methods.specs.declared.kind.Kind.TheVariants.{Cases}
use Rattle.t3_methods.specs.Inner.Cases.{FindsEnd}
use Rattle.t3_methods.proofs.Ending.{cased_wide, ends_missing, ends_unnamed, ends_named}
use Rattle.t3_methods.proofs.operands.instruction_end.Goals as goal

pub returns-then-window-end : goal.returns-then-window-end
returns-then-window-end c =
    let less = c.if-window-end.true in
    let some = c.requires.opcode in
    ends_missing c.args.pools.now.code c.args.window 1 c.args.row.now.kinds.now c.requires.shows (omega arith) c.requires.room c.requires.last
    (omega (arith, c.requires.end))

pub returns-then-not-row : goal.returns-then-not-row
returns-then-not-row c =
    let enough = c.if-window-end.false in
    ends_unnamed c.args.pools.now.code c.args.window 1 c.args.row.now.kinds.now c.requires.shows (omega (arith, c.requires.end)) c.requires.last
    (sym c.requires.named ∙ c.if-not-row.true)

pub overflow_sub-end : goal.overflow_sub-end
overflow_sub-end c =
    let wide = cased_wide c.args.row.now.kinds.now (sym c.requires.cases ∙ c.if-row.true) in
    omega (arith, wide, c.requires.end)

pub cases_end-requires-clause-behind : goal.cases_end-requires-clause-behind
cases_end-requires-clause-behind c =
    let enough = c.if-window-end.false in
    let wide = cased_wide c.args.row.now.kinds.now (sym c.requires.cases ∙ c.if-row.true) in
    omega (arith, wide, c.requires.end)

pub returns-then-row : goal.returns-then-row
returns-then-row c =
    let code = c.args.pools.now.code in
    let w = c.args.window in
    let kinds = c.args.row.now.kinds.now in
    let end : ℕ = c.args.row.now.end in
    let enough = c.if-window-end.false in
    let cased : are_cased kinds ≡ true = sym c.requires.cases ∙ c.if-row.true in
    ends_named code w 1 end kinds c.cases_end.result c.requires.shows c.requires.opcode c.requires.end (omega arith) c.requires.last
    (sym c.requires.named ∙ c.if-not-row.false) (
      (λ none. let clash : true ≡ false = sym cased ∙ none in absurd cc),
      λ yes at is.
          let here : end - 2 ≡ at = omega (arith, is) in
          subst (λ (n : ℕ). FindsEnd code w n Cases c.cases_end.result) here c.cases_end.ensures,
    )

pub returns : goal.returns
returns c =
    let code = c.args.pools.now.code in
    let w = c.args.window in
    let kinds = c.args.row.now.kinds.now in
    let enough = c.if-window-end.false in
    let uncased : are_cased kinds ≡ false = sym c.requires.cases ∙ c.if-row.false in
    ends_named code w 1 c.args.row.now.end kinds (Some c.args.row.now.end) c.requires.shows c.requires.opcode c.requires.end (omega arith)
    c.requires.last (sym c.requires.named ∙ c.if-not-row.false) (
      (λ none. refl),
      λ yes at is. (let clash : false ≡ true = sym uncased ∙ yes in absurd cc),
    )
