use Rattle.std.proofs.Common.{sym, ap, ◌∙◌, arith}
use Rattle.std.specs.Option.{is_some}
use Rattle.t3_pools.proofs.Placing.{two_sheets}
use Rattle.t3_pools.proofs.sheets.sorted.Goals as goal

pub returns-then-is_some : goal.returns-then-is_some
returns-then-is_some c =
    let sheet = c.sheet-item.result in
    let found = ap (λ o. is_some o) (sym c.in_ok-insert.ensures.old) ∙ sym c.is_some.ensures ∙ c.if-is_some.true in
    (sheet.index, two_sheets c.args.sheets.now c.loop-sheet.sheet-index sheet _ (omega arith) c.sheet-item.is found (c.loop-sheet.invariant sheet.index))
