use Rattle.std.proofs.Common.{◌≡◌, ◌∙◌, sym, ◌-◌, length, drop}
use Rattle.std.specs.List.{list_any}
use Rattle.t3_undo.specs.Objects.{is_of}
use Rattle.t3_undo.specs.Journal.{old_of}
use Rattle.t3_undo.proofs.Noting.{searched}
use Rattle.t3_undo.proofs.newest.is_noted_since.Goals as goal

pub returns-else-is_noted_from : goal.returns-else-is_noted_from
returns-else-is_noted_from c =
    let before : c.len.result - c.args.count ≡ length c.args.records.now.items - c.args.count = λ i. c.len.ensures.len i - c.args.count in
    c.is_noted_from-else-is_noted_from.ensures
    ∙ (λ i. list_any (λ kept. is_of c.args.number c.args.cell.now (old_of kept))
    (drop (c.saturating_sub.ensures i) c.as_slices.result.1.now))
    ∙ searched (λ kept. is_of c.args.number c.args.cell.now (old_of kept)) (c.len.result - c.args.count) c.args.records.now.items
    c.as_slices.result.0.now c.as_slices.result.1.now c.as_slices.ensures (sym c.is_noted_from.ensures ∙ c.if-is_noted_from.false)
    ∙ λ i. list_any (λ kept. is_of c.args.number c.args.cell.now (old_of kept)) (drop (before i) c.args.records.now.items)
