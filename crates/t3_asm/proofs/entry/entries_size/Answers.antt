use Rattle.std.proofs.Common.{◌≡◌, true, length, sym, ap, ◌∙◌, arith}
use Rattle.std.specs.List.{flat_map}
use Rattle.t3_asm.specs.Blocks.{ends}
use Rattle.t3_asm.proofs.Steps.{entries_ended, entries_past}
use Rattle.t3_asm.proofs.entry.entries_size.Goals as goal

pub returns-then-is_ended_by : goal.returns-then-is_ended_by
returns-then-is_ended_by g c labels =
    let entry = g.E.Entry in
    let item = c.index-items-at.result in
    let ended : ends entry.level item.keyword ≡ true = ap (λ l. ends l item.keyword) (sym c.level.ensures) ∙ sym c.if-is_ended_by.ensures in
    let none = entries_ended entry.level entry.begins
    (entry.entry labels) c.args.items.now c.loop-at.at item c.index-items-at.is c.loop-at-test.true ended in
    omega (arith, c.loop-at.invariant.0, c.loop-at.invariant.1 labels, ap (λ e. length (flat_map (entry.text c.args.width) e)) none)

pub returns : goal.returns
returns g c labels =
    let entry = g.E.Entry in
    let none = entries_past entry.level entry.begins (entry.entry labels) c.args.items.now c.loop-at.at c.loop-at-test.false in
    omega (arith, c.loop-at.invariant.0, c.loop-at.invariant.1 labels, ap (λ e. length (flat_map (entry.text c.args.width) e)) none)
