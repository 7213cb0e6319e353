use Rattle.std.proofs.Common.{length, sym, ap, ◌∙◌}
use Rattle.t3_blocks.specs.Spelling.{meta_text}
use Rattle.t3_asm.specs.Blocks.{meta_of, props_of}
use Rattle.t3_asm.specs.Source.{is_many}
use Rattle.t3_asm.proofs.Steps.{or_left, or_right}
use Rattle.t3_asm.proofs.checks.is_crowded_meta.Goals as goal

pub returns-then-is_many : goal.returns-then-is_many
returns-then-is_many c labels =
    let meta = meta_of c.args.item.now c.args.behind.now in
    c.if-is_many.true
    ∙ or_left (is_many (length (props_of c.args.behind.now))) (is_many (length (meta_text meta)))
    (ap is_many (sym (c.count.ensures labels)) ∙ sym c.if-is_many.ensures)

pub returns-else-is_many : goal.returns-else-is_many
returns-else-is_many c labels =
    let meta = meta_of c.args.item.now c.args.behind.now in
    c.is_large.ensures (length (meta_text meta)) (c.measure.ensures labels)
    ∙ or_right (is_many (length (props_of c.args.behind.now))) (is_many (length (meta_text meta)))
    (ap is_many (sym (c.count.ensures labels)) ∙ sym c.if-is_many.ensures)
