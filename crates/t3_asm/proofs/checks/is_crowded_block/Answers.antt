use Rattle.std.proofs.Common.{sym, ap, ◌∙◌}
use Rattle.t3_asm.specs.Source.{is_many, is_crowded_block}
use Rattle.t3_asm.proofs.checks.is_crowded_block.Goals as goal

pub returns-in-Metaclasses : goal.returns-in-Metaclasses
returns-in-Metaclasses c labels =
    c.is_many.ensures ∙ ap is_many (c.count.ensures labels) ∙ ap (is_crowded_block labels c.args.behind.now) (sym c.in-Metaclasses.is)

pub returns-in-FunctionSets : goal.returns-in-FunctionSets
returns-in-FunctionSets c labels =
    c.is_many-in-FunctionSets.ensures ∙ ap is_many (c.count-in-FunctionSets.ensures labels)
    ∙ ap (is_crowded_block labels c.args.behind.now) (sym c.in-FunctionSets.is)
