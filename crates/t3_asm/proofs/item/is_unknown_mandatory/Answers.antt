use Rattle.t3_asm.proofs.item.is_unknown_mandatory.Goals as goal

pub returns : goal.returns
returns c = c.is_unknown_mandatory.ensures c.args.name c.of.ensures
