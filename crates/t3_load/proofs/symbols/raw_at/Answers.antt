use Rattle.std.proofs.Common.{◌∙◌}
use Rattle.t3_load.proofs.FirstSymbols.{lookup_listed}
use Rattle.t3_load.proofs.symbols.raw_at.Goals as goal

pub returns : goal.returns
returns c = let h = c.get.ensures.value in let k = c.copied.ensures in k ∙ h ∙ lookup_listed c.args.named.now.entries c.args.name.now
