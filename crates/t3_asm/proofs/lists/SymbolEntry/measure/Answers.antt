use Rattle.std.proofs.Common.{arith}
use Rattle.t3_blocks.proofs.Sizes.{length_symbol_text}
use Rattle.t3_asm.specs.Blocks.{symbol_of}
use Rattle.t3_asm.proofs.lists.SymbolEntry.measure.Goals as goal

pub returns : goal.returns
returns c labels = omega (arith, length_symbol_text (symbol_of labels c.args.item.now c.args._behind.now), c.text_size.ensures)
