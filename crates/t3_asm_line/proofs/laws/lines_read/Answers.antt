use Rattle.t3_asm_line.proofs.LineLaws.{value_of-spelled, line_of-listed_line, lines_of-listing_of}
use Rattle.t3_asm_line.proofs.laws.lines_read.Goals as goal

pub returns : goal.returns
returns c = record { fields = value_of-spelled; lines = line_of-listed_line; listing = lines_of-listing_of }
