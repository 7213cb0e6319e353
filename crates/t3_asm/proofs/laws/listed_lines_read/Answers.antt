use Rattle.t3_asm.specs.Listing.{listed_lines, listing}
use Rattle.t3_asm.proofs.ListedFit.{lines_listed}
use Rattle.t3_asm.proofs.laws.listed_lines_read.Goals as goal

pub returns : goal.returns
unfolding listing
returns c image valid bytes = c.lines_read.ensures.listing (listed_lines image) (lines_listed image valid bytes)
