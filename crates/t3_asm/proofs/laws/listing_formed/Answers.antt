use Rattle.t3_asm.proofs.ListingFormed.{listing_formed}
use Rattle.t3_asm.proofs.laws.listing_formed.Goals as goal

pub returns : goal.returns
returns c image valid bytes = listing_formed image valid (c.listed_lines_read.ensures image valid bytes)
