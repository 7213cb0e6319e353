use Rattle.t3_asm.proofs.ListingLength.{listing_few}
use Rattle.t3_asm.proofs.ListingSays.{listing_satisfies}
use Rattle.t3_asm.proofs.laws.listing_satisfies.Goals as goal

pub returns-clause-satisfied : goal.returns-clause-satisfied
returns-clause-satisfied c image valid bytes = listing_satisfies image valid (c.listing_formed.ensures image valid bytes)

pub returns-clause-few_lines : goal.returns-clause-few_lines
returns-clause-few_lines c image valid bytes = listing_few image valid (c.listed_lines_read.ensures image valid bytes)
