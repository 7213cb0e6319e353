-- The blocks that a reader has taken, as it remembers them: each with those before it.
use Rattle.std.specs.Prelude.{List, [], ◌∷◌, ◌++◌}
use Rattle.t3_image_read.specs.declared.image.PlacedBlock.{PlacedBlock}
use Rattle.t3_image_read.specs.declared.tally.Link.{Link}
use Rattle.t3_image_read.specs.declared.tally.Link.TheVariants.{Start, After}

-- in their order
abbrev pub blocks_of : Link → List PlacedBlock
blocks_of Start = []
blocks_of (After before last) = before ++ last.value ∷ []
