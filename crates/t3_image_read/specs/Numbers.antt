-- The numbers of the rules by which images are refused.
use Rattle.std.specs.Prelude.{ℕ}
use Rattle.t3_image_read.specs.declared.refusal.ReadWhy.{ReadWhy}
use Rattle.t3_image_read.specs.declared.refusal.ReadWhy.TheVariants.{Signature, Version, TooLong, TooMany, UnknownMandatory, Malformed, EofSize, Truncated}

abbrev pub number_of : ReadWhy → ℕ
number_of Signature = 1
number_of Version = 2
number_of TooLong = 3
number_of TooMany = 4
number_of UnknownMandatory = 5
number_of (Malformed items) = 6
number_of EofSize = 7
number_of Truncated = 8
