-- Values that were read in front of those that are left.
use Rattle.std.specs.Prelude.{Bool, true, false, List, ◌++◌, Result, Ok, Err}
use Rattle.t3_asm_line.specs.declared.argument.Argument.{Argument}
use Rattle.t3_asm_line.specs.declared.refusal.LineRefusal.{LineRefusal}
use Rattle.t3_asm_line.specs.declared.refusal.LineRefusal.TheVariants.{Range}

-- what all words say, where the front of them says these values, or has one out of range
abbrev pub behind_values : Bool → List Argument → Result (List Argument) LineRefusal → Result (List Argument) LineRefusal
behind_values has_far front (Err refusal) = Err refusal
behind_values false front (Ok values) = Ok (front ++ values)
behind_values true front (Ok values) = Err Range
