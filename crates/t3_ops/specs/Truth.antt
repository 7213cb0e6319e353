-- Which values are true.
use Rattle.std.specs.Prelude.{Bool, true, false, zero, pos}
use Rattle.t3_holder.specs.declared.holder.Holder.{Holder}
use Rattle.t3_holder.specs.declared.holder.Holder.TheVariants.{Nil, Int}

-- nil and the integer 0 are false, all else is true
abbrev pub truth_of : Holder → Bool
truth_of Nil = false
truth_of (Int (pos zero)) = false
truth_of _ = true
