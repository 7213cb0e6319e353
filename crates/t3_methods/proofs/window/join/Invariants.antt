use Rattle.std.proofs.Common.{◌≡◌, ◌-◌, ◌++◌, length, take, drop}
use Rattle.t3_holder.specs.NumberText.{little_endian}
use Rattle.t3_methods.proofs.window.join.Given as goal

-- the first bytes of what is left of the front and of the back
abbrev pub invariant-loop-count : goal.invariant-loop-count
invariant-loop-count l = little_endian 8 l.word ≡ take 8 (drop (length l.front - l.count) l.front ++ l.back)
