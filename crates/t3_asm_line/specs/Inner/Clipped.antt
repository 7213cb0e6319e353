-- A number as the code keeps it: exact up to a limit far above what any field holds.
use Rattle.std.specs.Prelude.{ℕ, ℤ, pos, negsuc, neg_ℤ, suc, ◌^◌, min}

abbrev pub far : ℕ
far = 2 ^ 40

-- a number from 0 on, or the limit where it is greater
abbrev pub near : ℕ → ℤ
near n = pos (min n far)

-- a number that is further from 0 than the limit becomes the limit, with its sign
abbrev pub clipped : ℤ → ℤ
clipped (pos n) = near n
clipped (negsuc n) = neg_ℤ (near (suc n))
