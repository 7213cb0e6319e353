-- Sizes, as far as the code counts them.
use Rattle.std.specs.Prelude.{ℕ, ◌-◌, ◌^◌, min}

-- a size, or the greatest number that is kept of one
abbrev pub near : ℕ → ℕ
near size = min size (2 ^ 64 - 1)
