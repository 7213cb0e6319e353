-- Objects for tests, with any superclasses.
use Rattle.std.specs.Prelude.{ℕ, List, slice_get}
use Rattle.std.specs.Global.{Vec}
use Rattle.std.specs.Option.{option_map}
use Rattle.t3_tadsobj.specs.Order.{SupersAt}

-- each list has the superclasses of the object of its number
abbrev pub listed_at : List (Vec ℕ) → SupersAt
listed_at lists n = option_map (λ list. list.items) (slice_get lists n)
