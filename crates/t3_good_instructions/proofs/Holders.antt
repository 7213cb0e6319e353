-- Good holders in lists.
use Rattle.std.proofs.Common.{ℕ, zero, suc, List, [], ◌∷◌, take, drop, set, Option, Some, None}
use Rattle.std.specs.List.{AllByRecursion, slice_get}
use Rattle.t3_holder.specs.declared.holder.Holder.{Holder}
use Rattle.t3_frames.specs.Frame.{topmost_two}

-- one that is there is good
abbrev pub IsGoodIfAny : (Holder → Type 0) → Option Holder → Type 0
IsGoodIfAny Good None = Unit {0}
IsGoodIfAny Good (Some value) = Good value

pub good-take : (Good : Holder → Type 0) (count : ℕ) (values : List Holder) → AllByRecursion Good values
    → AllByRecursion Good (take count values)
good-take Good zero values good = tt
good-take Good (suc count) [] good = tt
good-take Good (suc count) (value ∷ values) good = (good.0, good-take Good count values good.1)

pub good-drop : (Good : Holder → Type 0) (count : ℕ) (values : List Holder) → AllByRecursion Good values
    → AllByRecursion Good (drop count values)
good-drop Good zero values good = good
good-drop Good (suc count) [] good = tt
good-drop Good (suc count) (value ∷ values) good = good-drop Good count values good.1

pub good-set : (Good : Holder → Type 0) (values : List Holder) (n : ℕ) (value : Holder) → Good value → AllByRecursion Good values
    → AllByRecursion Good (set values n value)
good-set Good [] n value new good = tt
good-set Good (old ∷ values) zero value new good = (new, good.1)
good-set Good (old ∷ values) (suc n) value new good = (good.0, good-set Good values n value new good.1)

pub good-slice_get : (Good : Holder → Type 0) (values : List Holder) (n : ℕ) → AllByRecursion Good values
    → IsGoodIfAny Good (slice_get values n)
good-slice_get Good [] n good = tt
good-slice_get Good (value ∷ values) zero good = good.0
good-slice_get Good (value ∷ values) (suc n) good = good-slice_get Good values n good.1

-- two that are there are good
abbrev pub AreGoodIfAny : (Holder → Type 0) → Option (Holder × Holder) → Type 0
AreGoodIfAny Good None = Unit {0}
AreGoodIfAny Good (Some two) = Good two.0 × Good two.1

pub good-topmost_two : (Good : Holder → Type 0) (values : List Holder) → AllByRecursion Good values
    → AreGoodIfAny Good (topmost_two values)
good-topmost_two Good [] good = tt
good-topmost_two Good (upper ∷ []) good = tt
good-topmost_two Good (upper ∷ lower ∷ rest) good = (good.0, good.1.0)
