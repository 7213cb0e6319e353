-- What building pools answers is decided by what the image keeps or breaks.
use Rattle.std.proofs.Common.{◌≡◌, List, Result, Ok, Err}
use Rattle.t3_image_read.specs.declared.image.PlacedBlock.{PlacedBlock}
use Rattle.t3_pools.specs.declared.refusal.PoolRefusal.{PoolRefusal}
use Rattle.t3_pools.specs.declared.refusal.PoolRefusal.TheVariants.{NoCode, TwoDefs, TooWide, PageIndex, PageTwice, PageMissing, PageLong, NoMemory}
use Rattle.t3_pools.specs.Pool.{PoolsValue, pools_in}
use Rattle.t3_pools.specs.Building.{rules, Breaks, BreaksFirst, KeepsRules, Builds, GivesOnly, GivesRefusal}
use Rattle.t3_pools.proofs.Firsts.{none_first, one_first}

-- an image that keeps all rules gives its pools
pub only_kept : (blocks : List PlacedBlock) (result : Result PoolsValue PoolRefusal) → Builds blocks result → KeepsRules blocks
    → GivesOnly (pools_in blocks) result
only_kept blocks (Ok pools) builds kept = builds.1
only_kept blocks (Err NoMemory) builds kept = tt
only_kept blocks (Err why) builds kept = none_first (λ rule. Breaks rule blocks) rules kept why builds

-- one that breaks a rule gives the first
pub refuses_first : (blocks : List PlacedBlock) (why : PoolRefusal) (result : Result PoolsValue PoolRefusal) → Builds blocks result
    → BreaksFirst blocks why → GivesRefusal why result
refuses_first blocks why (Ok pools) builds first = none_first (λ rule. Breaks rule blocks) rules builds.0 why first
refuses_first blocks why (Err NoMemory) builds first = tt
refuses_first blocks why (Err answer) builds first = one_first (λ rule. Breaks rule blocks) rules answer why builds first
