-- How a pool is kept: its page size, and the bytes of its pages by their indices.
use Rattle.std.specs.Prelude.{◌≡◌, ℕ, ◌+◌, ◌*◌, ◌/◌, ◌%◌, ◌^◌, ◌<◌, ◌≤◌, ◌==◌, nat_lt, false, List, [], ◌∷◌, length, Option, Some, None, drop, if◌then◌else◌}
use Rattle.std.specs.List.{AllByRecursion, flat_map, list_any, slice_get}
use Rattle.std.specs.FinMap.{get, from_entries}
use Rattle.t3_holder.specs.NumberText.{AreBytes}
use Rattle.t3_pools.specs.Pool.{Pool, PagedPoolValue, Paged, page_bytes, HasBytes, ReachesPageEnd}
use Rattle.t3_pools.specs.Constants.{IsOfBytes}

-- pages with their indices, from an index on
abbrev pub paged_from : ℕ → List (List ℕ) → List Paged
paged_from at [] = []
paged_from at (page ∷ pages) = record { pool = 0; index = at; bytes = page } ∷ paged_from (at + 1) pages

-- the pool of such pages
unfoldable pub kept_bytes : ℕ → List (List ℕ) → Pool
kept_bytes size pages = from_entries (flat_map (page_bytes size) (paged_from 0 pages))

-- a pool that is kept so
abbrev pub kept_pool : ℕ → List (List ℕ) → PagedPoolValue
kept_pool size pages = record { bytes = kept_bytes size pages; page_size = size }

-- no page is longer than the page size, all addresses are below 2^31, and what the pages have are bytes
pub record IsKept (size : ℕ) (pages : List (List ℕ)) : Type 0 where
  pub fits : list_any (λ page. nat_lt size (length page)) pages ≡ false
  pub narrow : length pages * size < 2 ^ 31
  pub bytes : AllByRecursion AreBytes pages

-- the bytes of a page, none where there is no page
abbrev pub bytes_of : Option (List ℕ) → List ℕ
bytes_of None = []
bytes_of (Some page) = page

-- the bytes from an address to the end of its page
unfoldable pub run_in : ℕ → List (List ℕ) → ℕ → List ℕ
run_in size pages address = if size == 0 then [] else drop (address % size) (bytes_of (slice_get pages (address / size)))

-- the bytes from an address to the end of its page, which end below 2^31; none exactly where no byte stands there. No byte stands at
-- 2^31 or beyond, and each is below 256
pub record Runs (size : ℕ) (pool : Pool) (address : ℕ) (run : List ℕ) : Type 0 where
  pub stand : HasBytes pool address run
  pub empty : run ≡ [] → get pool address ≡ None
  pub narrow : 0 < length run → address + length run < 2 ^ 31
  pub whole : ReachesPageEnd size pool address run
  pub beyond : (far : ℕ) → 2 ^ 31 ≤ far → get pool far ≡ None
  pub bytes : IsOfBytes pool
