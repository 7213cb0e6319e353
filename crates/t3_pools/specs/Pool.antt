-- The pools of an image as finite maps from addresses to bytes (the chapter on the image format).
use Rattle.std.specs.Prelude.{◌≡◌, ℕ, ◌+◌, ◌*◌, ◌%◌, ◌<◌, ◌≤◌, ◌==◌, ◌⊎◌, refl, Some, None, length, List, [], ◌∷◌, if◌then◌else◌}
use Rattle.std.specs.Ordering.{nat_cmp}
use Rattle.std.specs.FinMap.{FinMap, get, from_entries, empty, code as coded_map}
use Rattle.std.specs.List.{flat_map, filter}
use Rattle.std.specs.Coded.{Coded, code_by, coded×, coded_ℕ}
use Rattle.t3_blocks.specs.declared.block.Block.{Block}
use Rattle.t3_blocks.specs.declared.block.Block.TheVariants.{PoolDef, Page}
use Rattle.t3_image_read.specs.declared.image.PlacedBlock.{PlacedBlock}

-- which byte stands at which address
abbrev pub Pool : Type 0
Pool = FinMap nat_cmp ℕ

-- a pool, and the size of the pages in which it is laid out
pub record PagedPoolValue : Type 0 where
  pub bytes : Pool
  pub page_size : ℕ

abbrev pub coded_paged_pool : Coded PagedPoolValue
coded_paged_pool =
    code_by (Pool × ℕ) (coded× (coded_map coded_ℕ coded_ℕ) coded_ℕ) (λ p. (p.bytes, p.page_size))
    (λ t. record { bytes = t.0; page_size = t.1 }) (λ _. refl)

-- the two pools that a story uses, and the sizes of their pages
pub record PoolsValue : Type 0 where
  pub code : Pool
  pub constants : Pool
  pub code_page_size : ℕ
  pub constant_page_size : ℕ

abbrev pub coded_pools : Coded PoolsValue
coded_pools =
    code_by (PagedPoolValue × PagedPoolValue) (coded× coded_paged_pool coded_paged_pool)
    (λ p. (record { bytes = p.code; page_size = p.code_page_size }, record { bytes = p.constants; page_size = p.constant_page_size }))
    (λ t. record { code = t.0.bytes; constants = t.1.bytes; code_page_size = t.0.page_size; constant_page_size = t.1.page_size })
    (λ _. refl)

abbrev pub pools_of : PagedPoolValue → PagedPoolValue → PoolsValue
pools_of code constants = record {
  code = code.bytes;
  constants = constants.bytes;
  code_page_size = code.page_size;
  constant_page_size = constants.page_size;
}

-- the pool of a number: 1 is the code, 2 the constants, and there is no other
abbrev pub numbered : PoolsValue → ℕ → Pool
numbered pools number = if number == 1 then pools.code else (if number == 2 then pools.constants else empty)

-- the page size of the pool of a number
abbrev pub page_size_of : PoolsValue → ℕ → ℕ
page_size_of pools number = if number == 1 then pools.code_page_size else (if number == 2 then pools.constant_page_size else 0)

-- what a block says of the size of a pool
pub record Defined : Type 0 where
  pub pool : ℕ
  pub count : ℕ
  pub size : ℕ

-- what a block says of a page, its bytes without the mask
pub record Paged : Type 0 where
  pub pool : ℕ
  pub index : ℕ
  pub bytes : List ℕ

abbrev pub defined_by : Block → List Defined
defined_by (PoolDef pool count size) = record { pool = pool; count = count; size = size } ∷ []
defined_by _ = []

abbrev pub paged_by : Block → List Paged
paged_by (Page pool index mask bytes) = record { pool = pool; index = index; bytes = bytes } ∷ []
paged_by _ = []

-- all pool definitions and all pages of an image, in order
abbrev pub definitions : List PlacedBlock → List Defined
definitions blocks = flat_map (λ placed. defined_by placed.block) blocks

abbrev pub pages : List PlacedBlock → List Paged
pages blocks = flat_map (λ placed. paged_by placed.block) blocks

-- bytes from an address on
abbrev pub bytes_from : ℕ → List ℕ → List (ℕ × ℕ)
bytes_from at [] = []
bytes_from at (byte ∷ bytes) = (at, byte) ∷ bytes_from (at + 1) bytes

-- a page gives its bytes from its index times the page size on
abbrev pub page_bytes : ℕ → Paged → List (ℕ × ℕ)
page_bytes size page = bytes_from (page.index * size) page.bytes

-- what an image says of one pool: the definitions and the pages of its number, in order
pub record Said : Type 0 where
  pub definitions : List Defined
  pub pages : List Paged

abbrev pub said_of : ℕ → List PlacedBlock → Said
said_of number blocks = record {
  definitions = filter (λ d. d.pool == number) (definitions blocks);
  pages = filter (λ p. p.pool == number) (pages blocks);
}

-- the pool of such definitions and pages: the first definition gives the page size, and without one the pool is empty
abbrev pub pool_of : List Defined → List Paged → Pool
pool_of [] all = empty
pool_of (d ∷ _) all = from_entries (flat_map (page_bytes d.size) all)

-- the pool of a number that the blocks of an image give
unfoldable pub pool_in : ℕ → List PlacedBlock → Pool
pool_in number blocks = pool_of (said_of number blocks).definitions (said_of number blocks).pages

-- the page size by the first definition, 0 where there is none
abbrev pub size_by : List Defined → ℕ
size_by [] = 0
size_by (d ∷ _) = d.size

-- both pools of an image
abbrev pub pools_in : List PlacedBlock → PoolsValue
pools_in blocks = record {
  code = pool_in 1 blocks;
  constants = pool_in 2 blocks;
  code_page_size = size_by (said_of 1 blocks).definitions;
  constant_page_size = size_by (said_of 2 blocks).definitions;
}

-- these bytes stand from an address on
abbrev pub HasBytes : Pool → ℕ → List ℕ → Type 0
HasBytes pool at [] = Unit {0}
HasBytes pool at (byte ∷ bytes) = (get pool at ≡ Some byte) × HasBytes pool (at + 1) bytes

-- these bytes are those from an address to the end of its page, or to the first address in it at which no byte stands
pub record ReachesPageEnd (size : ℕ) (pool : Pool) (address : ℕ) (bytes : List ℕ) : Type 0 where
  pub within : 0 < length bytes → address % size + length bytes ≤ size
  pub ends : (address % size + length bytes ≡ size) ⊎ (get pool (address + length bytes) ≡ None)
