-- What the functions that gather a pool's definitions and pages answer.
use Rattle.std.specs.Prelude.{◌≡◌, ℕ, ◌*◌, ◌^◌, ◌<◌, ◌≤◌, ◌==◌, ◌⊎◌, nat_lt, false, map, List, [], ◌∷◌, length, Option, Some, None, Result, Ok, Err, if◌then◌else◌}
use Rattle.std.specs.List.{flat_map, list_any, slice_get}
use Rattle.std.specs.Ordering.{nat_cmp}
use Rattle.std.specs.BTreeMap.{BTreeMap, get as get_key}
use denote.Ref.{Bor}
use Rattle.t3_image_read.specs.declared.image.PlacedBlock.{PlacedBlock}
use Rattle.t3_pools.specs.declared.refusal.PoolRefusal.{PoolRefusal}
use Rattle.t3_pools.specs.declared.refusal.DefinitionRule.{DefinitionRule}
use Rattle.t3_pools.specs.declared.refusal.PageRule.{PageRule}
use Rattle.t3_pools.specs.declared.refusal.PageRule.TheVariants.{Index, Twice, Missing, Long}
use Rattle.t3_pools.specs.declared.pages.PoolPages.{PoolPages}
use Rattle.t3_pools.specs.Finding.{listed}
use Rattle.t3_pools.specs.declared.definitions.Layout.{Layout}
use Rattle.t3_pools.specs.declared.definitions.Definitions.{Definitions}
use Rattle.t3_pools.specs.declared.definitions.Definitions.TheVariants.{Absent, Once, Repeated}
use Rattle.t3_pools.specs.declared.sheets.Sheet.{Sheet}
use Rattle.t3_pools.specs.Pool.{Defined, Paged, Said, said_of, size_by, pool_of}
use Rattle.t3_pools.specs.Building.{count_by, HasFarPage, HasPageTwice, LacksPage, HasLongPage, Keeps, KeepsRules, Refuses, definition_rules}
use Rattle.t3_pools.specs.Inner.Breaking.{definition_refusal, rank}
use Rattle.t3_pools.specs.Inner.Keeping.{kept_bytes}

abbrev pub defined : ℕ → Layout → Defined
defined number layout = record { pool = number; count = layout.count; size = layout.size }

-- what definitions of a pool say, by how many there are
abbrev pub SaysOf : ℕ → List Defined → Definitions → Type 0
SaysOf number all Absent = all ≡ []
SaysOf number all (Once layout) = all ≡ defined number layout ∷ []
SaysOf number all Repeated = 2 ≤ length all

abbrev pub paged : ℕ → Sheet → Paged
paged number sheet = record { pool = number; index = sheet.index; bytes = sheet.bytes.now }

abbrev pub sheets_at : ℕ → List Sheet → List (List ℕ)
sheets_at index sheets = flat_map (λ sheet. if sheet.index == index then sheet.bytes.now ∷ [] else []) sheets

-- a layout is what the definitions of a pool say, 0 where there are none
pub record LaysOut (said : Said) (layout : Layout) : Type 0 where
  pub count : count_by said.definitions ≡ layout.count
  pub size : size_by said.definitions ≡ layout.size
  pub narrow : layout.count * layout.size < 2 ^ 31

abbrev pub FindsLayouts : List PlacedBlock → Result (Layout × Layout) DefinitionRule → Type 0
FindsLayouts blocks (Ok layouts) = LaysOut (said_of 1 blocks) layouts.0 ×
    (LaysOut (said_of 2 blocks) layouts.1 × Keeps definition_rules blocks)
FindsLayouts blocks (Err rule) = Refuses (definition_refusal rule) blocks

-- the map has each index's one page; or an index has two
abbrev pub Sorts : List Sheet → Option (BTreeMap ℕ (Bor (List ℕ))) → Type 0
Sorts sheets None = (index : ℕ) × (2 ≤ length (sheets_at index sheets))
Sorts sheets (Some pages) = (index : ℕ) → listed (λ page. page.now) (get_key nat_cmp pages index) ≡ sheets_at index sheets

-- these are the pages of the indices below the count; or one of them has none
abbrev pub Orders : ℕ → BTreeMap ℕ (Bor (List ℕ)) → Option (List (Bor (List ℕ))) → Type 0
Orders count pages None = (index : ℕ) × ((index < count) × (get_key nat_cmp pages index ≡ None))
Orders count pages (Some ordered) = (length ordered ≡ count) ×
    ((index : ℕ) → index < count → get_key nat_cmp pages index ≡ slice_get ordered index)

-- a pool breaks this rule on pages
abbrev pub BreaksRule : PageRule → Said → Type 0
BreaksRule Index said = HasFarPage said
BreaksRule Twice said = HasPageTwice said
BreaksRule Missing said = LacksPage said
BreaksRule Long said = HasLongPage said

-- a pool breaks none of so many first rules on pages
abbrev pub KeepsFirst : ℕ → Said → Type 0
KeepsFirst count said = (rule : PageRule) → rank rule < count → ¬ BreaksRule rule said

-- these are the pages of a pool in their order
pub record IsGathered (said : Said) (gathered : PoolPages) : Type 0 where
  pub size : size_by said.definitions ≡ gathered.size
  pub pool : pool_of said.definitions said.pages ≡ kept_bytes gathered.size (map (λ page. page.now) gathered.pages.items)
  pub fits : list_any (λ page. nat_lt gathered.size (length page.now)) gathered.pages.items ≡ false
  pub narrow : length gathered.pages.items * gathered.size < 2 ^ 31

-- the pages of a pool that keeps all rules; or the first rule on pages that it breaks
abbrev pub FindsPages : Said → Result PoolPages PageRule → Type 0
FindsPages said (Ok gathered) = IsGathered said gathered × KeepsFirst 4 said
FindsPages said (Err rule) = BreaksRule rule said × KeepsFirst (rank rule) said

-- the one of two rules that comes first
pub record IsEarlier (rule other found : PageRule) : Type 0 where
  pub first : rank found ≤ rank rule
  pub second : rank found ≤ rank other
  pub one : (found ≡ rule) ⊎ (found ≡ other)

-- the pages of both pools; or the one rule that is broken, or the earlier of two
abbrev pub Joins : Result PoolPages PageRule → Result PoolPages PageRule → Result (PoolPages × PoolPages) PageRule → Type 0
Joins (Ok code) (Ok constants) (Ok both) = both ≡ (code, constants)
Joins (Err rule) (Ok constants) (Err found) = found ≡ rule
Joins (Ok code) (Err rule) (Err found) = found ≡ rule
Joins (Err rule) (Err other) (Err found) = IsEarlier rule other found
Joins _ _ _ = ⊥

-- the pages of both pools; or the first rule that the blocks break
abbrev pub Gathers : List PlacedBlock → Result (PoolPages × PoolPages) PoolRefusal → Type 0
Gathers blocks (Ok both) = KeepsRules blocks × (IsGathered (said_of 1 blocks) both.0 × IsGathered (said_of 2 blocks) both.1)
Gathers blocks (Err why) = Refuses why blocks
