-- The rules that the pools of an image keep, in their order, and what building the pools answers (the chapter on the image format).
use Rattle.std.specs.Prelude.{◌≡◌, ℕ, ◌*◌, ◌^◌, ◌<◌, ◌≤◌, ◌==◌, ◌⊎◌, nat_lt, nat_le, IsTrue, List, [], ◌∷◌, ◌++◌, length, Result, Ok, Err, if◌then◌else◌}
use Rattle.std.specs.List.{flat_map, list_any, AllByRecursion}
use Rattle.t3_image_read.specs.declared.image.PlacedBlock.{PlacedBlock}
use Rattle.t3_pools.specs.declared.refusal.PoolRefusal.{PoolRefusal}
use Rattle.t3_pools.specs.declared.refusal.PoolRefusal.TheVariants.{NoCode, TwoDefs, TooWide, PageIndex, PageTwice, PageMissing, PageLong, NoMemory}
use Rattle.t3_pools.specs.First.{IsFirst}
use Rattle.t3_pools.specs.Pool.{Defined, Paged, PoolsValue, Said, said_of, size_by, pools_in}

-- the page count by the first definition, 0 where there is none
abbrev pub count_by : List Defined → ℕ
count_by [] = 0
count_by (d ∷ _) = d.count

-- what the pages of an index hold
abbrev pub at_index : ℕ → Paged → List (List ℕ)
at_index index page = if page.index == index then page.bytes ∷ [] else []

abbrev pub pages_at : ℕ → List Paged → List (List ℕ)
pages_at index all = flat_map (at_index index) all

-- the pool is defined more than once
abbrev pub HasTwoDefinitions : Said → Type 0
HasTwoDefinitions said = 2 ≤ length said.definitions

-- a definition's count times its size isn't below 2^31
abbrev pub IsTooWide : Said → Type 0
IsTooWide said = IsTrue (list_any (λ d. nat_le (2 ^ 31) (d.count * d.size)) said.definitions)

-- a page's index isn't below the count
abbrev pub HasFarPage : Said → Type 0
HasFarPage said = IsTrue (list_any (λ p. nat_le (count_by said.definitions) p.index) said.pages)

-- two pages have one index
abbrev pub HasPageTwice : Said → Type 0
HasPageTwice said = (index : ℕ) × (2 ≤ length (pages_at index said.pages))

-- an index below the count has no page
abbrev pub LacksPage : Said → Type 0
LacksPage said = (index : ℕ) × ((index < count_by said.definitions) × (pages_at index said.pages ≡ []))

-- a page has more bytes than the page size
abbrev pub HasLongPage : Said → Type 0
HasLongPage said = IsTrue (list_any (λ p. nat_lt (size_by said.definitions) (length p.bytes)) said.pages)

abbrev pub InEither : (Said → Type 0) → List PlacedBlock → Type 0
InEither Holds blocks = Holds (said_of 1 blocks) ⊎ Holds (said_of 2 blocks)

-- the rule that a refusal names is broken, in the pool of code or in that of constants
abbrev pub Breaks : PoolRefusal → List PlacedBlock → Type 0
Breaks NoCode blocks = (said_of 1 blocks).definitions ≡ []
Breaks TwoDefs blocks = InEither HasTwoDefinitions blocks
Breaks TooWide blocks = InEither IsTooWide blocks
Breaks PageIndex blocks = InEither HasFarPage blocks
Breaks PageTwice blocks = InEither HasPageTwice blocks
Breaks PageMissing blocks = InEither LacksPage blocks
Breaks PageLong blocks = InEither HasLongPage blocks
Breaks NoMemory blocks = ⊥

-- the rules in their order, those on definitions and then those on pages
abbrev pub definition_rules : List PoolRefusal
definition_rules = NoCode ∷ TwoDefs ∷ TooWide ∷ []

abbrev pub page_rules : List PoolRefusal
page_rules = PageIndex ∷ PageTwice ∷ PageMissing ∷ PageLong ∷ []

abbrev pub rules : List PoolRefusal
rules = definition_rules ++ page_rules

-- none of these rules is broken
abbrev pub Keeps : List PoolRefusal → List PlacedBlock → Type 0
Keeps some blocks = AllByRecursion (λ rule. ¬ Breaks rule blocks) some

-- an image from which pools can be built breaks no rule
abbrev pub KeepsRules : List PlacedBlock → Type 0
KeepsRules blocks = Keeps rules blocks

-- the first of the rules that an image breaks
abbrev pub BreaksFirst : List PlacedBlock → PoolRefusal → Type 0
BreaksFirst blocks why = IsFirst (λ rule. Breaks rule blocks) rules why

-- why an image has no pools: the first rule that it breaks; want of memory says only that the rules on definitions are kept, since to sort pages takes memory before
-- their rules are tried
abbrev pub Refuses : PoolRefusal → List PlacedBlock → Type 0
Refuses NoMemory blocks = Keeps definition_rules blocks
Refuses why blocks = BreaksFirst blocks why

-- the pools of an image that breaks no rule, or why it has none
abbrev pub Builds : List PlacedBlock → Result PoolsValue PoolRefusal → Type 0
Builds blocks (Ok pools) = KeepsRules blocks × (pools ≡ pools_in blocks)
Builds blocks (Err why) = Refuses why blocks

-- these pools, or memory ran out
abbrev pub GivesOnly : PoolsValue → Result PoolsValue PoolRefusal → Type 0
GivesOnly pools (Ok built) = built ≡ pools
GivesOnly pools (Err NoMemory) = Unit {0}
GivesOnly pools (Err _) = ⊥

-- this refusal, or memory ran out
abbrev pub GivesRefusal : PoolRefusal → Result PoolsValue PoolRefusal → Type 0
GivesRefusal why (Ok built) = ⊥
GivesRefusal why (Err NoMemory) = Unit {0}
GivesRefusal why (Err answer) = answer ≡ why
