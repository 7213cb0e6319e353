-- Which rules a pool keeps or breaks, and which pool it is, by what was gathered of it.
use Rattle.std.proofs.Common.{◌≡◌, ◌≢◌, ℕ, suc, ◌*◌, ◌^◌, ◌<◌, ◌≤◌, ◌⊎◌, inl, inr, subst, Bool, true, false, cond, nat_eq, nat_lt, nat_le, List, [], ◌∷◌, ◌++◌, map, length, Option, Some, None, Result, Ok, Err, refl, sym, ap, ◌∙◌, arith}
use Rattle.std.specs.Result.{IsErrAnd}
use Rattle.std.specs.List.{flat_map, list_any, slice_get}
use Rattle.std.specs.Ordering.{nat_cmp}
use Rattle.std.specs.Cmp.{nat_cmp_total}
use Rattle.std.specs.FinMap.{get, from_entries, empty, get-empty, get-from_entries, same_map, nat_cmp-IsAntisymmetric}
use Rattle.std.proofs.lemmas.Bool.{cases_lt}
use Rattle.std.proofs.lemmas.List.{length-map}
use Rattle.std.specs.BTreeMap.{BTreeMap, get as get_key}
use denote.Ref.{Bor}
use Rattle.t3_image_read.specs.declared.image.PlacedBlock.{PlacedBlock}
use Rattle.t3_pools.specs.declared.definitions.Layout.{Layout}
use Rattle.t3_pools.specs.declared.sheets.Sheet.{Sheet}
use Rattle.t3_pools.specs.declared.pages.PoolPages.{PoolPages}
use Rattle.t3_pools.specs.declared.refusal.PoolRefusal.{PoolRefusal}
use Rattle.t3_pools.specs.declared.refusal.PoolRefusal.TheVariants.{PageIndex, PageTwice, PageMissing, PageLong}
use Rattle.t3_pools.specs.declared.refusal.PageRule.{PageRule}
use Rattle.t3_pools.specs.declared.refusal.PageRule.TheVariants.{Index, Twice, Missing, Long}
use Rattle.t3_pools.specs.Pool.{PagedPoolValue, PoolsValue, Defined, Paged, Said, said_of, size_by, page_bytes, pool_of, pool_in, pools_in, pools_of, numbered}
use Rattle.t3_pools.specs.Building.{count_by, pages_at, HasFarPage, HasPageTwice, LacksPage, HasLongPage, Breaks, Keeps, KeepsRules, Refuses, definition_rules}
use Rattle.t3_pools.specs.Finding.{listed}
use Rattle.t3_pools.specs.Inner.Breaking.{page_refusal, rank}
use Rattle.t3_pools.specs.Inner.Gathering.{paged, sheets_at, Sorts, Orders, LaysOut, BreaksRule, KeepsFirst, IsGathered, FindsPages, Joins, Gathers}
use Rattle.t3_pools.specs.Inner.Keeping.{kept_bytes}
use Rattle.t3_pools.proofs.Firsts.{first_after}
use Rattle.t3_pools.proofs.Bytes.{is_any_long}
use Rattle.t3_pools.proofs.Kept.{one, is_long_in, same_pool}
use Rattle.t3_pools.proofs.Placing.{now, long_map, at-paged, far-paged, long-paged, placed_pages, no_gap, short_pages}

-- ---- one pool

abbrev pub is_far_sheet : ℕ → List Sheet → Bool
is_far_sheet count sheets = list_any (λ sheet. nat_le count sheet.index) sheets

abbrev pub is_long_sheet : ℕ → List Sheet → Bool
is_long_sheet size sheets = list_any (λ sheet. nat_lt size (length sheet.bytes.now)) sheets

-- the definitions and the sheets of a pool
pub record AreSheets (number : ℕ) (said : Said) (layout : Layout) (sheets : List Sheet) : Type 0 where
  pub lays_out : LaysOut said layout
  pub pages : map (paged number) sheets ≡ said.pages

-- what a test of sheets says
pub tested : (test : List Sheet → Bool) (read items : List Sheet) (result answer : Bool) → read ≡ items → result ≡ test read
    → result ≡ answer → test items ≡ answer
tested test read items result answer same is answers = ap test (sym same) ∙ sym is ∙ answers

far_is : (number : ℕ) (said : Said) (layout : Layout) (sheets : List Sheet) → AreSheets number said layout sheets
    → list_any (λ p. nat_le (count_by said.definitions) p.index) said.pages ≡ is_far_sheet layout.count sheets
far_is number said layout sheets g =
    ap (λ (all : List Paged). list_any (λ p. nat_le (count_by said.definitions) p.index) all) (sym g.pages)
    ∙ ap (λ n. list_any (λ (p : Paged). nat_le n p.index) (map (paged number) sheets)) g.lays_out.count
    ∙ far-paged number layout.count sheets

long_is : (number : ℕ) (said : Said) (layout : Layout) (sheets : List Sheet) → AreSheets number said layout sheets
    → is_any_long (size_by said.definitions) said.pages ≡ is_long_sheet layout.size sheets
long_is number said layout sheets g =
    ap (λ (all : List Paged). is_any_long (size_by said.definitions) all) (sym g.pages)
    ∙ ap (λ n. is_any_long n (map (paged number) sheets)) g.lays_out.size
    ∙ long-paged number layout.size sheets

at_is : (number : ℕ) (said : Said) (layout : Layout) (sheets : List Sheet) (index : ℕ) → AreSheets number said layout sheets
    → pages_at index said.pages ≡ sheets_at index sheets
at_is number said layout sheets index g = ap (λ (all : List Paged). pages_at index all) (sym g.pages) ∙ at-paged number index sheets

pub far : (number : ℕ) (said : Said) (layout : Layout) (sheets : List Sheet) → AreSheets number said layout sheets
    → is_far_sheet layout.count sheets ≡ true → HasFarPage said
far number said layout sheets g is = far_is number said layout sheets g ∙ is

pub not_far : (number : ℕ) (said : Said) (layout : Layout) (sheets : List Sheet) → AreSheets number said layout sheets
    → is_far_sheet layout.count sheets ≡ false → ¬ HasFarPage said
not_far number said layout sheets g none is = let clash : false ≡ true = sym none ∙ sym (far_is number said layout sheets g)
    ∙ is in absurd cc

pub long : (number : ℕ) (said : Said) (layout : Layout) (sheets : List Sheet) → AreSheets number said layout sheets
    → is_long_sheet layout.size sheets ≡ true → HasLongPage said
long number said layout sheets g is = long_is number said layout sheets g ∙ is

pub not_long : (number : ℕ) (said : Said) (layout : Layout) (sheets : List Sheet) → AreSheets number said layout sheets
    → is_long_sheet layout.size sheets ≡ false → ¬ HasLongPage said
not_long number said layout sheets g none is = let clash : false ≡ true = sym none ∙ sym (long_is number said layout sheets g)
    ∙ is in absurd cc

pub twice : (number : ℕ) (said : Said) (layout : Layout) (sheets : List Sheet) → AreSheets number said layout sheets → Sorts sheets None
    → HasPageTwice said
twice number said layout sheets g has =
    (has.0, subst (λ (p : List (List ℕ)). 2 ≤ length p) (sym (at_is number said layout sheets has.0 g)) has.1)

listed_at_most : (found : Option (Bor (List ℕ))) → length (listed now found) ≤ 1
listed_at_most None = omega arith
listed_at_most (Some page) = omega arith

pub not_twice : (number : ℕ) (said : Said) (layout : Layout) (sheets : List Sheet) (sorted : BTreeMap ℕ (Bor (List ℕ)))
    → AreSheets number said layout sheets → Sorts sheets (Some sorted)
    → ¬ HasPageTwice said
not_twice number said layout sheets sorted g sorts has =
    let counted = ap (λ (p : List (List ℕ)). length p) (sorts has.0 ∙ sym (at_is number said layout sheets has.0 g)) in
    let most = listed_at_most (get_key nat_cmp sorted has.0) in
    let two = has.1 in
    absurd (omega arith)

pub lacks : (number : ℕ) (said : Said) (layout : Layout) (sheets : List Sheet) (sorted : BTreeMap ℕ (Bor (List ℕ)))
    → AreSheets number said layout sheets → Sorts sheets (Some sorted)
    → Orders layout.count sorted None → LacksPage said
lacks number said layout sheets sorted g sorts gap = (
  gap.0,
  (
    subst (λ n. gap.0 < n) (sym g.lays_out.count) gap.1.0,
    at_is number said layout sheets gap.0 g ∙ sym (sorts gap.0) ∙ ap (λ o. listed now o) gap.1.1,
  ),
)

-- each index has the page that was placed there
pub placed : (number : ℕ) (said : Said) (layout : Layout) (sheets : List Sheet) (sorted : BTreeMap ℕ (Bor (List ℕ)))
    (ordered : List (Bor (List ℕ)))
    → AreSheets number said layout sheets → is_far_sheet layout.count sheets ≡ false → Sorts sheets (Some sorted)
    → Orders layout.count sorted (Some ordered)
    → (index : ℕ) → pages_at index said.pages ≡ one (slice_get (map now ordered) index)
placed number said layout sheets sorted ordered g near sorts orders =
    placed_pages layout.count said.pages (λ index. get_key nat_cmp sorted index) ordered
    (ap (λ n. list_any (λ (p : Paged). nat_le n p.index) said.pages) (sym g.lays_out.count) ∙ far_is number said layout sheets g ∙ near)
    (λ index. sorts index ∙ sym (at_is number said layout sheets index g))
    orders.0 orders.1

pub not_lacking : (number : ℕ) (said : Said) (layout : Layout) (sheets : List Sheet) (sorted : BTreeMap ℕ (Bor (List ℕ)))
    (ordered : List (Bor (List ℕ)))
    → AreSheets number said layout sheets → is_far_sheet layout.count sheets ≡ false → Sorts sheets (Some sorted)
    → Orders layout.count sorted (Some ordered)
    → ¬ LacksPage said
not_lacking number said layout sheets sorted ordered g near sorts orders gap =
    let count : length (map now ordered) ≡ count_by said.definitions = length-map ordered now ∙ orders.0 ∙ sym g.lays_out.count in
    no_gap said.pages (map now ordered) (placed number said layout sheets sorted ordered g near sorts orders) gap.0
    (subst (λ n. gap.0 < n) (sym count) gap.1.0) gap.1.1

pub fits : (number : ℕ) (said : Said) (layout : Layout) (sheets : List Sheet) (sorted : BTreeMap ℕ (Bor (List ℕ)))
    (ordered : List (Bor (List ℕ)))
    → AreSheets number said layout sheets → is_far_sheet layout.count sheets ≡ false → Sorts sheets (Some sorted)
    → Orders layout.count sorted (Some ordered)
    → is_long_sheet layout.size sheets ≡ false
    → list_any (λ page. nat_lt layout.size (length page.now)) ordered ≡ false
fits number said layout sheets sorted ordered g near sorts orders short =
    long_map layout.size ordered
    ∙ short_pages layout.size said.pages (map now ordered) (placed number said layout sheets sorted ordered g near sorts orders)
    (ap (λ n. is_any_long n said.pages) (sym g.lays_out.size) ∙ long_is number said layout sheets g ∙ short)

pub narrow : (said : Said) (layout : Layout) (sorted : BTreeMap ℕ (Bor (List ℕ))) (ordered : List (Bor (List ℕ))) → LaysOut said layout
    → Orders layout.count sorted (Some ordered) → length ordered * layout.size < 2 ^ 31
narrow said layout sorted ordered lays orders = subst (λ n. n * layout.size < 2 ^ 31) (sym orders.0) lays.narrow

no_pages : (pages : List (Bor (List ℕ))) (size : ℕ) → length pages ≡ 0 → empty ≡ kept_bytes size (map now pages)
unfolding kept_bytes
no_pages [] size none = same_map nat_cmp_total nat_cmp-IsAntisymmetric _ _
    (λ address. get-empty nat_cmp address ∙ sym (get-from_entries nat_cmp_total [] address))
no_pages (page ∷ pages) size none = absurd (omega arith)

defined_pool : (definitions : List Defined) (all : List Paged) (count size : ℕ) (ordered : List (Bor (List ℕ)))
    → count_by definitions ≡ count → size_by definitions ≡ size
    → length ordered ≡ count → is_any_long size all ≡ false → is_long_in size (map now ordered) ≡ false
    → ((index : ℕ) → pages_at index all ≡ one (slice_get (map now ordered) index))
    → pool_of definitions all ≡ kept_bytes size (map now ordered)
defined_pool [] all count size ordered c s counted short fit same = no_pages ordered size (counted ∙ sym c)
defined_pool (d ∷ ds) all count size ordered c s counted short fit same =
    ap (λ n. from_entries (flat_map (page_bytes n) all)) s ∙ same_pool size all (map now ordered) short fit same

pub gathered_pool : (number : ℕ) (said : Said) (layout : Layout) (sheets : List Sheet) (sorted : BTreeMap ℕ (Bor (List ℕ)))
    (ordered : List (Bor (List ℕ)))
    → AreSheets number said layout sheets → is_far_sheet layout.count sheets ≡ false → Sorts sheets (Some sorted)
    → Orders layout.count sorted (Some ordered)
    → is_long_sheet layout.size sheets ≡ false
    → pool_of said.definitions said.pages ≡ kept_bytes layout.size (map now ordered)
gathered_pool number said layout sheets sorted ordered g near sorts orders short =
    defined_pool said.definitions said.pages layout.count layout.size ordered g.lays_out.count g.lays_out.size orders.0
    (ap (λ n. is_any_long n said.pages) (sym g.lays_out.size) ∙ long_is number said layout sheets g ∙ short)
    (sym (long_map layout.size ordered) ∙ fits number said layout sheets sorted ordered g near sorts orders short)
    (placed number said layout sheets sorted ordered g near sorts orders)

-- ---- the rules on pages, one after the other

pub keeps_none : (said : Said) → KeepsFirst 0 said
keeps_none said rule below = absurd (omega arith)

keeps_more : (count : ℕ) (said : Said) (next : PageRule) → ((rule : PageRule) → rank rule ≡ count → rule ≡ next)
    → KeepsFirst count said → ¬ BreaksRule next said → KeepsFirst (suc count) said
keeps_more count said next only kept other rule below breaks = elim (cases_lt (rank rule) count) [
  | inl less ↦ kept rule less breaks
  | inr last ↦ other (subst (λ (r : PageRule). BreaksRule r said) (only rule (omega arith)) breaks)
]

only_index : (rule : PageRule) → rank rule ≡ 0 → rule ≡ Index
only_index Index is = refl
only_index Twice is = absurd (omega arith)
only_index Missing is = absurd (omega arith)
only_index Long is = absurd (omega arith)

only_twice : (rule : PageRule) → rank rule ≡ 1 → rule ≡ Twice
only_twice Index is = absurd (omega arith)
only_twice Twice is = refl
only_twice Missing is = absurd (omega arith)
only_twice Long is = absurd (omega arith)

only_missing : (rule : PageRule) → rank rule ≡ 2 → rule ≡ Missing
only_missing Index is = absurd (omega arith)
only_missing Twice is = absurd (omega arith)
only_missing Missing is = refl
only_missing Long is = absurd (omega arith)

only_long : (rule : PageRule) → rank rule ≡ 3 → rule ≡ Long
only_long Index is = absurd (omega arith)
only_long Twice is = absurd (omega arith)
only_long Missing is = absurd (omega arith)
only_long Long is = refl

pub keeps_index : (said : Said) → ¬ HasFarPage said → KeepsFirst 1 said
keeps_index said none = keeps_more 0 said Index only_index (keeps_none said) none

pub keeps_twice : (said : Said) → KeepsFirst 1 said → ¬ HasPageTwice said → KeepsFirst 2 said
keeps_twice said kept none = keeps_more 1 said Twice only_twice kept none

pub keeps_missing : (said : Said) → KeepsFirst 2 said → ¬ LacksPage said → KeepsFirst 3 said
keeps_missing said kept none = keeps_more 2 said Missing only_missing kept none

pub keeps_long : (said : Said) → KeepsFirst 3 said → ¬ HasLongPage said → KeepsFirst 4 said
keeps_long said kept none = keeps_more 3 said Long only_long kept none

-- ---- both pools

fewer : (count more : ℕ) (said : Said) → count ≤ more → KeepsFirst more said → KeepsFirst count said
fewer count more said less kept rule below = kept rule (omega arith)

-- rank and its end
four : (rule : PageRule) → rank rule ≤ 4
four Index = omega arith
four Twice = omega arith
four Missing = omega arith
four Long = omega arith

-- what is found of both pools: their pages, or the first rule that one of them breaks
abbrev pub FindsBoth : Said → Said → Result (PoolPages × PoolPages) PageRule → Type 0
FindsBoth code constants (Ok both) =
    (IsGathered code both.0 × IsGathered constants both.1) × (KeepsFirst 4 code × KeepsFirst 4 constants)
FindsBoth code constants (Err rule) =
    (BreaksRule rule code ⊎ BreaksRule rule constants) × (KeepsFirst (rank rule) code × KeepsFirst (rank rule) constants)

pub finds_both : (code constants : Said) (found found_too : Result PoolPages PageRule) (both : Result (PoolPages × PoolPages) PageRule)
    → FindsPages code found → FindsPages constants found_too → Joins found found_too both → FindsBoth code constants both
finds_both code constants (Ok a) (Ok b) (Ok both) first second joins =
    subst (λ (x : PoolPages × PoolPages). FindsBoth code constants (Ok x)) (sym joins) ((first.0, second.0), (first.1, second.1))
finds_both code constants (Ok a) (Ok b) (Err rule) first second joins = absurd joins
finds_both code constants (Err rule) (Ok b) (Ok both) first second joins = absurd joins
finds_both code constants (Err rule) (Ok b) (Err same) first second joins =
    subst (λ (r : PageRule). FindsBoth code constants (Err r)) (sym joins)
    (inl first.0, (first.1, fewer (rank rule) 4 constants (four rule) second.1))
finds_both code constants (Ok a) (Err rule) (Ok both) first second joins = absurd joins
finds_both code constants (Ok a) (Err rule) (Err same) first second joins =
    subst (λ (r : PageRule). FindsBoth code constants (Err r)) (sym joins)
    (inr second.0, (fewer (rank rule) 4 code (four rule) first.1, second.1))
finds_both code constants (Err rule) (Err other) (Ok both) first second joins = absurd joins
finds_both code constants (Err rule) (Err other) (Err earlier) first second joins =
    let in_code : KeepsFirst (rank earlier) code = fewer (rank earlier) (rank rule) code joins.first first.1 in
    let in_constants : KeepsFirst (rank earlier) constants = fewer (rank earlier) (rank other) constants joins.second second.1 in
    elim joins.one [
      | inl is ↦ (inl (subst (λ (r : PageRule). BreaksRule r code) (sym is) first.0), (in_code, in_constants))
      | inr is ↦ (inr (subst (λ (r : PageRule). BreaksRule r constants) (sym is) second.0), (in_code, in_constants))
    ]

neither : {A B : Type 0} → ¬ A → ¬ B → ¬ (A ⊎ B)
neither no_a no_b (inl a) = no_a a
neither no_a no_b (inr b) = no_b b

-- neither pool breaks a rule among so many first ones
keeps_both : (blocks : List PlacedBlock) (rule : PageRule) (count : ℕ) → rank rule < count
    → KeepsFirst count (said_of 1 blocks) × KeepsFirst count (said_of 2 blocks)
    → ¬ (BreaksRule rule (said_of 1 blocks) ⊎ BreaksRule rule (said_of 2 blocks))
keeps_both blocks rule count below kept = neither (kept.0 rule below) (kept.1 rule below)

-- the first rule on pages that a pool breaks is the first rule that the blocks break
pub refuses_page : (blocks : List PlacedBlock) (rule : PageRule) → Keeps definition_rules blocks
    → FindsBoth (said_of 1 blocks) (said_of 2 blocks) (Err rule) → Refuses (page_refusal rule) blocks
refuses_page blocks Index kept found = first_after (λ r. Breaks r blocks) definition_rules _ PageIndex kept found.0
refuses_page blocks Twice kept found =
    first_after (λ r. Breaks r blocks) (definition_rules ++ PageIndex ∷ []) _ PageTwice
    (kept.0, (kept.1.0, (kept.1.1.0, (keeps_both blocks Index 1 (omega arith) found.1, tt)))) found.0
refuses_page blocks Missing kept found =
    first_after (λ r. Breaks r blocks) (definition_rules ++ PageIndex ∷ PageTwice ∷ []) _ PageMissing (
      kept.0,
      (
        kept.1.0,
        (
          kept.1.1.0,
          (keeps_both blocks Index 2 (omega arith) found.1, (keeps_both blocks Twice 2 (omega arith) found.1, tt)),
        ),
      ),
    ) found.0
refuses_page blocks Long kept found =
    first_after (λ r. Breaks r blocks) (definition_rules ++ PageIndex ∷ PageTwice ∷ PageMissing ∷ []) [] PageLong (
      kept.0,
      (
        kept.1.0,
        (
          kept.1.1.0,
          (
            keeps_both blocks Index 3 (omega arith) found.1,
            (keeps_both blocks Twice 3 (omega arith) found.1, (keeps_both blocks Missing 3 (omega arith) found.1, tt)),
          ),
        ),
      ),
    ) found.0

pub refuses_so : (blocks : List PlacedBlock) (rule : PageRule) (result : Result (PoolPages × PoolPages) PoolRefusal)
    → Refuses (page_refusal rule) blocks → IsErrAnd result (λ why. why ≡ page_refusal rule) → Gathers blocks result
refuses_so blocks rule (Ok both) refuses gives = absurd gives
refuses_so blocks rule (Err why) refuses gives = subst (λ (w : PoolRefusal). Refuses w blocks) (sym gives) refuses

-- pools that keep all rules on pages keep all rules
pub keeps_all : (blocks : List PlacedBlock) → Keeps definition_rules blocks
    → KeepsFirst 4 (said_of 1 blocks) × KeepsFirst 4 (said_of 2 blocks) → KeepsRules blocks
keeps_all blocks kept found = (
  kept.0,
  (
    kept.1.0,
    (
      kept.1.1.0,
      (
        keeps_both blocks Index 4 (omega arith) found,
        (
          keeps_both blocks Twice 4 (omega arith) found,
          (
            keeps_both blocks Missing 4 (omega arith) found,
            (keeps_both blocks Long 4 (omega arith) found, tt),
          ),
        ),
      ),
    ),
  ),
)

pub both_pools : (blocks : List PlacedBlock) (code constants : PagedPoolValue)
    → pool_of (said_of 1 blocks).definitions (said_of 1 blocks).pages ≡ code.bytes
    → pool_of (said_of 2 blocks).definitions (said_of 2 blocks).pages ≡ constants.bytes
    → size_by (said_of 1 blocks).definitions ≡ code.page_size → size_by (said_of 2 blocks).definitions ≡ constants.page_size
    → pools_of code constants ≡ pools_in blocks
unfolding pool_in
both_pools blocks code constants code_is constants_is code_size constant_size =
    λ i. record {
      code = sym code_is i;
      constants = sym constants_is i;
      code_page_size = sym code_size i;
      constant_page_size = sym constant_size i;
    }

-- ---- what stands at an address

pub no_pool : (pools : PoolsValue) (number address : ℕ) → number ≢ 1 → number ≢ 2 → get (numbered pools number) address ≡ None
no_pool pools number address not_code not_constants =
    let first : nat_eq number 1 ≡ false = grind (arith, not_code) in
    let second : nat_eq number 2 ≡ false = grind (arith, not_constants) in
    ap (λ b. get (cond b pools.code (cond (nat_eq number 2) pools.constants (empty {X = ℕ} {R = nat_cmp}))) address) first
    ∙ ap (λ b. get (cond b pools.constants (empty {X = ℕ} {R = nat_cmp})) address) second
    ∙ get-empty nat_cmp address
