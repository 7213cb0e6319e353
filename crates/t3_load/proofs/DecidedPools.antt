-- Which rule on pools an image breaks first, if any.
use Rattle.std.proofs.Common.{◌≡◌, ◌≢◌, ℕ, zero, suc, ◌<◌, ◌≤◌, nat_eq, false, cond, ◌⊎◌, inl, inr, List, [], ◌∷◌, ◌++◌, length, refl, sym, ap, subst, arith}
use Rattle.std.proofs.lemmas.Bool.{cases_eq, cases_lt, eq-eqb}
use Rattle.t3_image_read.specs.declared.image.PlacedBlock.{PlacedBlock}
use Rattle.t3_pools.specs.Pool.{Paged, said_of}
use Rattle.t3_pools.specs.declared.refusal.PoolRefusal.{PoolRefusal}
use Rattle.t3_pools.specs.declared.refusal.PoolRefusal.TheVariants.{NoCode, TwoDefs, TooWide, PageIndex, PageTwice, PageMissing, PageLong, NoMemory}
use Rattle.t3_pools.specs.Building.{Breaks, KeepsRules, Refuses, rules, count_by, pages_at}
use Rattle.t3_pools.specs.First.{IsFirst}
use Rattle.t3_pools.proofs.Firsts.{none_first, first_or_all}
use Rattle.t3_store.specs.declared.limits.StoreLimits.{StoreLimits}
use Rattle.t3_load.specs.declared.refusal.LoadRefusal.TheVariants.{Pool}
use Rattle.t3_load.specs.Rules.{Breaks as LoadBreaks, KeepsRules as KeepsAll}
use Rattle.t3_load.proofs.RuleSteps.{kept_one}
use Rattle.t3_load.proofs.Decided.{either, le_or_not, bool_or_not, empty_or_not}

gap_or_not : (count : ℕ) (all : List Paged) → ((index : ℕ) × ((index < count) × (pages_at index all ≡ []))) ⊎ ¬
    ((index : ℕ) × ((index < count) × (pages_at index all ≡ [])))
gap_or_not zero all = inr (λ gap. let below = gap.1.0 in absurd (omega arith))
gap_or_not (suc n) all =
    elim (gap_or_not n all) [
      | inl gap ↦ let below = gap.1.0 in inl (gap.0, (omega arith, gap.1.1))
      | inr full ↦ elim (empty_or_not (pages_at n all)) [
        | inl none ↦ inl (n, (omega arith, none))
        | inr some ↦ inr (λ gap.
            let below = gap.1.0 in
            elim (cases_lt gap.0 n) [
              | inl less ↦ full (gap.0, (less, gap.1.1))
              | inr more ↦ let same : gap.0 ≡ n = omega arith in some (subst (λ (k : ℕ). pages_at k all ≡ []) same gap.1.1)
            ])
      ]
    ]

with_page : (p : Paged) (all : List Paged) (index : ℕ) → p.index ≡ index → pages_at index (p ∷ all) ≡ p.bytes ∷ pages_at index all
with_page p all index same = ap (λ b. cond b (p.bytes ∷ []) [] ++ pages_at index all) (eq-eqb p.index index same)

without_page : (p : Paged) (all : List Paged) (index : ℕ) → ¬ (p.index ≡ index) → pages_at index (p ∷ all) ≡ pages_at index all
without_page p all index apart = let other : nat_eq p.index index ≡ false = grind (arith, apart) in ap
    (λ b. cond b (p.bytes ∷ []) [] ++ pages_at index all) other

twice_or_not : (all : List Paged) → ((index : ℕ) × (2 ≤ length (pages_at index all))) ⊎ ¬ ((index : ℕ) × (2 ≤ length (pages_at index all)))
twice_or_not [] = inr (λ two. let more = two.1 in absurd (omega arith))
twice_or_not (p ∷ all) =
    elim (le_or_not 1 (length (pages_at p.index all))) [
      | inl more ↦ let counted = ap (λ (x : List (List ℕ)). length x) (with_page p all p.index refl) in inl (p.index, omega arith)
      | inr alone ↦ elim (twice_or_not all) [
        | inl two ↦ inl (two.0, later_too p all two.0 two.1)
        | inr once ↦ inr (λ two.
            elim (cases_eq p.index two.0) [
              | inl same ↦
                  let counted = ap (λ (x : List (List ℕ)). length x) (with_page p all two.0 same) in
                  let more = two.1 in
                  alone (subst (λ (k : ℕ). 1 ≤ length (pages_at k all)) (sym same) (omega arith))
              | inr apart ↦ once (two.0, subst (λ (x : List (List ℕ)). 2 ≤ length x) (without_page p all two.0 apart) two.1)
            ])
      ]
    ]
  where
    later_too : (p : Paged) (all : List Paged) (index : ℕ) → 2 ≤ length (pages_at index all) → 2 ≤ length (pages_at index (p ∷ all))
    later_too p all index two =
        elim (cases_eq p.index index) [
          | inl same ↦ let counted = ap (λ (x : List (List ℕ)). length x) (with_page p all index same) in omega arith
          | inr apart ↦ subst (λ (x : List (List ℕ)). 2 ≤ length x) (sym (without_page p all index apart)) two
        ]

-- each rule is broken or not
broken_or_not : (blocks : List PlacedBlock) (why : PoolRefusal) → Breaks why blocks ⊎ ¬ Breaks why blocks
broken_or_not blocks NoCode = empty_or_not (said_of 1 blocks).definitions
broken_or_not blocks TwoDefs =
    either (le_or_not 2 (length (said_of 1 blocks).definitions)) (le_or_not 2 (length (said_of 2 blocks).definitions))
broken_or_not blocks TooWide = either (bool_or_not _) (bool_or_not _)
broken_or_not blocks PageIndex = either (bool_or_not _) (bool_or_not _)
broken_or_not blocks PageTwice = either (twice_or_not (said_of 1 blocks).pages) (twice_or_not (said_of 2 blocks).pages)
broken_or_not blocks PageMissing =
    either (gap_or_not (count_by (said_of 1 blocks).definitions) (said_of 1 blocks).pages)
    (gap_or_not (count_by (said_of 2 blocks).definitions) (said_of 2 blocks).pages)
broken_or_not blocks PageLong = either (bool_or_not _) (bool_or_not _)
broken_or_not blocks NoMemory = inr (λ never. never)

-- the pools of an image are refused by a rule, or it keeps them all
abbrev pub AreDecided : List PlacedBlock → Type 0
AreDecided blocks = ((why : PoolRefusal) × (why ≢ NoMemory) × Refuses why blocks) ⊎ KeepsRules blocks

-- a refusal for another cause than memory is of the first broken rule, and the other way round
pub refusal-first : (blocks : List PlacedBlock) (why : PoolRefusal) → why ≢ NoMemory → Refuses why blocks
    → IsFirst (λ rule. Breaks rule blocks) rules why
refusal-first blocks NoMemory known refuses = absurd (known refl)
refusal-first blocks _ known refuses = refuses

first-refusal : (blocks : List PlacedBlock) (why : PoolRefusal) → why ≢ NoMemory → IsFirst (λ rule. Breaks rule blocks) rules why
    → Refuses why blocks
first-refusal blocks NoMemory known first = absurd (known refl)
first-refusal blocks _ known first = first

pub pools_or_first : (blocks : List PlacedBlock) → AreDecided blocks
pools_or_first blocks =
    elim (first_or_all (λ rule. Breaks rule blocks) (broken_or_not blocks) rules) [
      | inl first ↦
          let known : first.0 ≢ NoMemory = λ none. subst (λ rule. Breaks rule blocks) none first.1.broken in
          inl (first.0, known, first-refusal blocks first.0 known first.1)
      | inr keeps ↦ inr keeps
    ]

-- rule 4 is kept
pub pools_kept : (blocks : List PlacedBlock) → KeepsRules blocks → (limits : StoreLimits) → KeepsAll blocks limits 4 5
pools_kept blocks keeps limits =
    kept_one blocks limits 4 (λ why of broken.
    let cause : LoadBreaks blocks limits (Pool of.0) = subst (λ w. LoadBreaks blocks limits w) of.1 broken in
    none_first (λ rule. Breaks rule blocks) rules keeps of.0 (refusal-first blocks of.0 cause.0 cause.1))
