use Rattle.std.proofs.Common.{◌≡◌, ◌++◌, ℕ, drop}
use Rattle.std.specs.Ordering.{nat_cmp}
use Rattle.std.specs.BTreeMap.{get as get_key}
use Rattle.t3_pools.specs.Finding.{listed}
use Rattle.t3_pools.specs.Inner.Gathering.{sheets_at}
use Rattle.t3_pools.proofs.sheets.sorted.Given as goal

-- what an index has and what is left of it are all of it
abbrev pub invariant-loop-sheet : goal.invariant-loop-sheet
invariant-loop-sheet l =
    (index : ℕ) → listed (λ page. page.now) (get_key nat_cmp l.pages index) ++ sheets_at index
    (drop l.sheet-index l.sheets) ≡ sheets_at index l.sheets
