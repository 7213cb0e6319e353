use Rattle.std.proofs.Common.{◌≡◌, ◌++◌, drop, map}
use Rattle.std.specs.List.{AllByRecursion}
use Rattle.t3_holder.specs.NumberText.{AreBytes}
use Rattle.t3_pools.proofs.paged.shared.Given as goal

-- what is shared and what is left are all, and what is shared are bytes
abbrev pub invariant-loop-page : goal.invariant-loop-page
invariant-loop-page l = record {
  all : l.shared.items ++ map (λ page. page.now) (drop l.page-index l.pages) ≡ map (λ page. page.now) l.pages;
  bytes : AllByRecursion AreBytes l.shared.items;
}
