use Rattle.std.proofs.Common.{ℕ, List, map, subst, sym}
use Rattle.std.specs.List.{AllByRecursion}
use Rattle.t3_holder.specs.NumberText.{AreBytes}
use Rattle.t3_pools.specs.Inner.Keeping.{IsKept}
use Rattle.t3_pools.proofs.Placing.{kept_pages}
use Rattle.t3_pools.proofs.paged.PagedPool.new.Goals as goal

pub invariant_of-result : goal.invariant_of-result
invariant_of-result c =
    let pages = c.args.pages.now in
    let size = c.new.result.size in
    let same = c.in_ok-shared.ensures.same in
    let bytes = subst (λ (all : List (List ℕ)). AllByRecursion AreBytes all) same c.in_ok-shared.ensures.bytes in
    let kept = subst (λ (n : ℕ). IsKept n (map (λ page. page.now) pages)) (sym c.new.ensures)
    (kept_pages c.args.size pages c.requires.fits c.requires.narrow bytes) in
    subst (λ (all : List (List ℕ)). IsKept size all) (sym same) kept
