use Rattle.std.proofs.Common.{ℕ, List, subst, sym, ◌∙◌, ap}
use Rattle.t3_pools.specs.Pool.{PagedPoolValue}
use Rattle.t3_pools.specs.Inner.Keeping.{kept_bytes, run_in, Runs}
use Rattle.t3_pools.proofs.Kept.{kept_runs}
use Rattle.t3_pools.proofs.paged.PagedPool.run.Goals as goal

pub returns : goal.returns
returns c =
    let run = c.run_at.ensures ∙ ap (λ pages. run_in c.self.inside.size.size pages c.args.address) c.deref.ensures.value in
    subst (λ (pool : PagedPoolValue). Runs pool.page_size pool.bytes c.args.address c.run_at.result.now) c.self.view_is
    (subst (λ (bytes : List ℕ). Runs c.self.inside.size.size (kept_bytes c.self.inside.size.size c.self.inside.pages.items) c.args.address bytes) (sym run)
    (kept_runs c.self.inside.size.size c.self.inside.pages.items c.args.address c.self.invariant))
