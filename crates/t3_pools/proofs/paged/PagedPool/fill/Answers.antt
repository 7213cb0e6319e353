use Rattle.std.proofs.Common.{ℕ, List, length, subst, sym}
use Rattle.t3_pools.specs.Pool.{HasBytes}
use Rattle.t3_pools.proofs.Standing.{stands_take}
use Rattle.t3_pools.proofs.paged.PagedPool.fill.Goals as goal

pub returns-then-size-run-clause-fills : goal.returns-then-size-run-clause-fills
returns-then-size-run-clause-fills c =
    subst (λ (b : List ℕ). HasBytes c.args.self.now.bytes c.args.address b) (sym c.copy_from_slice.ensures.after)
    (stands_take c.args.self.now.bytes c.run-run.result.now c.args.address (length c.args.window.now) c.run-run.ensures.stand)
