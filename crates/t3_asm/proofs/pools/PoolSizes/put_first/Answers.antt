use Rattle.std.proofs.Common.{is_some, ap, sym, ◌∙◌}
use Rattle.std.specs.Cmp.{nat_cmp_total}
use Rattle.std.specs.FinMap.{nat_cmp-IsAntisymmetric}
use Rattle.std.specs.FinMap as map
use Rattle.t3_asm.specs.Inner.Tables.{kept_entries}
use Rattle.t3_asm.proofs.Kept.{kept-insert, with_size-new}
use Rattle.t3_asm.proofs.pools.PoolSizes.put_first.Goals as goal

pub returns-in_ok-insert-clause-ok : goal.returns-in_ok-insert-clause-ok
returns-in_ok-insert-clause-ok c =
    let pool = c.args.pool in
    let size = c.args.size in
    ap (λ es. map.from_entries (kept_entries (λ n. n) es)) c.in_ok-insert.ensures.entries
    ∙ kept-insert nat_cmp_total nat_cmp-IsAntisymmetric (λ n. n) c.self.inside.sizes.entries pool size
    ∙ ap (λ m. map.insert m pool size) c.self.view_is
    ∙ with_size-new c.args.self.now pool size (ap is_some (sym c.size.ensures) ∙ c.if-is_none.ensures)
