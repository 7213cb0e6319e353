use Rattle.std.proofs.Common.{◌≡◌, List, ap, sym, subst, ◌∙◌}
use Rattle.t3_image_read.specs.ImageText.{ImageValue}
use Rattle.t3_image_read.specs.declared.image.PlacedBlock.{PlacedBlock}
use Rattle.t3_pools.specs.Pool.{PagedPoolValue, pools_in}
use Rattle.t3_pools.specs.Building.{KeepsRules}
use Rattle.t3_pools.proofs.Rules.{both_pools}
use Rattle.t3_pools.proofs.pools.Pools.by_rules.Goals as goal

pub returns : goal.returns
returns c =
    let image = ap (λ (i : ImageValue). i.blocks) c.image.view_is in
    let blocks : c.deref.result.now ≡ c.args.image.now.blocks = c.deref.ensures.value ∙ (λ i. (c.image-inside.view_is i).blocks) ∙ image in
    let code = rw c.deref-2.ensures.value at c.in_ok-new.ensures in
    let constants = rw c.deref-3.ensures.value at c.in_ok-new-2.ensures in
    let first = c.in_ok-code.ensures.1.0 in
    let second = c.in_ok-code.ensures.1.1 in (
      subst (λ (b : List PlacedBlock). KeepsRules b) blocks c.in_ok-code.ensures.0,
      both_pools c.deref.result.now _ _ (first.pool ∙ ap (λ (p : PagedPoolValue). p.bytes) (sym code))
          (second.pool ∙ ap (λ (p : PagedPoolValue). p.bytes) (sym constants))
          (first.size ∙ ap (λ (p : PagedPoolValue). p.page_size) (sym code))
          (second.size ∙ ap (λ (p : PagedPoolValue). p.page_size) (sym constants)) ∙ ap pools_in blocks,
    )
