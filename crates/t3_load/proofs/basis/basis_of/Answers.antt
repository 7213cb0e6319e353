use Rattle.std.proofs.Common.{◌≡◌, ◌∙◌, ℕ, Err, ap, subst, arith}
use Rattle.t3_load.specs.Rules.{KeepsRules}
use Rattle.t3_load.specs.Inner.Deciding.{Decides}
use Rattle.t3_load.proofs.RuleSteps.{kept_both, kept_none, decides_behind}
use Rattle.t3_load.proofs.basis.basis_of.Goals as goal

pub returns-in_err-entry-clause-decides : goal.returns-in_err-entry-clause-decides
returns-in_err-entry-clause-decides c =
    let same : c.deref.result.now ≡ c.args.image.now.blocks =
    c.deref.ensures.value ∙ ap (λ x. x.blocks) c.image-inside.view_is ∙ ap (λ x. x.blocks) c.image.view_is in
    decides_behind c.args.image.now.blocks 1 1 4 7 c.from_residual.result c.in_err-entry.field-0.0 (omega arith) (omega arith)
    (λ limits. kept_none c.args.image.now.blocks limits 1)
    (subst (λ b. Decides {X = ℕ} b 1 4 (Err c.in_err-entry.field-0.0)) same c.in_err-entry.ensures.decides) c.from_residual.ensures.1

pub returns-in_err-pools-clause-decides : goal.returns-in_err-pools-clause-decides
returns-in_err-pools-clause-decides c =
    let same : c.deref.result.now ≡ c.args.image.now.blocks =
    c.deref.ensures.value ∙ ap (λ x. x.blocks) c.image-inside.view_is ∙ ap (λ x. x.blocks) c.image.view_is in
    decides_behind c.args.image.now.blocks 1 4 5 7 c.from_residual-in_err-pools.result c.in_err-pools.field-0.0 (omega arith) (omega arith)
    (λ limits. subst (λ b. KeepsRules b limits 1 4) same (c.in_ok-entry.ensures.decides limits))
    c.in_err-pools.ensures.decides c.from_residual-in_err-pools.ensures.1

pub returns-in_err-kinds-clause-decides : goal.returns-in_err-kinds-clause-decides
returns-in_err-kinds-clause-decides c =
    let same : c.deref.result.now ≡ c.args.image.now.blocks =
    c.deref.ensures.value ∙ ap (λ x. x.blocks) c.image-inside.view_is ∙ ap (λ x. x.blocks) c.image.view_is in
    decides_behind c.args.image.now.blocks 1 5 6 7 c.from_residual-in_err-kinds.result c.in_err-kinds.field-0.0 (omega arith) (omega arith)
    (λ limits. kept_both c.args.image.now.blocks limits 1 4 5
    (subst (λ b. KeepsRules b limits 1 4) same (c.in_ok-entry.ensures.decides limits)) (c.in_ok-pools.ensures.decides limits))
    c.in_err-kinds.ensures.decides c.from_residual-in_err-kinds.ensures.1

pub returns-in_err-sets-clause-decides : goal.returns-in_err-sets-clause-decides
returns-in_err-sets-clause-decides c =
    let same : c.deref.result.now ≡ c.args.image.now.blocks =
    c.deref.ensures.value ∙ ap (λ x. x.blocks) c.image-inside.view_is ∙ ap (λ x. x.blocks) c.image.view_is in
    decides_behind c.args.image.now.blocks 1 6 7 7 c.from_residual-in_err-sets.result c.in_err-sets.field-0.0 (omega arith) (omega arith)
    (λ limits. kept_both c.args.image.now.blocks limits 1 5 6
    (kept_both c.args.image.now.blocks limits 1 4 5
    (subst (λ b. KeepsRules b limits 1 4) same (c.in_ok-entry.ensures.decides limits)) (c.in_ok-pools.ensures.decides limits))
    (c.in_ok-kinds.ensures.decides limits))
    c.in_err-sets.ensures.decides c.from_residual-in_err-sets.ensures.1

pub returns-clause-decides : goal.returns-clause-decides
returns-clause-decides c =
    let same : c.deref.result.now ≡ c.args.image.now.blocks =
    c.deref.ensures.value ∙ ap (λ x. x.blocks) c.image-inside.view_is ∙ ap (λ x. x.blocks) c.image.view_is in
    λ limits. kept_both c.args.image.now.blocks limits 1 6 7
    (kept_both c.args.image.now.blocks limits 1 5 6
    (kept_both c.args.image.now.blocks limits 1 4 5
    (subst (λ b. KeepsRules b limits 1 4) same (c.in_ok-entry.ensures.decides limits)) (c.in_ok-pools.ensures.decides limits))
    (c.in_ok-kinds.ensures.decides limits))
    (c.in_ok-sets.ensures.decides limits)
