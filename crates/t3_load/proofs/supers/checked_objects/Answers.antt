use Rattle.std.proofs.Common.{◌≡◌, ◌∙◌, List, Err, ap, subst, arith}
use Rattle.t3_load.specs.declared.objects.ImageObject.{ImageObject}
use Rattle.t3_load.specs.Rules.{KeepsRules, AreObjectsIn}
use Rattle.t3_load.specs.Inner.Deciding.{Decides}
use Rattle.t3_load.proofs.RuleSteps.{kept_both, kept_none, decides_behind}
use Rattle.t3_load.proofs.supers.checked_objects.Goals as goal

pub returns-in_err-objects-clause-decides : goal.returns-in_err-objects-clause-decides
returns-in_err-objects-clause-decides c =
    let same : c.deref.result.now ≡ c.args.image.now.blocks =
    c.deref.ensures.value ∙ ap (λ x. x.blocks) c.image-inside.view_is ∙ ap (λ x. x.blocks) c.image.view_is in
    decides_behind c.args.image.now.blocks 7 7 10 13 c.from_residual.result c.in_err-objects.field-0.0 (omega arith) (omega arith)
    (λ limits. kept_none c.args.image.now.blocks limits 7)
    (subst (λ b. Decides {X = List ImageObject} b 7 10 (Err c.in_err-objects.field-0.0)) same c.in_err-objects.ensures.decides)
    c.from_residual.ensures.1

pub returns-in_err-check_there-clause-decides : goal.returns-in_err-check_there-clause-decides
returns-in_err-check_there-clause-decides c =
    let same : c.deref.result.now ≡ c.args.image.now.blocks =
    c.deref.ensures.value ∙ ap (λ x. x.blocks) c.image-inside.view_is ∙ ap (λ x. x.blocks) c.image.view_is in
    let are = subst (λ b. AreObjectsIn b c.in_ok-objects.objects) same c.in_ok-objects.ensures.objects in
    decides_behind c.args.image.now.blocks 7 10 11 13 c.from_residual-in_err-check_there.result c.in_err-check_there.field-0.0
    (omega arith) (omega arith)
    (λ limits. subst (λ b. KeepsRules b limits 7 10) same (c.in_ok-objects.ensures.decides limits))
    (c.in_err-check_there.ensures.decides c.args.image.now.blocks are) c.from_residual-in_err-check_there.ensures.1

pub returns-in_err-check_acyclic-clause-decides : goal.returns-in_err-check_acyclic-clause-decides
returns-in_err-check_acyclic-clause-decides c =
    let blocks = c.args.image.now.blocks in
    let same : c.deref.result.now ≡ blocks =
    c.deref.ensures.value ∙ ap (λ x. x.blocks) c.image-inside.view_is ∙ ap (λ x. x.blocks) c.image.view_is in
    let are = subst (λ b. AreObjectsIn b c.in_ok-objects.objects) same c.in_ok-objects.ensures.objects in
    decides_behind blocks 7 11 12 13 c.from_residual-in_err-check_acyclic.result c.in_err-check_acyclic.field-0.0
    (omega arith) (omega arith)
    (λ limits. kept_both blocks limits 7 10 11 (subst (λ b. KeepsRules b limits 7 10) same (c.in_ok-objects.ensures.decides limits))
    (c.in_ok-check_there.ensures.decides blocks are limits))
    (c.in_err-check_acyclic.ensures.decides blocks are) c.from_residual-in_err-check_acyclic.ensures.1

pub returns-in_err-check_persistent-clause-decides : goal.returns-in_err-check_persistent-clause-decides
returns-in_err-check_persistent-clause-decides c =
    let blocks = c.args.image.now.blocks in
    let same : c.deref.result.now ≡ blocks =
    c.deref.ensures.value ∙ ap (λ x. x.blocks) c.image-inside.view_is ∙ ap (λ x. x.blocks) c.image.view_is in
    let are = subst (λ b. AreObjectsIn b c.in_ok-objects.objects) same c.in_ok-objects.ensures.objects in
    decides_behind blocks 7 12 13 13 c.from_residual-in_err-check_persistent.result c.in_err-check_persistent.field-0.0
    (omega arith) (omega arith)
    (λ limits. kept_both blocks limits 7 11 12
    (kept_both blocks limits 7 10 11 (subst (λ b. KeepsRules b limits 7 10) same (c.in_ok-objects.ensures.decides limits))
    (c.in_ok-check_there.ensures.decides blocks are limits)) (c.in_ok-check_acyclic.ensures.decides blocks are limits))
    (c.in_err-check_persistent.ensures.decides blocks are) c.from_residual-in_err-check_persistent.ensures.1

pub returns-clause-objects : goal.returns-clause-objects
returns-clause-objects c =
    let same : c.deref.result.now ≡ c.args.image.now.blocks =
    c.deref.ensures.value ∙ ap (λ x. x.blocks) c.image-inside.view_is ∙ ap (λ x. x.blocks) c.image.view_is in
    subst (λ b. AreObjectsIn b c.in_ok-objects.objects) same c.in_ok-objects.ensures.objects

pub returns-clause-decides : goal.returns-clause-decides
returns-clause-decides c =
    let blocks = c.args.image.now.blocks in
    let same : c.deref.result.now ≡ blocks =
    c.deref.ensures.value ∙ ap (λ x. x.blocks) c.image-inside.view_is ∙ ap (λ x. x.blocks) c.image.view_is in
    let are = subst (λ b. AreObjectsIn b c.in_ok-objects.objects) same c.in_ok-objects.ensures.objects in
    λ limits. kept_both blocks limits 7 12 13
    (kept_both blocks limits 7 11 12
    (kept_both blocks limits 7 10 11 (subst (λ b. KeepsRules b limits 7 10) same (c.in_ok-objects.ensures.decides limits))
    (c.in_ok-check_there.ensures.decides blocks are limits)) (c.in_ok-check_acyclic.ensures.decides blocks are limits))
    (c.in_ok-check_persistent.ensures.decides blocks are limits)
