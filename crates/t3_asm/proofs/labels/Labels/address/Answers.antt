use Rattle.std.proofs.Common.{ap, ◌∙◌}
use Rattle.std.specs.Cmp.Lexicographic.{nat_list_cmp_total}
use Rattle.std.specs.FinMap as map
use Rattle.t3_asm.proofs.Kept.{get-kept}
use Rattle.t3_asm.proofs.labels.Labels.address.Goals as goal

pub returns-in-Some : goal.returns-in-Some
returns-in-Some c =
    get-kept nat_list_cmp_total (λ v. v.items) c.args.label.now _ _ c.in-Some.ensures.value
    ∙ ap (λ m. map.get m c.args.label.now) c.self.view_is

pub returns-in-None : goal.returns-in-None
returns-in-None c =
    get-kept nat_list_cmp_total (λ v. v.items) c.args.label.now _ _ c.in-None.ensures.value
    ∙ ap (λ m. map.get m c.args.label.now) c.self.view_is
