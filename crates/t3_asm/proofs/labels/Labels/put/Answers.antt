use Rattle.std.proofs.Common.{ap, ◌∙◌}
use Rattle.std.specs.Cmp.Lexicographic.{nat_list_cmp_total}
use Rattle.std.specs.FinMap.{slice_cmp-IsAntisymmetric, nat_cmp-IsAntisymmetric}
use Rattle.std.specs.FinMap as map
use Rattle.t3_asm.specs.Inner.Tables.{kept_entries}
use Rattle.t3_asm.proofs.Kept.{kept-insert}
use Rattle.t3_asm.proofs.labels.Labels.put.Goals as goal

pub returns-clause-ok : goal.returns-clause-ok
returns-clause-ok c =
    let label = c.in_ok-label.label in
    let before = c.self.view_is in
    let is = c.in_ok-label.ensures.items in
    ap (λ es. map.from_entries (kept_entries (λ v. v.items) es)) c.in_ok-insert.ensures.entries
    ∙ kept-insert nat_list_cmp_total (slice_cmp-IsAntisymmetric nat_cmp-IsAntisymmetric)
    (λ v. v.items) c.self.inside.addresses.entries label c.args.address
    ∙ cc
