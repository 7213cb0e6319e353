use Rattle.std.proofs.Common.{rules, tests}
use Rattle.indexmap.proofs.CallerLemmas.{filter-RetainsPairs}
use Rattle.t3_undo.specs.Slots.{is_needed}
use Rattle.t3_undo.proofs.slots.purge.Goals as goal

pub returns-clause-cells : goal.returns-clause-cells
returns-clause-cells c =
    filter-RetainsPairs _ (is_needed c.args.oldest) _ (λ k v b w g called. search (rules, tests)) _ _ c.retain.ensures.filtered
