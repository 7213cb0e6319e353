use Rattle.std.proofs.Common.{rules, tests}
use Rattle.std.proofs.lemmas.Map.Made.{filter_same_pairs}
use Rattle.t3_tadsobj.specs.Inner.Entries.{is_needed}
use Rattle.t3_tadsobj.proofs.entries.purge.Goals as goal

pub returns-clause-entries : goal.returns-clause-entries
returns-clause-entries c =
    filter_same_pairs _ (is_needed c.args.oldest) _ (λ k v b w g called. search (rules, tests)) _ _ c.retain.ensures.filtered
