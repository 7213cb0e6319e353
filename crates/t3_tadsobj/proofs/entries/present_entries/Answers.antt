use Rattle.std.proofs.Common.{◌≡◌, ◌∙◌, ap, subst, rules, tests}
use Rattle.std.specs.Ordering.{nat_cmp}
use Rattle.std.specs.Map.{keys_of}
use Rattle.std.specs.List.Sorted.{IsStrictlySortedBy}
use Rattle.std.proofs.lemmas.Map.Entries.{entries_from_clone}
use Rattle.t3_tadsobj.specs.Inner.Entries.{afresh}
use Rattle.t3_tadsobj.proofs.EntryLists.{Entries, afresh-retained}
use Rattle.t3_tadsobj.proofs.entries.present_entries.Goals as goal
use Rattle.t3_tadsobj.proofs.entries.present_entries.Goals.{After-retain}

cloned : (c : After-retain) → c.in_ok-copy.copy.entries ≡ c.args.entries.now.entries
cloned c = entries_from_clone _ _ (λ x y h. h) (λ x y h. search (rules, tests)) _ _ c.in_ok-copy.ensures.cases

pub returns-clause-present : goal.returns-clause-present
returns-clause-present c =
    afresh-retained _ (λ g k v b w g' called. search (rules, tests)) _ _ _ c.retain.ensures.filtered
    ∙ ap afresh (cloned c)

pub returns-clause-ordered : goal.returns-clause-ordered
returns-clause-ordered c = subst (λ (es : Entries). IsStrictlySortedBy nat_cmp (keys_of es)) (cloned c) c.retain.ensures.was_ordered
