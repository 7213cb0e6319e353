use Rattle.std.proofs.Common.{◌∙◌, ap, sym, is_some, true≢false}
use Rattle.std.specs.FinMap.{contains_key, get-empty}
use Rattle.t3_undo.specs.Cell.{cell_cmp}
use Rattle.t3_store.specs.Inner.Shapes.{places_of}
use Rattle.t3_store.proofs.object.Object.set_stamp.Goals as goal

-- strings and lists have no places
pub returns-in-Text-clause-places : goal.returns-in-Text-clause-places
returns-in-Text-clause-places c =
    absurd (true≢false (sym c.requires ∙ (λ i. contains_key (places_of (c.in-Text.is i)) c.args.cell.now) ∙ ap is_some (get-empty cell_cmp c.args.cell.now)))

pub returns-in-List-clause-places : goal.returns-in-List-clause-places
returns-in-List-clause-places c =
    absurd (true≢false (sym c.requires ∙ (λ i. contains_key (places_of (c.in-List.is i)) c.args.cell.now) ∙ ap is_some (get-empty cell_cmp c.args.cell.now)))
