use Rattle.std.proofs.Common.{◌∙◌, ap, sym, is_some, true≢false}
use Rattle.std.specs.FinMap.{get-empty}
use Rattle.t3_undo.specs.Cell.{cell_cmp}
use Rattle.t3_store.proofs.object.Object.purge.Goals as goal

pub returns-in-Text-clause-gone : goal.returns-in-Text-clause-gone
returns-in-Text-clause-gone c cell stamp there = absurd (true≢false (ap is_some (sym there ∙ get-empty cell_cmp cell)))

pub returns-in-List-clause-gone : goal.returns-in-List-clause-gone
returns-in-List-clause-gone c cell stamp there = absurd (true≢false (ap is_some (sym there ∙ get-empty cell_cmp cell)))
