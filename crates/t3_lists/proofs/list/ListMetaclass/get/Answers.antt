use Rattle.std.proofs.Common.{sym, ap, is_some, true≢false, ◌∙◌}
use Rattle.std.specs.FinMap.{get-empty}
use Rattle.t3_undo.specs.Cell.{cell_cmp}
use Rattle.t3_lists.proofs.list.ListMetaclass.get.Goals as goal

pub returns-clause-content : goal.returns-clause-content
returns-clause-content c = sym (get-empty cell_cmp c.args._cell.now)

pub returns-clause-formed : goal.returns-clause-formed
returns-clause-formed c placed = absurd (true≢false (sym placed ∙ ap is_some (get-empty cell_cmp c.args._cell.now)))
