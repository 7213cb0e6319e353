use Rattle.std.proofs.Common.{◌∙◌, sym, ap, is_some, true≢false}
use Rattle.std.specs.FinMap.{get-empty}
use Rattle.t3_undo.specs.Cell.{cell_cmp}
use Rattle.t3_lists.proofs.text.TextMetaclass.stamp.Goals as goal

pub returns : goal.returns
returns c = absurd (true≢false (sym c.requires ∙ ap is_some (get-empty cell_cmp c.args._cell.now)))
