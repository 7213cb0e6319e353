use Rattle.std.proofs.Common.{sym}
use Rattle.std.specs.FinMap.{len-empty}
use Rattle.t3_undo.specs.Cell.{cell_cmp}
use Rattle.t3_undo.specs.Present.{Present}
use Rattle.t3_lists.proofs.list.ListMetaclass.present.Goals as goal

pub returns : goal.returns
returns c = sym (len-empty cell_cmp Present)
