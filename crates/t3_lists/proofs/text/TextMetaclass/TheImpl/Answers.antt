use Rattle.std.proofs.Common.{◌∙◌, ap, is_some, sym, refl, true≢false}
use Rattle.std.specs.FinMap.{get-empty}
use Rattle.t3_undo.specs.Cell.{cell_cmp}
use Rattle.t3_lists.proofs.text.TextMetaclass.TheImpl.Goals as goal

-- no cell has a place
pub put-tells : goal.put-tells
put-tells c = absurd (true≢false (sym c.requires.place ∙ ap is_some (get-empty cell_cmp c.args.cell.now)))

pub set_stamp-tells : goal.set_stamp-tells
set_stamp-tells c = absurd (true≢false (sym c.requires ∙ ap is_some (get-empty cell_cmp c.args.cell.now)))

pub purge-tells : goal.purge-tells
purge-tells c = record {
  parts = refl;
  fewer = λ cell stamp e. e;
  kept = λ cell stamp e stays. e;
  gone = λ cell stamp e. absurd (true≢false (sym (ap is_some e) ∙ ap is_some (get-empty cell_cmp cell)));
}
