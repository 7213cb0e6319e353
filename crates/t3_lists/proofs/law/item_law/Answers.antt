use Rattle.t3_lists.proofs.Items.{items-filled, filled-set, filled-push, filled-pop}
use Rattle.t3_lists.proofs.law.item_law.Goals as goal

pub returns : goal.returns
returns c = record { items = items-filled; set = filled-set; added = filled-push; away = filled-pop }
