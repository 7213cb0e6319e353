use Rattle.std.proofs.Common.{ap, ◌∙◌}
use Rattle.std.specs.FinMap.{get, get-empty, insert}
use Rattle.std.specs.Ordering.{nat_cmp}
use Rattle.t3_store.specs.Value.{Objects, Items}
use Rattle.t3_snapshot_tests.proofs.OneObject.{list_savable}
use Rattle.t3_snapshot_tests.proofs.encoded.one_list.Goals as goal

pub add-requires-clause-new : goal.add-requires-clause-new
add-requires-clause-new c = ap (λ (m : Objects). get m 1) c.new-state.ensures ∙ get-empty nat_cmp 1

pub encode-requires : goal.encode-requires
encode-requires c =
    c.savable_objects.ensures _ 3 (list_savable c.add.new.self c.in_ok-items.items.items
    (c.in_ok-add.ensures.ok ∙ ap (λ (m : Objects). insert m 1 (Items c.in_ok-items.items.items)) c.new-state.ensures) c.in_ok-items.ensures.items)
