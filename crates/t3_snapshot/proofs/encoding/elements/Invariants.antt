use Rattle.std.proofs.Common.{◌≡◌, take, List, Some}
use Rattle.t3_holder.specs.declared.holder.Holder.{Holder}
use Rattle.t3_store.specs.Value.{Vector}
use Rattle.t3_snapshot.proofs.encoding.elements.Given as goal

abbrev pub invariant-loop-index : goal.invariant-loop-index
invariant-loop-index l = (items : List Holder) → l.object ≡ Some (Vector items) → l.holders.items ≡ take l.index items
