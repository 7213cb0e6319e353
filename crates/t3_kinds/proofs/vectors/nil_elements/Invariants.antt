use Rattle.std.proofs.Common.{◌≡◌, replicate}
use Rattle.t3_holder.specs.declared.holder.Holder.TheVariants.{Nil}
use Rattle.t3_kinds.specs.VectorMethods.{elements_set}
use Rattle.t3_kinds.specs.Inner.Deeds.{changes_of}
use Rattle.t3_kinds.proofs.vectors.nil_elements.Given as goal

abbrev pub invariant-loop-index : goal.invariant-loop-index
invariant-loop-index l = changes_of l.changes.items ≡ elements_set l.object l.first (replicate l.index Nil)
