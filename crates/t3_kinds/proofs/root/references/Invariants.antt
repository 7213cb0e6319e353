use Rattle.std.proofs.Common.{◌≡◌, map, take}
use Rattle.t3_holder.specs.declared.holder.Holder.TheVariants.{Obj}
use Rattle.t3_kinds.proofs.root.references.Given as goal

abbrev pub invariant-loop-number : goal.invariant-loop-number
invariant-loop-number l = l.items.items ≡ map Obj (take l.number-index l.numbers)
