use Rattle.std.proofs.Common.{◌≡◌, ◌+◌, ◌≤◌, take}
use Rattle.t3_kinds.specs.TableMethods.{key_values, number_after}
use Rattle.t3_kinds.proofs.tables.key_values.Given as goal

abbrev pub invariant-loop-pair : goal.invariant-loop-pair
invariant-loop-pair l = record {
  items : l.items.items ≡ key_values l.first (take l.pair-index l.pairs);
  next : l.next ≡ number_after l.first (take l.pair-index l.pairs);
  within : l.next ≤ l.first + l.pair-index;
}
