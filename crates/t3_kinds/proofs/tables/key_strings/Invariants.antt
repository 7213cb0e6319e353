use Rattle.std.proofs.Common.{◌≡◌, take}
use Rattle.t3_kinds.specs.TableMethods.{key_strings}
use Rattle.t3_kinds.specs.Inner.Deeds.{changes_of}
use Rattle.t3_kinds.proofs.tables.key_strings.Given as goal

abbrev pub invariant-loop-pair : goal.invariant-loop-pair
invariant-loop-pair l = changes_of l.changes.items ≡ key_strings (take l.pair-index l.pairs)
