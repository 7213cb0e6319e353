use Rattle.std.proofs.Common.{◌≡◌, drop}
use Rattle.std.specs.List.{list_any}
use Rattle.t3_kinds.specs.TadsMethods.{is_no_tads}
use Rattle.t3_kinds.proofs.tads.has_no_tads.Given as goal

abbrev pub invariant-loop-number : goal.invariant-loop-number
invariant-loop-number l = list_any (is_no_tads l.store.store) (drop l.number-index l.supers) ≡ list_any (is_no_tads l.store.store) l.supers
