use Rattle.std.proofs.Common.{◌≡◌, drop}
use Rattle.t3_kinds.specs.TableMethods.{have_fitting_texts}
use Rattle.t3_kinds.proofs.tables.have_fitting_texts.Given as goal

abbrev pub invariant-loop-pair : goal.invariant-loop-pair
invariant-loop-pair l = have_fitting_texts (drop l.pair-index l.pairs) ≡ have_fitting_texts l.pairs
