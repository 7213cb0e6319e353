use Rattle.std.proofs.Common.{◌≡◌, ◌++◌, drop}
use Rattle.t3_load.specs.Entries.{entries}
use Rattle.t3_load.specs.Inner.Deciding.{listed_entry}
use Rattle.t3_load.proofs.entry.entry_method.Given as goal

-- what was found and what is left are all
abbrev pub invariant-loop-placed : goal.invariant-loop-placed
invariant-loop-placed l = listed_entry l.found ++ entries (drop l.placed-index l.blocks) ≡ entries l.blocks
