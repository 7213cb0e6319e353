use Rattle.std.proofs.Common.{◌≡◌, ◌++◌, drop}
use Rattle.t3_asm.specs.Blocks.{entries_of}
use Rattle.t3_asm.proofs.entry.entries.Given as goal

-- the entries so far, in front of those of the lines that are left
abbrev pub invariant-loop-at : goal.invariant-loop-at
invariant-loop-at g l =
    l.entries.items ++ entries_of g.E.Entry.level g.E.Entry.begins (g.E.Entry.entry l.labels) (drop l.at l.items)
    ≡ entries_of g.E.Entry.level g.E.Entry.begins (g.E.Entry.entry l.labels) l.items
