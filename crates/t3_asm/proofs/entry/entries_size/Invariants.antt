use Rattle.std.proofs.Common.{◌≡◌, ◌+◌, ◌<◌, ◌^◌, length, drop}
use Rattle.std.specs.List.{flat_map}
use Rattle.t3_asm.specs.Places.{Labels}
use Rattle.t3_asm.specs.Blocks.{entries_of}
use Rattle.t3_asm.specs.Inner.Measures.{near}
use Rattle.t3_asm.proofs.entry.entries_size.Given as goal

abbrev pub invariant-loop-at : goal.invariant-loop-at
invariant-loop-at g l = (l.size < 2 ^ 64) × ((labels : Labels)
    → near (l.size + length (flat_map (g.E.Entry.text l.width)
    (entries_of g.E.Entry.level g.E.Entry.begins (g.E.Entry.entry labels) (drop l.at l.items))))
    ≡ near (length (flat_map (g.E.Entry.text l.width) (entries_of g.E.Entry.level g.E.Entry.begins (g.E.Entry.entry labels) l.items))))
