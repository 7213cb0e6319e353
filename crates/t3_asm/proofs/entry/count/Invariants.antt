use Rattle.std.proofs.Common.{◌≡◌, ◌+◌, ◌≤◌, length, drop}
use Rattle.t3_asm.specs.Places.{Labels}
use Rattle.t3_asm.specs.Blocks.{entries_of}
use Rattle.t3_asm.proofs.entry.count.Given as goal

abbrev pub invariant-loop-item : goal.invariant-loop-item
invariant-loop-item g l = (l.count ≤ l.item-index) × ((labels : Labels)
    → l.count + length (entries_of g.E.Entry.level g.E.Entry.begins (g.E.Entry.entry labels) (drop l.item-index l.items))
    ≡ length (entries_of g.E.Entry.level g.E.Entry.begins (g.E.Entry.entry labels) l.items))
