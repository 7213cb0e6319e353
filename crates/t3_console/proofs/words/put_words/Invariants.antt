use Rattle.std.proofs.Common.{◌-◌, length}
use Rattle.t3_console.proofs.Stepping.{IsPutting}
use Rattle.t3_console.proofs.words.put_words.Given as goal

abbrev pub invariant-loop-word : goal.invariant-loop-word
invariant-loop-word l =
    IsPutting l.width (record { column = l.initial.column; word = l.initial.begun }) l.text l.initial.out.items l.out.items l.column
    l.begun l.at

abbrev pub decreases-loop-word : goal.decreases-loop-word
decreases-loop-word l = length l.text - l.at
