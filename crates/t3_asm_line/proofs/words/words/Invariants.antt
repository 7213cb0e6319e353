use Rattle.std.proofs.Common.{◌≡◌, ◌++◌, ◌≤◌, ◌-◌, map, take, drop}
use Rattle.t3_asm_line.specs.Words.{words_from, words_of}
use Rattle.t3_asm_line.proofs.words.words.Given as goal

-- the words so far, and those of what is left behind the word that has begun
abbrev pub invariant-loop-at : goal.invariant-loop-at
invariant-loop-at l = record {
  begun : l.start ≤ l.at;
  is : map (λ word. word.now) l.words.items ++ words_from l.mode (take (l.at - l.start) (drop l.start l.line))
      (drop l.at l.line) ≡ words_of l.line;
}
