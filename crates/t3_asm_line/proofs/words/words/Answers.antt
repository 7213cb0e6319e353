use Rattle.std.proofs.Common.{◌<◌, length, arith, sym, ◌∙◌}
use Rattle.t3_asm_line.proofs.WordSteps.{words_from-space, words_from-other}
use Rattle.t3_asm_line.proofs.words.words.Goals as goal
use Rattle.t3_asm_line.proofs.words.words.Goals.{then-ends_word+in_ok-push_word-2, else-ends_word}

pub loop-at-preserved : goal.loop-at-preserved
loop-at-preserved c =
    let at = c.loop-at.at in
    let line = c.args.line.now in
    let inside : at < length line = omega arith in
    let keeps = sym c.if-ends_line.ensures in
    elim c.if-ends_word.branch [
      | then-ends_word+in_ok-push_word-2 w ↦ record {
        begun = omega arith;
        is = rw (w.words-is, w.mode-is, w.start-is, w.in_ok-push_word-2.ensures)
            (words_from-space c.loop-at.mode line c.loop-at.start at _ _ inside keeps (sym c.ends_word.ensures
            ∙ w.if-ends_word.true) c.loop-at.invariant.is);
      }
      | else-ends_word w ↦ record {
        begun = omega arith;
        is = rw (w.words-is, w.mode-is, w.start-is, w.behind-mode.ensures)
            (words_from-other c.loop-at.mode line c.loop-at.start at _ _ c.loop-at.invariant.begun inside keeps
            (sym c.ends_word.ensures ∙ w.if-ends_word.false) c.loop-at.invariant.is);
      }
    ]
