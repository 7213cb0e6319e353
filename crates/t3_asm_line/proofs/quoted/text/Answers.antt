use Rattle.std.proofs.Common.{◌<◌, length, arith}
use Rattle.t3_asm_line.specs.declared.quoted.Turn.TheVariants.{Await}
use Rattle.t3_asm_line.proofs.TextSteps.{text_from-behind, text_from-give}
use Rattle.t3_asm_line.proofs.quoted.text.Goals as goal
use Rattle.t3_asm_line.proofs.quoted.text.Goals.{in-Give+in_ok-push-in-Give, in-Await}

pub loop-at-preserved : goal.loop-at-preserved
loop-at-preserved c =
    let inside : c.loop-at.at < length c.args.bytes.now = omega arith in
    let due = c.loop-at.due in
    let bytes = c.args.bytes.now in
    let behind = c.turn_at.ensures.behind in
    elim c.match-turn_at.branch [
      | in-Give+in_ok-push-in-Give w ↦ record {
        due = rw w.due-is tt;
        is = rw (w.due-is, w.text-is, w.in_ok-push-in-Give.ensures.items)
            (text_from-give due w.in-Give.byte bytes c.loop-at.at _ _ inside (rw w.in-Give.is at behind) c.loop-at.invariant.is);
      }
      | in-Await w ↦ record {
        due = rw w.due-is (rw w.in-Await.is at c.turn_at.ensures.well);
        is = rw (w.due-is, w.text-is)
            (text_from-behind due (Await w.in-Await.next) bytes c.loop-at.at _ _ inside
            (rw w.in-Await.is at behind) c.loop-at.invariant.is);
      }
    ]
