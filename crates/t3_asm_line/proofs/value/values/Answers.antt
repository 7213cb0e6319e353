use Rattle.std.proofs.Common.{◌+◌, ap, sym, ◌∙◌, map, drop, arith}
use Rattle.t3_asm_line.specs.Keywords.{fields_of}
use Rattle.t3_asm_line.specs.Values.{values_of, joined}
use Rattle.t3_asm_line.specs.Inner.Reading.{behind_values}
use Rattle.t3_asm_line.proofs.ReadingSteps.{values_of-more, behind-Ok, behind-Range}
use Rattle.t3_asm_line.proofs.value.values.Goals as goal
use Rattle.t3_asm_line.proofs.value.values.Goals.{in-Ok+in_ok-push-in-Ok, in-Err-Range}

pub loop-at-preserved : goal.loop-at-preserved
loop-at-preserved c =
    let at = c.loop-at.at in
    let rest = values_of (drop (at + 1) (fields_of c.args.keyword)) (map (λ w. w.now) (drop (at + 1) c.args.words.now)) in
    let before = behind_values c.loop-at.has_far c.loop-at.values.items in
    let more = values_of-more (fields_of c.args.keyword) c.args.words.now at c.field.result _ c.field.ensures (omega arith) (omega arith) in
    elim c.match-value.branch [
      | in-Ok+in_ok-push-in-Ok w ↦
          rw (w.values-is, w.has_far-is, w.in_ok-push-in-Ok.ensures.items)
          (behind-Ok c.loop-at.has_far c.loop-at.values.items w.in-Ok.value rest
          ∙ ap (λ first. before (joined first rest)) (sym w.in-Ok.ensures) ∙ ap before (sym more) ∙ c.loop-at.invariant)
      | in-Err-Range w ↦
          rw (w.values-is, w.has_far-is)
          (behind-Range c.loop-at.has_far c.loop-at.values.items rest
          ∙ ap (λ first. before (joined first rest)) (sym (rw w.in-Err-Range.field-0-is at w.in-Err-Range.ensures))
          ∙ ap before (sym more) ∙ c.loop-at.invariant)
    ]
