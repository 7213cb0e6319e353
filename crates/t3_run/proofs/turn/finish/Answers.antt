use Rattle.std.proofs.Common.{IfOk, Result, refl, sym, subst}
use Rattle.t3_holder.specs.declared.no_memory.NoMemory.{NoMemory}
use Rattle.t3_interp.specs.declared.event.Event.{Event}
use Rattle.t3_interp.specs.Step.{StepsBy}
use Rattle.t3_run.specs.declared.turn.Turn.{Turn}
use Rattle.t3_run.specs.Inner.Playing.{IsFinished}
use Rattle.t3_run.proofs.PlayedTurns.{finished-goes}
use Rattle.t3_run.proofs.turn.finish.Goals as goal
use Rattle.t3_run.proofs.turn.finish.Goals.{in-Ended, in_default}

pub returns : goal.returns
returns c =
    let old = c.args.machine in
    let new = c.in_ok-machine.machine in
    let Told : Result Turn NoMemory → Type 0 = λ answer. IfOk answer (IsFinished old c.args.input) in
    elim c.match-event.branch [
      | in-Ended w ↦
          let Steps : Event → Type 0 = λ event. StepsBy old.program c.args.input old.state (record { state = new.state; event = event }) in
          subst Told (sym w.result-is) (w.in-Ended.end, subst Steps w.in-Ended.is c.in_ok-machine.ensures.step, refl)
      | in_default w ↦
          subst Told (sym w.result-is)
          (finished-goes old new c.args.input c.in_ok-machine.event c.requires.waits c.requires.frame c.in_ok-machine.ensures.program
          c.in_ok-machine.ensures.step w.in_default.not-Ended)
    ]
