use Rattle.std.proofs.Common.{◌≤◌, sym, subst, refl, arith}
use Rattle.t3_interp.specs.declared.event.Event.TheVariants.{Went}
use Rattle.t3_interp.specs.declared.machine.Whole.{Whole}
use Rattle.t3_interp.specs.declared.running.Running.{Running}
use Rattle.t3_interp.specs.Machine.{MachineValue}
use Rattle.t3_interp.specs.Step.{IsWanted}
use Rattle.t3_interp.specs.View.{state_of}
use Rattle.t3_interp.specs.Inner.Acting.{IsBetweenSteps, IsGoodRun}
use Rattle.t3_interp.specs.Inner.DecodeCache.{IsCacheOf}
use Rattle.t3_interp.proofs.GoodRuns.{good-moved, good-untold}
use Rattle.t3_interp.proofs.machine.Machine.step.Goals as goal

pub invariant_of-self : goal.invariant_of-self
invariant_of-self c =
    let whole = c.deref_mut-whole.result.now in
    let input = c.args.input in
    let new = c.take.new.self in
    let told = c.in_ok-take.ensures in
    let held =
    subst (λ (w : Whole). IsBetweenSteps w.running × IsCacheOf w.program.pools.code w.cache × IsGoodRun w.program w.running)
    (sym c.deref_mut-whole.ensures.value) c.self.invariant in
    let wanted =
    subst (λ (w : Whole). IsWanted (state_of w.running).wants input) (sym c.deref_mut-whole.ensures.value)
    (subst (λ (m : MachineValue). IsWanted m.state.wants input) (sym c.self.view_is) c.requires.wants) in
    let good = good-moved whole.program (state_of whole.running).wants input whole.running new wanted told.step held.2 in
    let made : new.core.store.savepoints ≤ new.steps =
    let before = held.0.savepoints in let more = told.savepoints in omega (arith, before, more) in
    subst
    (λ (r : Running). IsBetweenSteps r × IsCacheOf whole.program.pools.code c.take.new.cache × IsGoodRun whole.program r)
    (sym c.take_event-event.ensures.rest)
    (record { untold = refl; writes = told.writes; savepoints = made }, told.cache, good-untold whole.program new Went good)
