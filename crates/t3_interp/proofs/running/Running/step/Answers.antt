use Rattle.std.proofs.Common.{Bool, ◌≡◌, ◌<◌, ◌≤◌, ◌-◌, ◌+◌, OnOk, Result, Ok, Err, subst, arith}
use Rattle.t3_holder.specs.declared.no_memory.NoMemory.{NoMemory}
use Rattle.t3_load.specs.Loading.{ProgramValue}
use Rattle.t3_interp.specs.declared.running.Running.{Running}
use Rattle.t3_interp.specs.Step.{Steps, Goes}
use Rattle.t3_interp.specs.View.{state_of, comes_to}
use Rattle.t3_interp.specs.Inner.Acting.{HasGone}
use Rattle.t3_interp.proofs.Runs.{one_gone}
use Rattle.t3_interp.proofs.Going.{steady_one}
use Rattle.t3_interp.proofs.running.Running.step.Goals as goal

pub returns-clause-step : goal.returns-clause-step
returns-clause-step c =
    stepped c.args.program.now c.args.self.now c.advance.new.self c.advance.result c.advance.ensures.gone c.advance.ensures.some
    c.advance.ensures.bound
  where
    stepped : (program : ProgramValue) (old new : Running) (r : Result Bool NoMemory) → OnOk r (HasGone program old new)
        → OnOk r (old.steps < new.steps)
        → OnOk r (new.steps ≤ old.steps + 1) → OnOk r (Steps program (state_of old) (comes_to new))
    stepped program old new (Ok told) gone some bound =
        let one : new.steps - old.steps ≡ 1 = omega (arith, some, bound) in
        one_gone program (state_of old) (comes_to new) (subst (λ n. Goes program n (state_of old) (comes_to new)) one gone.goes)
    stepped program old new (Err refusal) gone some bound = tt

pub returns-clause-steady : goal.returns-clause-steady
returns-clause-steady c =
    steady_one c.args.program.now (state_of c.args.self.now) (c.args.self.now.steps + 1 - c.args.self.now.steps) c.advance.result (omega arith)
    c.advance.ensures.steady
