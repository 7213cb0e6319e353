use Rattle.t3_interp.specs.View.{state_of}
use Rattle.t3_interp.proofs.Runs.{gone_none}
use Rattle.t3_interp.proofs.GoodRuns.{good-gone}
use Rattle.t3_interp.proofs.running.Running.go.Goals as goal

pub returns-then-most-eq0-clause-goes : goal.returns-then-most-eq0-clause-goes
returns-then-most-eq0-clause-goes c = gone_none c.args.program.now (state_of c.args.self.now) c.args.self.now.event c.requires.untold

pub returns-clause-good : goal.returns-clause-good
returns-clause-good c = good-gone c.args.program.now c.args.self.now c.advance.new.self c.in_ok-advance.ensures.gone c.requires.good
