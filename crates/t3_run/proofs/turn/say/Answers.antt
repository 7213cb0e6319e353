use Rattle.std.proofs.Common.{◌++◌, ◌∙◌}
use Rattle.std.proofs.lemmas.Result.{err_from_is_err_and}
use Rattle.t3_run.specs.Cause.{IsNoDepotFault}
use Rattle.t3_run.specs.Running.{outside}
use Rattle.t3_run.proofs.PlayedTurns.{said-into, said-goes}
use Rattle.t3_run.proofs.PlayedRuns.{turned-err}
use Rattle.t3_run.proofs.turn.say.Goals as goal

pub returns-in_err-say-clause-turned : goal.returns-in_err-say-clause-turned
returns-in_err-say-clause-turned g c play left text reader files page own steps played =
    let p = err_from_is_err_and c.from_residual.result c.from_residual.ensures.1 in
    let mid = g.C.Console.session c.args.console.now in
    let after = g.C.Console.session c.say.new.console in
    let screen = c.args.screen.now in
    let put = c.in_err-say.ensures.put text page.taken in
    turned-err IsNoDepotFault play left c.say.new.self reader (outside files after) c.from_residual.result _ p.1
    (said-into play left reader c.args.machine.state text c.args.text.now screen put.0 files mid after page played put.1)

pub returns-clause-turned : goal.returns-clause-turned
returns-clause-turned g c play left text reader files page own steps played =
    let mid = g.C.Console.session c.args.console.now in
    let after = g.C.Console.session c.say.new.console in
    let screen = c.args.screen.now in
    let piece = c.args.text.now in
    let new = c.say.new.self in
    let taken = c.in_ok-say.ensures.page text page.taken in (
      text ++ piece,
      record { taken = taken.0; width = taken.1 ∙ page.width },
      record {
        program = own;
        wants = c.requires.wants.1;
        made = steps;
        played =
            said-goes play left reader c.args.machine.state text piece screen new.out.items files mid after page played
            (c.in_ok-say.ensures.put text page.taken);
      },
    )
