use Rattle.std.proofs.Common.{[], ◌∙◌}
use Rattle.std.proofs.lemmas.Result.{err_from_is_err_and}
use Rattle.t3_interp.specs.declared.event.Input.TheVariants as inputs
use Rattle.t3_run.specs.Cause.{IsFault}
use Rattle.t3_run.specs.Running.{outside}
use Rattle.t3_run.proofs.PlayedTurns.{stored-into, stored, answer-into, answer-finished}
use Rattle.t3_run.proofs.PlayedRuns.{finished-err}
use Rattle.t3_run.proofs.turn.store_file.Goals as goal

pub returns-in_err-put-clause-finished : goal.returns-in_err-put-clause-finished
returns-in_err-put-clause-finished g c play left text reader session own steps played =
    let p = err_from_is_err_and c.from_residual.result c.from_residual.ensures.1 in
    let after = g.D.Depot.files c.put.new.self in
    finished-err IsFault play left text reader (outside after session) c.from_residual.result _ p.1
    (stored-into play left reader c.args.machine.state text c.args.name.now c.args.bytes.now (g.D.Depot.files c.args.depot.now) after session _ (λ is. p.2 ∙ is)
    c.in_err-put.ensures.put played)

pub returns-in_err-finish-clause-finished : goal.returns-in_err-finish-clause-finished
returns-in_err-finish-clause-finished g c play left text reader session own steps played =
    let p = err_from_is_err_and c.from_residual-in_err-finish.result c.from_residual-in_err-finish.ensures.1 in
    let after = g.D.Depot.files c.put.new.self in
    finished-err IsFault play left text reader (outside after session) c.from_residual-in_err-finish.result _ p.1
    (answer-into play left reader c.args.machine.state inputs.Stored text [] (outside after session)
    (stored play left reader c.args.machine.state text c.args.name.now c.args.bytes.now (g.D.Depot.files c.args.depot.now) after session
    c.in_ok-put.ensures.put played))

pub returns-clause-finished : goal.returns-clause-finished
returns-clause-finished g c play left text reader session own steps played =
    let after = g.D.Depot.files c.put.new.self in
    answer-finished play left c.args.machine reader (outside after session) inputs.Stored text [] c.in_ok-finish.field-0 own steps
    (stored play left reader c.args.machine.state text c.args.name.now c.args.bytes.now (g.D.Depot.files c.args.depot.now) after session
    c.in_ok-put.ensures.put played) c.in_ok-finish.ensures
