use Rattle.std.proofs.lemmas.Result.{err_from_is_err_and}
use Rattle.t3_interp.specs.declared.event.Event.TheVariants.{WantGet}
use Rattle.t3_run.specs.Cause.{IsFault}
use Rattle.t3_run.specs.Running.{outside}
use Rattle.t3_run.proofs.PlayedTurns.{event-into, same-files, given-file, answer-into, answer-finished}
use Rattle.t3_run.proofs.PlayedRuns.{turned-err}
use Rattle.t3_run.proofs.turn.give_file.Goals as goal

pub returns-in_err-read_file-clause-turned : goal.returns-in_err-read_file-clause-turned
returns-in_err-read_file-clause-turned g c play left text screen reader session page own steps played =
    let p = err_from_is_err_and c.from_residual.result c.from_residual.ensures.1 in
    let old = g.D.Depot.files c.args.depot.now in
    let new = g.D.Depot.files c.read_file.new.depot in
    turned-err IsFault play left screen reader (outside new session) c.from_residual.result _ p.1
    (same-files play old new session c.read_file.ensures.files
    (event-into play left reader c.args.machine.state (WantGet c.args.name.now) text screen.out.items (outside old session) played))

pub returns-in_err-finish-clause-turned : goal.returns-in_err-finish-clause-turned
returns-in_err-finish-clause-turned g c play left text screen reader session page own steps played =
    let p = err_from_is_err_and c.from_residual-in_err-finish.result c.from_residual-in_err-finish.ensures.1 in
    let old = g.D.Depot.files c.args.depot.now in
    let new = g.D.Depot.files c.read_file.new.depot in
    turned-err IsFault play left screen reader (outside new session) c.from_residual-in_err-finish.result _ p.1
    (answer-into play left reader c.args.machine.state c.file_input-input.result text screen.out.items (outside new session)
    (given-file play left reader c.args.machine.state text c.args.name.now c.in_ok-read_file.field-0 c.file_input-input.result screen.out.items old new
    session c.read_file.ensures.files c.in_ok-read_file.ensures.read c.file_input-input.ensures played))

pub returns-clause-turned : goal.returns-clause-turned
returns-clause-turned g c play left text screen reader session page own steps played =
    let old = g.D.Depot.files c.args.depot.now in
    let new = g.D.Depot.files c.read_file.new.depot in (
      text,
      page,
      answer-finished play left c.args.machine reader (outside new session) c.file_input-input.result text screen.out.items c.in_ok-finish.field-0 own
          steps
          (given-file play left reader c.args.machine.state text c.args.name.now c.in_ok-read_file.field-0 c.file_input-input.result screen.out.items
          old new session c.read_file.ensures.files c.in_ok-read_file.ensures.read c.file_input-input.ensures played) c.in_ok-finish.ensures,
    )
