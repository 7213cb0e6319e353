use Rattle.std.proofs.Common.{Ok, [], subst, sym, ◌∙◌}
use Rattle.std.proofs.lemmas.Result.{err_from_is_err_and}
use Rattle.t3_lines.specs.Reader.{CountsLine, IsAtEnd}
use Rattle.t3_lines.specs.declared.line.WantedLine.{WantedLine}
use Rattle.t3_run.specs.Cause.{IsNoDepotFault}
use Rattle.t3_run.specs.Running.{outside}
use Rattle.t3_run.proofs.PlayedTurns.{line-into, line-finished, end-finished, limit-stops}
use Rattle.t3_run.proofs.PlayedRuns.{finished-err}
use Rattle.t3_run.proofs.turn.give_line.Goals as goal

pub returns-in_err-line-clause-finished : goal.returns-in_err-line-clause-finished
returns-in_err-line-clause-finished g c play left files own steps played =
    let p = err_from_is_err_and c.from_residual.result c.from_residual.ensures.1 in
    let after = g.C.Console.session c.next_line.new.console in
    finished-err IsNoDepotFault play left [] c.next_line.new.self (outside files after) c.from_residual.result _ p.1
    (line-into play left c.args.machine.state c.args.lines.now c.next_line.new.self files (g.C.Console.session c.args.console.now) after
    c.next_line.ensures.takes c.next_line.ensures.limit played)

pub returns-in_err-finish-in-Line-clause-finished : goal.returns-in_err-finish-in-Line-clause-finished
returns-in_err-finish-in-Line-clause-finished g c play left files own steps played =
    let p = err_from_is_err_and c.from_residual-in_err-finish-in-Line.result c.from_residual-in_err-finish-in-Line.ensures.1 in
    let after = g.C.Console.session c.next_line.new.console in
    finished-err IsNoDepotFault play left [] c.next_line.new.self (outside files after) c.from_residual-in_err-finish-in-Line.result _ p.1
    (line-into play left c.args.machine.state c.args.lines.now c.next_line.new.self files (g.C.Console.session c.args.console.now) after
    c.next_line.ensures.takes c.next_line.ensures.limit played)

pub returns-in_err-finish-in-EndOfInput-clause-finished : goal.returns-in_err-finish-in-EndOfInput-clause-finished
returns-in_err-finish-in-EndOfInput-clause-finished g c play left files own steps played =
    let p = err_from_is_err_and c.from_residual-in_err-finish-in-EndOfInput.result c.from_residual-in_err-finish-in-EndOfInput.ensures.1 in
    let after = g.C.Console.session c.next_line.new.console in
    finished-err IsNoDepotFault play left [] c.next_line.new.self (outside files after) c.from_residual-in_err-finish-in-EndOfInput.result _ p.1
    (line-into play left c.args.machine.state c.args.lines.now c.next_line.new.self files (g.C.Console.session c.args.console.now) after
    c.next_line.ensures.takes c.next_line.ensures.limit played)

pub returns-in_ok-finish-in-Line-clause-finished : goal.returns-in_ok-finish-in-Line-clause-finished
returns-in_ok-finish-in-Line-clause-finished g c play left files own steps played =
    let old = c.args.lines.now in
    let new = c.next_line.new.self in
    let given = subst (λ (l : WantedLine). CountsLine old.given new.given (Ok l)) c.in-Line.is c.in_ok-line.ensures.given in
    line-finished play left c.args.machine old new files (g.C.Console.session c.args.console.now) (g.C.Console.session c.next_line.new.console)
    c.in-Line.line c.in_ok-finish-in-Line.field-0 own steps given c.next_line.ensures.takes c.next_line.ensures.limit
    (λ input is. sym c.in-Line.is ∙ c.in_ok-line.ensures.line input is) played c.in_ok-finish-in-Line.ensures

pub returns-in_ok-finish-in-EndOfInput-clause-finished : goal.returns-in_ok-finish-in-EndOfInput-clause-finished
returns-in_ok-finish-in-EndOfInput-clause-finished g c play left files own steps played =
    let old = c.args.lines.now in
    let new = c.next_line.new.self in
    let given = subst (λ (l : WantedLine). CountsLine old.given new.given (Ok l)) c.in-EndOfInput.is c.in_ok-line.ensures.given in
    let ended = subst (λ (l : WantedLine). IsAtEnd new l) c.in-EndOfInput.is c.in_ok-line.ensures.at_end in
    end-finished play left c.args.machine old new files (g.C.Console.session c.args.console.now) (g.C.Console.session c.next_line.new.console)
    c.in_ok-finish-in-EndOfInput.field-0 own steps given ended c.next_line.ensures.takes c.next_line.ensures.limit
    (λ input is. sym c.in-EndOfInput.is ∙ c.in_ok-line.ensures.line input is) played c.in_ok-finish-in-EndOfInput.ensures

pub returns-in-PastLimit-clause-finished : goal.returns-in-PastLimit-clause-finished
returns-in-PastLimit-clause-finished g c play left files own steps played =
    limit-stops play left c.args.machine c.args.lines.now c.next_line.new.self files (g.C.Console.session c.args.console.now)
    (g.C.Console.session c.next_line.new.console) c.next_line.ensures.takes c.next_line.ensures.limit
    (λ input is. sym c.in-PastLimit.is ∙ c.in_ok-line.ensures.line input is) played
