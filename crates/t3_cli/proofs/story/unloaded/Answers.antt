use Rattle.std.specs.Prelude.{string_bytes}
use Rattle.t3_cli.specs.declared.status.Status.TheVariants.{LoadRefused}
use Rattle.t3_cli.specs.Lines.{load_line}
use Rattle.t3_cli.proofs.Followed.{shows_line}
use Rattle.t3_cli.proofs.story.unloaded.Goals as goal

pub returns-in_default-clause-wants : goal.returns-in_default-clause-wants
returns-in_default-clause-wants g c = λ none. absurd (c.in_default.not-NoMemory none)

pub returns-in_default-clause-shown : goal.returns-in_default-clause-shown
returns-in_default-clause-shown g c =
    λ known. shows_line string_bytes (g.C.Console.session c.args.console.now) (g.C.Console.session c.answer.new.console)
    c.load_refused.result (load_line c.args.why) LoadRefused c.answer.result c.load_refused.ensures c.answer.ensures.shown
