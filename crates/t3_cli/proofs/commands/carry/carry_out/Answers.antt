use Rattle.std.proofs.Common.{subst}
use Rattle.std.specs.Prelude.{List, ℕ}
use Rattle.t3_words.specs.Command.{command_value}
use Rattle.t3_words.specs.Input.{input_of, file_of}
use Rattle.t3_cli.specs.Inner.Following.{ShowsNoImage}
use Rattle.t3_cli.proofs.Answered.{command_answers, command_moves, command_not_usage, no_image_answers, no_image_moves, no_image_not_usage, counts_told}
use Rattle.t3_cli.proofs.commands.carry.carry_out.Goals as goal

pub returns-in-Ok-clause-answers : goal.returns-in-Ok-clause-answers
returns-in-Ok-clause-answers g c = command_answers (command_value c.args.command)
    (g.D.Depot.files c.args.depot.now) _ _ _ c.in-Ok.status c.in-Ok.ensures.carries

pub returns-in-Ok-clause-moved : goal.returns-in-Ok-clause-moved
returns-in-Ok-clause-moved g c = command_moves (command_value c.args.command)
    (g.D.Depot.files c.args.depot.now) _ _ _ c.in-Ok.status c.in-Ok.ensures.carries

pub returns-in-Ok-clause-no_usage : goal.returns-in-Ok-clause-no_usage
returns-in-Ok-clause-no_usage g c = command_not_usage (command_value c.args.command)
    (g.D.Depot.files c.args.depot.now) _ _ _ c.in-Ok.status c.in-Ok.ensures.carries

-- what was told, under the name of the command's file
tells : (g : _) (c : goal.After-show_no_image g)
    → ShowsNoImage (file_of (input_of (command_value c.args.command))) c.in-Err.why (g.C.Console.session c.act.new.console)
    (g.C.Console.session c.show_no_image.new.console) c.show_no_image.result
tells g c =
    subst (λ (name : List ℕ). ShowsNoImage name c.in-Err.why (g.C.Console.session c.act.new.console)
    (g.C.Console.session c.show_no_image.new.console) c.show_no_image.result)
    c.file.ensures c.show_no_image.ensures.shown

pub returns-in-Err-clause-answers : goal.returns-in-Err-clause-answers
returns-in-Err-clause-answers g c =
    no_image_answers (command_value c.args.command)
    (g.D.Depot.files c.args.depot.now) _ _ _ _ c.show_no_image.result c.in-Err.why c.in-Err.ensures.carries (tells g c)

pub returns-in-Err-clause-moved : goal.returns-in-Err-clause-moved
returns-in-Err-clause-moved g c =
    no_image_moves (command_value c.args.command)
    (g.D.Depot.files c.args.depot.now) _ _ _ _ c.show_no_image.result c.in-Err.why c.in-Err.ensures.carries (tells g c)

pub returns-in-Err-clause-no_usage : goal.returns-in-Err-clause-no_usage
returns-in-Err-clause-no_usage g c =
    no_image_not_usage (file_of (input_of (command_value c.args.command))) c.in-Err.why _ _ c.show_no_image.result (tells g c)

pub returns-in-Err-clause-depot : goal.returns-in-Err-clause-depot
returns-in-Err-clause-depot g c = counts_told _ _ c.in-Err.why c.show_no_image.result c.in-Err.ensures.depot c.show_no_image.ensures.depot
