use Rattle.std.proofs.Common.{ap}
use Rattle.t3_words.specs.Command.{Check, Show, Run, Rewrite, Listing, Asm, Drill, command_value, options_value}
use Rattle.t3_cli.proofs.Followed.{matched_command}
use Rattle.t3_cli.proofs.commands.carry.act.Goals as goal

pub returns-in-Check-clause-carries : goal.returns-in-Check-clause-carries
returns-in-Check-clause-carries g c =
    matched_command (command_value c.args.command) (Check c.in-Check.image.now) _ _ _ _ c.check_image.result
    (ap command_value c.in-Check.is)
    c.check_image.ensures.carries

pub returns-in-Show-clause-carries : goal.returns-in-Show-clause-carries
returns-in-Show-clause-carries g c =
    matched_command (command_value c.args.command) (Show c.in-Show.image.now) _ _ _ _ c.show_image.result (ap command_value c.in-Show.is)
    c.show_image.ensures.carries

pub returns-in-Run-clause-carries : goal.returns-in-Run-clause-carries
returns-in-Run-clause-carries g c =
    matched_command (command_value c.args.command) (Run c.in-Run.image.now (options_value c.in-Run.options)) _ _ _ _ c.run_image.result
    (ap command_value c.in-Run.is)
    c.run_image.ensures.carries

pub returns-in-Rewrite-clause-carries : goal.returns-in-Rewrite-clause-carries
returns-in-Rewrite-clause-carries g c =
    matched_command (command_value c.args.command)
    (Rewrite c.in-Rewrite.image.now c.in-Rewrite.out.now c.in-Rewrite.mask) _ _ _ _ c.rewrite.result (ap command_value c.in-Rewrite.is)
    c.rewrite.ensures.carries

pub returns-in-List-clause-carries : goal.returns-in-List-clause-carries
returns-in-List-clause-carries g c =
    matched_command (command_value c.args.command) (Listing c.in-List.image.now c.in-List.out.now) _ _ _ _ c.list_image.result
    (ap command_value c.in-List.is)
    c.list_image.ensures.carries

pub returns-in-Asm-clause-carries : goal.returns-in-Asm-clause-carries
returns-in-Asm-clause-carries g c =
    matched_command (command_value c.args.command) (Asm c.in-Asm.source.now c.in-Asm.out.now) _ _ _ _ c.assemble_source.result
    (ap command_value c.in-Asm.is)
    c.assemble_source.ensures.carries

pub returns-in-Drill-clause-carries : goal.returns-in-Drill-clause-carries
returns-in-Drill-clause-carries g c =
    matched_command (command_value c.args.command) (Drill c.in-Drill.number) _ _ _ _ c.run_drill.result (ap command_value c.in-Drill.is)
    c.run_drill.ensures.carries
