use Rattle.std.proofs.Common.{◌≡◌, ◌∙◌, refl, sym}
use Rattle.t3_run.specs.declared.refusal.RunRefusal.TheVariants.{DepotFault, ConsoleFault, NoMemory}
use Rattle.t3_words.specs.Command.{options_value}
use Rattle.t3_cli.proofs.Followed.{run_follows, run_cut}
use Rattle.t3_cli.proofs.story.play.Goals as goal

pub returns-in-Ok-clause-follows : goal.returns-in-Ok-clause-follows
returns-in-Ok-clause-follows g c =
    run_follows c.args.program (options_value c.args.options) c.args.actions _ _ _ _ _ c.in-Ok.end c.closed.result c.in-Ok.ensures.run
    c.closed.ensures.closed

pub returns-in-Err-DepotFault-clause-follows : goal.returns-in-Err-DepotFault-clause-follows
returns-in-Err-DepotFault-clause-follows g c =
    run_cut c.args.program (options_value c.args.options) c.args.actions _ _ _ _ _ (λ is. refl) c.in-Err-DepotFault.ensures.run tt

pub returns-in-Err-ConsoleFault-clause-follows : goal.returns-in-Err-ConsoleFault-clause-follows
returns-in-Err-ConsoleFault-clause-follows g c =
    run_cut c.args.program (options_value c.args.options) c.args.actions _ _ _ _ _
    (λ is. let clash : ConsoleFault ≡ DepotFault = sym c.in-Err-ConsoleFault.field-0-is ∙ is in absurd cc) c.in-Err-ConsoleFault.ensures.run tt

pub returns-in-Err-NoMemory-clause-follows : goal.returns-in-Err-NoMemory-clause-follows
returns-in-Err-NoMemory-clause-follows g c =
    run_cut c.args.program (options_value c.args.options) c.args.actions _ _ _ _ _
    (λ is. let clash : NoMemory ≡ DepotFault = sym c.in-Err-NoMemory.field-0-is ∙ is in absurd cc) c.in-Err-NoMemory.ensures.run tt
