use Rattle.std.proofs.Common.{◌≢◌, Ok, Err, Result, List, ℕ, subst}
use Rattle.t3_load.specs.declared.refusal.LoadRefusal.{LoadRefusal}
use Rattle.t3_load.specs.declared.refusal.LoadRefusal.TheVariants.{NoMemory}
use Rattle.t3_load.specs.Loading.{ProgramValue, Loads}
use Rattle.t3_words.specs.Command.{options_value}
use Rattle.t3_cli.specs.Outcome.{run_limits}
use Rattle.t3_cli.proofs.Followed.{image_follows, unloaded_follows}
use Rattle.t3_cli.proofs.story.launch.Goals as goal

pub returns-in-Ok-clause-follows : goal.returns-in-Ok-clause-follows
returns-in-Ok-clause-follows g c =
    let known : ◌≢◌ {A = Result ProgramValue LoadRefusal} (Ok c.in-Ok.program) (Err NoMemory) = λ same. absurd cc in
    let loads = subst (λ (f : List ℕ). Loads c.args.digested.image.blocks f (run_limits (options_value c.args.options))
    (Ok c.in-Ok.program)) c.requires.fingerprint c.in-Ok.ensures in
    image_follows c.args.digested.image c.in-Ok.program (options_value c.args.options) c.args.actions _ _ _ _ c.play.result (known, loads)
    c.play.ensures.follows

pub returns-in-Err-clause-follows : goal.returns-in-Err-clause-follows
returns-in-Err-clause-follows g c =
    unloaded_follows c.args.digested.image c.in-Err.why
    (options_value c.args.options) c.args.actions _ _ _ c.unloaded.result c.in-Err.ensures
    c.unloaded.ensures.wants c.unloaded.ensures.shown
