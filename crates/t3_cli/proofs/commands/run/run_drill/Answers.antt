use Rattle.std.proofs.Common.{ℕ, Some, refl, subst}
use Rattle.t3_drill.specs.Drill.{drill_image, drill_actions}
use Rattle.t3_image_read.specs.ImageText.{ImageValue}
use Rattle.t3_words.specs.Command.{Drill, RunOptions, default_options, options_value}
use Rattle.t3_cli.specs.Outcome.{IsRunOutcome}
use Rattle.t3_cli.specs.Inner.Following.{FollowsSome}
use Rattle.t3_cli.proofs.Followed.{run_by_image}
use Rattle.t3_cli.proofs.commands.run.run_drill.Goals as goal

pub returns-clause-carries : goal.returns-clause-carries
returns-clause-carries g c =
    let files = g.D.Depot.files c.args.depot.now in
    let left = g.D.Depot.files c.launch.new.depot in
    let before = g.C.Console.session c.args.console.now in
    let after = g.C.Console.session c.launch.new.console in
    let image = drill_image c.args.number in
    let actions = drill_actions c.args.number in
    let of_image = subst (λ (i : ImageValue). FollowsSome (IsRunOutcome (options_value c.defaults.result)
    (Some c.drill_actions.result) i) files left before after
    c.launch.result) c.in_ok-made.ensures.is c.launch.ensures.follows in
    let by_actions = subst (λ (n : ℕ). FollowsSome (IsRunOutcome (options_value c.defaults.result)
    (Some n) image) files left before after c.launch.result)
    c.drill_actions.ensures of_image in
    let follows = subst (λ (options : RunOptions). FollowsSome (IsRunOutcome options
    (Some actions) image) files left before after c.launch.result)
    c.defaults.ensures.options by_actions in
    run_by_image (Drill c.args.number) image default_options (Some actions) files left before after c.launch.result
    refl refl follows
