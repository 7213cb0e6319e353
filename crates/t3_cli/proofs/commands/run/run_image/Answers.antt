use Rattle.std.proofs.Common.{ℕ, List, Option, None, refl, subst}
use Rattle.t3_io.specs.Files.{Files}
use Rattle.t3_image_read.specs.ImageText.{ImageValue}
use Rattle.t3_words.specs.Command.{Run, options_value}
use Rattle.t3_words.specs.Input.{ImageFile}
use Rattle.t3_cli.specs.Outcome.{IsRunOutcome}
use Rattle.t3_cli.specs.Inner.Reading.{BeginsBy}
use Rattle.t3_cli.specs.Inner.Following.{FollowsSome}
use Rattle.t3_cli.proofs.Followed.{run_by_image}
use Rattle.t3_cli.proofs.commands.run.run_image.Goals as goal

pub returns-clause-carries : goal.returns-clause-carries
returns-clause-carries g c =
    let files = g.D.Depot.files c.args.depot.now in
    let left = g.D.Depot.files c.launch.new.depot in
    let before = g.C.Console.session c.args.console.now in
    let after = g.C.Console.session c.launch.new.console in
    let options = options_value c.args.options in
    let read = c.in_ok-read.ensures.read in
    let begins = subst (λ (name : List ℕ). BeginsBy (ImageFile name) files read.0) c.as_bytes.ensures.value read.1 in
    let of_image = subst (λ (image : ImageValue). FollowsSome (IsRunOutcome options None image)
    (g.D.Depot.files c.read_digested.new.depot) left before after
    c.launch.result) read.2.is c.launch.ensures.follows in
    let follows = subst (λ (f : Option Files). FollowsSome (IsRunOutcome options None read.0) f left before after c.launch.result)
    c.in_ok-read.ensures.files of_image in
    run_by_image (Run c.args.image.now options) read.0 options None files left before after c.launch.result begins refl follows
