use Rattle.std.proofs.Common.{ℕ, List, refl, subst}
use Rattle.t3_words.specs.Command.{Rewrite}
use Rattle.t3_words.specs.Input.{ImageFile}
use Rattle.t3_cli.specs.Plan.{written_text}
use Rattle.t3_cli.specs.Inner.Reading.{BeginsBy}
use Rattle.t3_cli.proofs.Followed.{put_by_image}
use Rattle.t3_cli.proofs.commands.write.rewrite.Goals as goal

pub returns-clause-carries : goal.returns-clause-carries
returns-clause-carries g c =
    let files = g.D.Depot.files c.args.depot.now in
    let read = c.in_ok-text.ensures.read in
    let begins = subst (λ (name : List ℕ). BeginsBy (ImageFile name) files read.0) c.as_bytes.ensures.value read.1 in
    let written = written_text c.args.mask read.0 in
    put_by_image (Rewrite c.args.image.now c.args.out.now c.args.mask) read.0 c.args.out.now written files _ _ _ _ c.put_and_show.result
    begins
    c.in_ok-text.ensures.files (λ input. refl) (c.put_and_show.ensures.follows written read.2)
