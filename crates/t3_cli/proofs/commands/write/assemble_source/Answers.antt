use Rattle.std.proofs.Common.{◌≡◌, ℕ, List, IfOk, refl, subst}
use Rattle.std.specs.Global.{Vec}
use Rattle.t3_image_read.specs.ImageText.{ImageValue, text}
use Rattle.t3_words.specs.Command.{Asm}
use Rattle.t3_words.specs.Input.{SourceFile}
use Rattle.t3_cli.specs.Inner.Reading.{BeginsBy}
use Rattle.t3_cli.proofs.Followed.{put_by_image}
use Rattle.t3_cli.proofs.commands.write.assemble_source.Goals as goal

pub returns-clause-carries : goal.returns-clause-carries
returns-clause-carries g c =
    let files = g.D.Depot.files c.args.depot.now in
    let read = c.in_ok-image.ensures.read in
    let begins = subst (λ (name : List ℕ). BeginsBy (SourceFile name) files read.0) c.as_bytes.ensures.value read.1 in
    let written = subst (λ (image : ImageValue). IfOk c.write_image-text.result
    (λ (b : Vec ℕ). b.items ≡ text image)) read.2 c.write_image-text.ensures in
    put_by_image (Asm c.args.source.now c.args.out.now) read.0 c.args.out.now (text read.0) files _ _ _ _ c.put_and_show.result begins
    c.in_ok-image.ensures.files (λ input. refl) (c.put_and_show.ensures.follows (text read.0) written)
