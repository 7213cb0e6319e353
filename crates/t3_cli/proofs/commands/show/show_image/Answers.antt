use Rattle.std.proofs.Common.{◌≡◌, ℕ, List, IfOk, refl, subst}
use Rattle.std.specs.Prelude.{string_bytes}
use Rattle.t3_image_read.specs.ImageText.{ImageValue}
use Rattle.t3_words.specs.Command.{Show}
use Rattle.t3_words.specs.Input.{ImageFile}
use Rattle.t3_cli.specs.BlockLines.{show_text}
use Rattle.t3_cli.specs.Inner.Reading.{BeginsBy}
use Rattle.t3_cli.proofs.Followed.{shown_by_image}
use Rattle.t3_cli.proofs.commands.show.show_image.Goals as goal

pub returns-clause-carries : goal.returns-clause-carries
returns-clause-carries g c =
    let files = g.D.Depot.files c.args.depot.now in
    let read = c.in_ok-read.ensures.read in
    let begins = subst (λ (name : List ℕ). BeginsBy (ImageFile name) files read.0) c.as_bytes.ensures.value read.1 in
    let line = subst (λ (image : ImageValue). IfOk c.image_lines.result
    (λ l. string_bytes l ≡ show_text image)) read.2 c.image_lines.ensures in
    shown_by_image string_bytes (Show c.args.image.now) read.0 (show_text read.0) files (g.D.Depot.files c.read_image.new.depot) _ _
    c.image_lines.result c.answer.result begins c.in_ok-read.ensures.files (λ input. refl) line c.answer.ensures.shown
