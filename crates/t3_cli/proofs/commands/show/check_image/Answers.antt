use Rattle.std.proofs.Common.{◌≡◌, ℕ, List, IfOk, refl, subst}
use Rattle.std.specs.Prelude.{string_bytes}
use Rattle.t3_image_read.specs.declared.reader.Totals.{Totals}
use Rattle.t3_words.specs.Command.{Check}
use Rattle.t3_words.specs.Input.{ImageFile}
use Rattle.t3_cli.specs.BlockLines.{check_text, totals_text}
use Rattle.t3_cli.specs.Inner.Reading.{BeginsBy}
use Rattle.t3_cli.proofs.Followed.{shown_by_image}
use Rattle.t3_cli.proofs.commands.show.check_image.Goals as goal

pub returns-clause-carries : goal.returns-clause-carries
returns-clause-carries g c =
    let files = g.D.Depot.files c.args.depot.now in
    let read = c.in_ok-totals.ensures.read in
    let begins = subst (λ (name : List ℕ). BeginsBy (ImageFile name) files read.0) c.as_bytes.ensures.value read.1 in
    let line = subst (λ (totals : Totals). IfOk c.check_line.result
    (λ l. string_bytes l ≡ totals_text totals)) read.2 c.check_line.ensures in
    shown_by_image string_bytes (Check c.args.image.now) read.0 (check_text read.0) files (g.D.Depot.files c.count_image.new.depot) _ _
    c.check_line.result c.answer.result begins c.in_ok-totals.ensures.files (λ input. refl) line c.answer.ensures.shown
