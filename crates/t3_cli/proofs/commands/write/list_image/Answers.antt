use Rattle.std.proofs.Common.{◌≡◌, ℕ, List, IfOk, refl, subst}
use Rattle.std.specs.Global.{Vec}
use Rattle.t3_asm.specs.Listing.{listing}
use Rattle.t3_image_read.specs.ImageText.{ImageValue}
use Rattle.t3_words.specs.Command.{Listing}
use Rattle.t3_words.specs.Input.{ImageFile}
use Rattle.t3_cli.specs.Inner.Reading.{BeginsBy}
use Rattle.t3_cli.proofs.Followed.{put_by_image}
use Rattle.t3_cli.proofs.commands.write.list_image.Goals as goal

pub returns-clause-carries : goal.returns-clause-carries
returns-clause-carries g c =
    let files = g.D.Depot.files c.args.depot.now in
    let read = c.in_ok-read.ensures.read in
    let begins = subst (λ (name : List ℕ). BeginsBy (ImageFile name) files read.0) c.as_bytes.ensures.value read.1 in
    let listed = subst (λ (image : ImageValue). IfOk c.list-text.result
    (λ (b : Vec ℕ). b.items ≡ listing image)) read.2 c.list-text.ensures.listing in
    put_by_image (Listing c.args.image.now c.args.out.now) read.0 c.args.out.now (listing read.0) files _ _ _ _ c.put_and_show.result begins
    c.in_ok-read.ensures.files (λ input. refl) (c.put_and_show.ensures.follows (listing read.0) listed)
