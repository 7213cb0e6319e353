use Rattle.std.proofs.Common.{◌≡◌, ℕ, ◌-◌, ◌^◌, ◌<◌, List, length, Result, Ok, Err, sym, subst}
use Rattle.std.specs.Prelude.{IfOk}
use Rattle.std.specs.Global.{Vec}
use Rattle.t3_image_read.specs.ImageText.{ImageValue}
use Rattle.t3_image_read.specs.Validity.{IsValid}
use Rattle.t3_asm_line.specs.Lines.{lines_of}
use Rattle.t3_asm.specs.HasBytes.{HasBytes}
use Rattle.t3_asm.specs.Listing.{listing}
use Rattle.t3_asm.specs.Source.{Satisfies}
use Rattle.t3_asm.proofs.listing.list.Goals as goal

-- what holds of the text of each listing holds of what was spelled
of_listing : {E : Type 0} (Holds : List ℕ → Type 0) (result : Result (Vec ℕ) E) (image : ImageValue)
    → (IsValid image → HasBytes image → Holds (listing image))
    → IfOk result (λ source. source.items ≡ listing image) → IfOk result (λ _. IsValid image) → IfOk result (λ _. HasBytes image)
    → IfOk result (λ source. Holds source.items)
of_listing Holds (Ok source) image law is valid bytes = subst Holds (sym is) (law valid bytes)
of_listing Holds (Err refusal) image law is valid bytes = tt

pub returns-clause-satisfied : goal.returns-clause-satisfied
returns-clause-satisfied c =
    let image = c.args.image.now in
    let spelled = c.spell.ensures in
    of_listing (λ text. Satisfies text image) c.spell.result image (c.listing_satisfies.ensures.satisfied image)
    spelled.listing spelled.valid spelled.bytes

pub returns-clause-few_lines : goal.returns-clause-few_lines
returns-clause-few_lines c =
    let image = c.args.image.now in
    let spelled = c.spell.ensures in
    of_listing (λ text. length (lines_of text) < 2 ^ 32 - 1) c.spell.result image (c.listing_satisfies.ensures.few_lines image)
    spelled.listing spelled.valid spelled.bytes
