-- What a sink of pieces has of an image's file.
use Rattle.std.proofs.Common.{◌≡◌, List, ℕ, [], Option, Ok, sym, subst}
use Rattle.t3_io.specs.Files.{Files}
use Rattle.t3_image_read.specs.ImageText.{ImageValue, text}
use Rattle.t3_image_read.specs.Reader.{Reading, Taking, Ended, Failed, Finishes}
use Rattle.t3_words.specs.Input.{InputFile}
use Rattle.t3_cli.specs.Outcome.{fingerprint_of}
use Rattle.t3_cli.specs.Inner.Reading.{ReadsImage, IsImage, IsDigested, HoldsRead}

-- a fresh one, before anything was read
pub holds_none : {P : Type 0} (HasTaken : P → List ℕ → Type 0) (reading : Reading) (sink : P) → reading ≡ Taking [] → HasTaken sink []
    → HoldsRead HasTaken reading sink
holds_none HasTaken reading sink fresh holds = subst (λ r. HoldsRead HasTaken r sink) (sym fresh) holds

-- one that has all that was read of an image
pub holds_image : {P : Type 0} (HasTaken : P → List ℕ → Type 0) (reading : Reading) (sink : P) (image : ImageValue)
    → HoldsRead HasTaken reading sink → Finishes reading (Ok image) → HasTaken sink (text image)
holds_image HasTaken (Taking taken) sink image holds finishes = absurd (let clash = finishes.1 in cc)
holds_image HasTaken (Ended ended) sink image holds finishes =
    let same : ended ≡ image = let e = finishes in cc in
    subst (λ (i : ImageValue). HasTaken sink (text i)) same holds
holds_image HasTaken (Failed refusal) sink image holds finishes = absurd (let clash = finishes in cc)

-- an image that was read, with its fingerprint
pub digests_image : (from : InputFile) (files : Option Files) (image : ImageValue) (digest : List ℕ)
    → ReadsImage IsImage from files (Ok image)
    → digest ≡ fingerprint_of image → ReadsImage IsDigested from files (Ok (record { image = image; digest = digest }))
digests_image from files image digest reads same = (reads.0, reads.1, record { is = reads.2; digest = same })
