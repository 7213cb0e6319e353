-- What a reader answers, by the bytes that it has taken so far.
use Rattle.std.specs.Prelude.{◌≡◌, ◌≢◌, ℕ, ◌+◌, ◌≤◌, List, ◌++◌, length, take, Result, Ok, Err}
use Rattle.t3_image_read.specs.declared.reader.Fed.{Fed}
use Rattle.t3_image_read.specs.declared.reader.Fed.TheVariants.{More, Done}
use Rattle.t3_image_read.specs.declared.reader.ImageParts.{ImageParts}
use Rattle.t3_image_read.specs.declared.reader.Totals.{Totals}
use Rattle.t3_image_read.specs.declared.image.PlacedBlock.{PlacedBlock}
use Rattle.t3_image_read.specs.declared.refusal.ReadRefusal.{ReadRefusal}
use Rattle.t3_image_read.specs.declared.refusal.ReadRefusal.TheVariants.{At, NoMemory}
use Rattle.t3_image_read.specs.declared.refusal.ReadWhy.TheVariants.{Truncated}
use Rattle.t3_image_read.specs.ImageText.{ImageValue, text}
use Rattle.t3_image_read.specs.Validity.{IsValid}
use Rattle.t3_image_read.specs.Refusal.{Refused}

-- a reader is taking a stream of which it has these bytes, has the whole image, or has refused
pub data Reading : Type 0 where
  Taking : (taken : List ℕ) → Reading
  Ended : (image : ImageValue) → Reading
  Failed : (refusal : ReadRefusal) → Reading

-- the stream so far is refused, whatever comes after, and not for being cut; want of memory says nothing of it
abbrev pub RefusesBy : List ℕ → ReadRefusal → Type 0
RefusesBy stream (At place why) =
    (why ≢ Truncated) × ((more : List ℕ) → Refused (stream ++ more) place why)
RefusesBy stream NoMemory = Unit {0}

-- the stream so far is refused only for being cut
abbrev pub IsCutSoFar : List ℕ → Type 0
IsCutSoFar stream = (place : ℕ) × Refused stream place Truncated

-- the image ends after so many bytes of the piece
pub record EndsIn (before piece : List ℕ) (used : ℕ) (image : ImageValue) : Type 0 where
  pub valid : IsValid image
  pub within : used ≤ length piece
  pub is : text image ≡ before ++ take used piece

-- what feeding a piece answers, and how the reader stands then
abbrev pub TakesPiece : List ℕ → List ℕ → Result Fed ReadRefusal → Reading → Type 0
TakesPiece before piece (Ok More) after =
    (after ≡ Taking (before ++ piece)) × IsCutSoFar (before ++ piece)
TakesPiece before piece (Ok (Done used)) after =
    (image : ImageValue) × (after ≡ Ended image) × EndsIn before piece used image
TakesPiece before piece (Err refusal) after =
    (after ≡ Failed refusal) × RefusesBy (before ++ piece) refusal

-- after an image nothing is taken, and a refusal is answered again
abbrev pub Feeds : Reading → List ℕ → Result Fed ReadRefusal → Reading → Type 0
Feeds (Taking before) piece answer after = TakesPiece before piece answer after
Feeds (Ended image) piece answer after = (answer ≡ Ok (Done 0)) × (after ≡ Ended image)
Feeds (Failed refusal) piece answer after = (answer ≡ Err refusal) × (after ≡ Failed refusal)

-- what two pieces in a row answer as one, of which the first has so many bytes: the bytes that the image used of both are counted
abbrev pub joined_answer : ℕ → Result Fed ReadRefusal → Result Fed ReadRefusal
    → Result Fed ReadRefusal
joined_answer long (Ok More) (Ok (Done used)) = Ok (Done (long + used))
joined_answer long (Ok More) second = second
joined_answer long first second = first

-- the stream that ends here is refused for being cut
abbrev pub EndsTooEarly : {V : Type 0} → List ℕ → Result V ReadRefusal → Type 0
EndsTooEarly stream answer =
    (place : ℕ) × (answer ≡ Err (At place Truncated)) × Refused stream place Truncated

-- what is told of the image, or the refusal of the stream that ends here
abbrev pub FinishesAs : {V : Type 0} → (ImageValue → V) → Reading → Result V ReadRefusal → Type 0
FinishesAs told (Taking stream) answer = EndsTooEarly stream answer
FinishesAs told (Ended image) answer = answer ≡ Ok (told image)
FinishesAs told (Failed refusal) answer = answer ≡ Err refusal

-- the image, or that refusal
abbrev pub Finishes : Reading → Result ImageValue ReadRefusal → Type 0
Finishes reading answer = FinishesAs (λ image. image) reading answer

-- the parts are those of the image, whose blocks the sink has
pub record AreParts {S : Type 0} (HasTaken : S → List PlacedBlock → Type 0) (image : ImageValue)
    (parts : ImageParts S) : Type 0 where
  pub valid : IsValid image
  pub head : parts.head ≡ image.head
  pub taken : HasTaken parts.sink image.blocks
  pub eof_flags : parts.eof_flags ≡ image.eof_flags

-- the parts of the image, or the refusal of the stream that ends here
abbrev pub FinishesParts : {S : Type 0} → (S → List PlacedBlock → Type 0) → Reading
    → Result (ImageParts S) ReadRefusal → Type 0
FinishesParts {S} HasTaken (Taking stream) answer = EndsTooEarly stream answer
FinishesParts {S} HasTaken (Ended image) answer =
    (parts : ImageParts S) × (answer ≡ Ok parts) × AreParts HasTaken image parts
FinishesParts {S} HasTaken (Failed refusal) answer = answer ≡ Err refusal

-- how many blocks an image has, the one that ends it among them, and how many bytes
abbrev pub totals_of : ImageValue → Totals
totals_of image = record { blocks = length image.blocks + 1; bytes = length (text image) }
