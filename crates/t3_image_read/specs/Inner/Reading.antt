-- How a reader stands, by its state.
use Rattle.std.specs.Prelude.{◌≡◌, List, length}
use Rattle.t3_image_read.specs.declared.image.PlacedBlock.{PlacedBlock}
use Rattle.t3_image_read.specs.declared.reader.Complete.{Complete}
use Rattle.t3_image_read.specs.declared.reader.State.{State}
use Rattle.t3_image_read.specs.declared.reader.State.TheVariants as states
use Rattle.t3_image_read.specs.ImageText.{ImageValue, text}
use Rattle.t3_image_read.specs.Validity.{IsValid}
use Rattle.t3_image_read.specs.Reader.{Reading, Taking, Ended, Failed}
use Rattle.t3_image_read.specs.Inner.Steps.{stream_of, IsSound}

-- the image that a reader has come to the end of
abbrev pub complete_image : {S : Type 0} → Complete S → ImageValue
complete_image c = record { head = c.parts.head; blocks = c.blocks; eof_flags = c.parts.eof_flags }

-- the reader as its callers see it
abbrev pub reading_of : {S : Type 0} → State S → Reading
reading_of (states.Taking t sink) = Taking (stream_of t)
reading_of (states.Ended c) = Ended (complete_image c)
reading_of (states.Failed refusal) = Failed refusal

-- it is valid, its bytes are counted, and the sink has its blocks
pub record IsComplete {S : Type 0} (HasTaken : S → List PlacedBlock → Type 0) (c : Complete S)
    : Type 0 where
  pub valid : IsValid (complete_image c)
  pub size : c.size ≡ length (text (complete_image c))
  pub taken : HasTaken c.parts.sink c.blocks

-- nothing is wrong so far, and the sink has the blocks that were taken
abbrev pub IsSoundState : {S : Type 0} → (S → List PlacedBlock → Type 0) → State S → Type 0
IsSoundState HasTaken (states.Taking t sink) = IsSound t × HasTaken sink t.blocks
IsSoundState HasTaken (states.Ended c) = IsComplete HasTaken c
IsSoundState HasTaken (states.Failed refusal) = Unit {0}
