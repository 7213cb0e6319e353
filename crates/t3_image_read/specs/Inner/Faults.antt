-- What is wrong with the header of an image, or of a block after so many others at a place, told without what follows.
use Rattle.std.specs.Prelude.{◌≡◌, ℕ, ◌⊎◌, false, IsTrue, List, Option, Some, None}
use Rattle.t3_blocks.specs.BlockName.{is_unknown_mandatory}
use Rattle.t3_blocks.specs.declared.refusal.PayloadRefusal.{PayloadRefusal}
use Rattle.t3_blocks.specs.declared.refusal.PayloadRefusal.TheVariants as payloads
use Rattle.t3_image_read.specs.declared.header.BlockHeader.{BlockHeader}
use Rattle.t3_image_read.specs.declared.header.HeadFault.{HeadFault}
use Rattle.t3_image_read.specs.declared.header.HeadFault.TheVariants as heads
use Rattle.t3_image_read.specs.declared.header.HeaderFault.{HeaderFault}
use Rattle.t3_image_read.specs.declared.header.HeaderFault.TheVariants as headers
use Rattle.t3_image_read.specs.declared.refusal.ReadRefusal.{ReadRefusal}
use Rattle.t3_image_read.specs.declared.refusal.ReadRefusal.TheVariants.{At, NoMemory}
use Rattle.t3_image_read.specs.declared.refusal.ReadWhy.{ReadWhy}
use Rattle.t3_image_read.specs.declared.refusal.ReadWhy.TheVariants.{Signature, Version, TooLong, TooMany, UnknownMandatory, Malformed, EofSize}
use Rattle.t3_image_read.specs.Refusal.{DiffersFromSignature, HasOtherVersion, IsOneTooMany, IsLoadedEnd, EndsTooLate}

-- the rule that a fault of the image's header breaks
abbrev pub head_why : HeadFault → ReadWhy
head_why heads.Signature = Signature
head_why heads.Version = Version

-- the rule that a fault of a block's header breaks
abbrev pub header_why : HeaderFault → ReadWhy
header_why headers.TooMany = TooMany
header_why headers.EofSize = EofSize
header_why headers.TooLong = TooLong
header_why headers.UnknownMandatory = UnknownMandatory

-- the refusal by the payload of a block that begins at a place
abbrev pub payload_refusal : ℕ → PayloadRefusal → ReadRefusal
payload_refusal place (payloads.Malformed items) = At place (Malformed items)
payload_refusal place payloads.NoMemory = NoMemory

-- nothing of the header is wrong so far
pub record IsGoodSoFar (bytes : List ℕ) : Type 0 where
  pub signature : ¬ DiffersFromSignature bytes
  pub version : ¬ HasOtherVersion bytes

abbrev pub HasHeadFault : List ℕ → Option HeadFault → Type 0
HasHeadFault bytes None = IsGoodSoFar bytes
HasHeadFault bytes (Some heads.Signature) = DiffersFromSignature bytes
HasHeadFault bytes (Some heads.Version) = ¬ DiffersFromSignature bytes × HasOtherVersion bytes

-- the block is one too many, an end with a payload, or ends past the greatest image
abbrev pub PassesLimit : ℕ → ℕ → BlockHeader → Type 0
PassesLimit count place header =
    IsOneTooMany count ⊎ (IsLoadedEnd header ⊎ EndsTooLate place header)

-- a header that breaks no rule
pub record IsAllowed (count place : ℕ) (header : BlockHeader) : Type 0 where
  pub within : ¬ PassesLimit count place header
  pub known : is_unknown_mandatory header.name header.flags ≡ false

abbrev pub HasHeaderFault : ℕ → ℕ → BlockHeader → Option HeaderFault → Type 0
HasHeaderFault count place header None = IsAllowed count place header
HasHeaderFault count place header (Some headers.TooMany) = IsOneTooMany count
HasHeaderFault count place header (Some headers.EofSize) = ¬ IsOneTooMany count × IsLoadedEnd header
HasHeaderFault count place header (Some headers.TooLong) =
    ¬ IsOneTooMany count × ¬ IsLoadedEnd header × EndsTooLate place header
HasHeaderFault count place header (Some headers.UnknownMandatory) =
    ¬ PassesLimit count place header × IsTrue (is_unknown_mandatory header.name header.flags)
