-- At which place, and by which rule, a stream is refused.
use Rattle.std.specs.Prelude.{◌≡◌, ◌≢◌, ℕ, ◌+◌, ◌<◌, ◌≤◌, ◌⊎◌, List, ◌++◌, length, take, drop, slice_index, IsTrue}
use Rattle.t3_holder.specs.NumberText.{little_endian}
use Rattle.t3_blocks.specs.BlockName.{end_name, is_unknown_mandatory}
use Rattle.t3_blocks.specs.Spelling.{image_limit}
use Rattle.t3_blocks.specs.Malformed.{IsMalformed}
use Rattle.t3_image_read.specs.ImageText.{ImageValue, signature, version, header_text, prefix_text, text}
use Rattle.t3_image_read.specs.Validity.{IsHeader, IsGoodPrefix, IsValid, header_limit}
use Rattle.t3_image_read.specs.declared.header.BlockHeader.{BlockHeader}
use Rattle.t3_image_read.specs.declared.image.Head.{Head}
use Rattle.t3_image_read.specs.declared.image.PlacedBlock.{PlacedBlock}
use Rattle.t3_image_read.specs.declared.refusal.ReadWhy.{ReadWhy}
use Rattle.t3_image_read.specs.declared.refusal.ReadWhy.TheVariants.{Signature, Version, TooLong, TooMany, UnknownMandatory, Malformed, EofSize, Truncated}

-- the place of a rule in the order in which they are tried
abbrev pub rank_of : ReadWhy → ℕ
rank_of Signature = 1
rank_of Version = 2
rank_of TooMany = 3
rank_of EofSize = 4
rank_of TooLong = 5
rank_of UnknownMandatory = 6
rank_of (Malformed items) = 7
rank_of Truncated = 8

-- this rule is broken, and none before it
pub record IsFirstBroken (Breaks : ReadWhy → Type 0) (why : ReadWhy) : Type 0 where
  pub broken : Breaks why
  pub first : (earlier : ReadWhy) → rank_of earlier < rank_of why → ¬ Breaks earlier

-- one of the first 11 bytes that are there differs
abbrev pub DiffersFromSignature : List ℕ → Type 0
DiffersFromSignature stream =
    (i : ℕ) × (i < 11) × (i < length stream) × (slice_index stream i ≢ slice_index signature i)

-- both bytes of the version are there, and say another
abbrev pub HasOtherVersion : List ℕ → Type 0
HasOtherVersion stream = (13 ≤ length stream) × (take 2 (drop 11 stream) ≢ little_endian 2 version)

-- the header breaks a rule
abbrev pub HeadBreaks : List ℕ → ReadWhy → Type 0
HeadBreaks stream Signature = DiffersFromSignature stream
HeadBreaks stream Version = HasOtherVersion stream
HeadBreaks stream Truncated = length stream < 69
HeadBreaks stream _ = ⊥

-- where a header is refused by a rule: only the version has a place of its own
abbrev pub head_place : ReadWhy → ℕ
head_place Version = 11
head_place _ = 0

-- a whole block header stands here, with these bytes after it
pub record StartsWith (rest : List ℕ) (header : BlockHeader) (trailing : List ℕ) : Type 0 where
  pub fits : IsHeader header
  pub is : rest ≡ header_text header ++ trailing

-- a whole block header of this property stands here
abbrev pub StartsWithSome : List ℕ → (BlockHeader → Type 0) → Type 0
StartsWithSome rest P =
    (header : BlockHeader) × (trailing : List ℕ) × StartsWith rest header trailing × P header

-- after so many blocks, this is one more than there may be
abbrev pub IsOneTooMany : ℕ → Type 0
IsOneTooMany count = header_limit ≤ count

-- an end with a payload
abbrev pub IsLoadedEnd : BlockHeader → Type 0
IsLoadedEnd header = (header.name ≡ end_name) × (0 < header.size)

-- the block ends past the greatest image
abbrev pub EndsTooLate : ℕ → BlockHeader → Type 0
EndsTooLate place header = image_limit < place + 10 + header.size

-- no whole block header stands here, or not all of its payload
abbrev pub IsCut : List ℕ → Type 0
IsCut rest = (length rest < 10) ⊎
    ((header : BlockHeader) × (trailing : List ℕ) × StartsWith rest header trailing
    × (length trailing < header.size))

-- the payload is there whole, and no block has it under its name; so many of its items spell
pub record SpellsNothing (rest : List ℕ) (items : ℕ) : Type 0 where
  pub header : BlockHeader
  pub payload : List ℕ
  pub trailing : List ℕ
  pub starts : StartsWith rest header (payload ++ trailing)
  pub whole : length payload ≡ header.size
  pub malformed : IsMalformed header.name payload items

-- after so many blocks, at this place, the rest of the stream breaks a rule
abbrev pub BlockBreaks : ℕ → ℕ → List ℕ → ReadWhy → Type 0
BlockBreaks count place rest TooMany = StartsWithSome rest (λ header. IsOneTooMany count)
BlockBreaks count place rest EofSize = StartsWithSome rest (λ header. IsLoadedEnd header)
BlockBreaks count place rest TooLong = StartsWithSome rest (λ header. EndsTooLate place header)
BlockBreaks count place rest UnknownMandatory =
    StartsWithSome rest (λ header. IsTrue (is_unknown_mandatory header.name header.flags))
BlockBreaks count place rest (Malformed items) = SpellsNothing rest items
BlockBreaks count place rest Truncated = IsCut rest
BlockBreaks count place rest _ = ⊥

-- the header is refused
pub record RefusedInHead (stream : List ℕ) (place : ℕ) (why : ReadWhy) : Type 0 where
  pub first : IsFirstBroken (HeadBreaks stream) why
  pub place_is : place ≡ head_place why

-- a good header and whole good blocks end at the place, and what comes after is refused
pub record RefusedAtBlock (stream : List ℕ) (place : ℕ) (why : ReadWhy) : Type 0 where
  pub head : Head
  pub blocks : List PlacedBlock
  pub rest : List ℕ
  pub prefix : IsGoodPrefix head blocks
  pub stream_is : stream ≡ prefix_text head blocks ++ rest
  pub place_is : place ≡ length (prefix_text head blocks)
  pub first : IsFirstBroken (BlockBreaks (length blocks) place rest) why

abbrev pub Refused : List ℕ → ℕ → ReadWhy → Type 0
Refused stream place why = RefusedInHead stream place why ⊎ RefusedAtBlock stream place why

abbrev pub IsRefused : List ℕ → Type 0
IsRefused stream = (place : ℕ) × (why : ReadWhy) × Refused stream place why

-- a valid image's text is a prefix of the stream
abbrev pub BeginsWithImage : List ℕ → Type 0
BeginsWithImage stream =
    (image : ImageValue) × (trailing : List ℕ) × IsValid image × (stream ≡ text image ++ trailing)
