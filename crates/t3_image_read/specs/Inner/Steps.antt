-- How the fields of a reader stand for the stream that was taken, and what each step does to them.
use Rattle.std.specs.Prelude.{◌≡◌, ◌≢◌, ℕ, ◌+◌, ◌<◌, ◌≤◌, List, [], ◌∷◌, ◌++◌, length, take, Option, Some, None, Result, Ok, Err}
use Rattle.t3_blocks.specs.BlockName.{end_name, HasKind}
use Rattle.t3_blocks.specs.declared.block.Block.{Block}
use Rattle.t3_blocks.specs.declared.kind.BlockKind.{BlockKind}
use Rattle.t3_blocks.specs.declared.refusal.PayloadRefusal.{PayloadRefusal}
use Rattle.t3_image_read.specs.declared.header.BlockHeader.{BlockHeader}
use Rattle.t3_image_read.specs.declared.taker.Part.{Part}
use Rattle.t3_image_read.specs.declared.taker.Part.TheVariants.{InHead, InHeader, InPayload}
use Rattle.t3_image_read.specs.declared.taker.Taker.{Taker}
use Rattle.t3_image_read.specs.declared.taker.Parsed.{Parsed}
use Rattle.t3_image_read.specs.declared.taker.Parsed.TheVariants.{Nothing, Block as ABlock, End}
use Rattle.t3_image_read.specs.declared.image.PlacedBlock.{PlacedBlock}
use Rattle.t3_image_read.specs.ImageText.{ImageValue, header_text, prefix_text, text}
use Rattle.t3_image_read.specs.Validity.{IsHeader, IsGood, IsGoodPrefix, IsValid}
use Rattle.t3_image_read.specs.declared.refusal.ReadRefusal.{ReadRefusal}
use Rattle.t3_image_read.specs.Inner.Faults.{IsGoodSoFar, IsAllowed, payload_refusal}

-- how many bytes the part has
abbrev pub size_of : Part → ℕ
size_of InHead = 69
size_of InHeader = 10
size_of (InPayload header kind) = header.size

-- the stream before the part
abbrev pub text_before : Part → Taker → List ℕ
text_before InHead t = []
text_before InHeader t = prefix_text t.head t.blocks
text_before (InPayload header kind) t = prefix_text t.head t.blocks ++ header_text header

-- the stream that was taken
abbrev pub stream_of : Taker → List ℕ
stream_of t = text_before t.part t ++ t.held.items

-- a good prefix of the stream ends at the place
pub record AtBlock (t : Taker) : Type 0 where
  pub prefix : IsGoodPrefix t.head t.blocks
  pub place_is : t.place ≡ length (prefix_text t.head t.blocks)

-- a header that breaks no rule and isn't that of the end
pub record IsOpen (count place : ℕ) (header : BlockHeader) (kind : BlockKind) : Type 0 where
  pub fits : IsHeader header
  pub has_kind : HasKind header.name kind
  pub allowed : IsAllowed count place header
  pub not_end : header.name ≢ end_name

abbrev pub AtPart : Part → Taker → Type 0
AtPart InHead t = (t.blocks ≡ []) × (t.place ≡ 0)
AtPart InHeader t = AtBlock t
AtPart (InPayload header kind) t = AtBlock t × IsOpen (length t.blocks) t.place header kind

abbrev pub HoldsGood : Part → List ℕ → Type 0
HoldsGood InHead held = IsGoodSoFar held
HoldsGood InHeader held = Unit {0}
HoldsGood (InPayload header kind) held = Unit {0}

-- the part isn't whole, and nothing is wrong so far
pub record IsSound (t : Taker) : Type 0 where
  pub at : AtPart t.part t
  pub good : HoldsGood t.part t.held.items
  pub short : length t.held.items < size_of t.part

abbrev pub image_of : Taker → ℕ → ImageValue
image_of t flags = record { head = t.head; blocks = t.blocks; eof_flags = flags }

-- the next bytes of the part are held, at least one of them
pub record Holds (old new : Taker) (rest : List ℕ) (count : ℕ) : Type 0 where
  pub some : 0 < count
  pub there : count ≤ length rest
  pub held : new.held.items ≡ old.held.items ++ take count rest
  pub within : length new.held.items ≤ size_of old.part
  pub others : new ≡ record old { held = new.held }

-- the payload of this header comes next, nothing of it is held, and all of it is there
pub record BeginsWhole (t : Taker) (rest : List ℕ) (of : BlockHeader × BlockKind) : Type 0 where
  pub part : t.part ≡ InPayload of.0 of.1
  pub none : t.held.items ≡ []
  pub there : of.0.size ≤ length rest

-- the block of this header is the last one, and the next header comes after it
pub record HasBlock (old new : Taker) (header : BlockHeader) (block : Block) (placed : PlacedBlock)
    : Type 0 where
  pub is : placed ≡ record { flags = header.flags; block = block }
  pub blocks : new.blocks ≡ old.blocks ++ placed ∷ []
  pub others : new ≡ record old {
    blocks = new.blocks;
    part = InHeader;
    place = old.place + (10 + header.size);
  }

-- the block that the payload gave is counted, or its refusal is answered
abbrev pub CountsBlock : Taker → Taker → BlockHeader → Result Block PayloadRefusal
    → Result PlacedBlock ReadRefusal → Type 0
CountsBlock old new header (Ok block) (Ok placed) = HasBlock old new header block placed
CountsBlock old new header (Ok block) (Err refusal) = ⊥
CountsBlock old new header (Err why) (Ok placed) = ⊥
CountsBlock old new header (Err why) (Err refusal) = refusal ≡ payload_refusal old.place why

-- the blocks after a run of which this came
abbrev pub blocks_after : List PlacedBlock → Parsed → List PlacedBlock
blocks_after blocks Nothing = blocks
blocks_after blocks (ABlock placed) = blocks ++ placed ∷ []
blocks_after blocks (End flags) = blocks

-- the blocks that were counted are those before, and what came of the run
abbrev pub Tallies : Taker → Taker → Parsed → Type 0
Tallies old new parsed = new.blocks ≡ blocks_after old.blocks parsed

-- the image ends where the stream does
pub record ComesToEnd (t : Taker) (stream : List ℕ) (flags : ℕ) : Type 0 where
  pub valid : IsValid (image_of t flags)
  pub is : text (image_of t flags) ≡ stream
  pub size : t.place + 10 ≡ length stream

-- these bytes are taken, and the image goes on or has ended; a block that came of them is good
abbrev pub RunsTo : List ℕ → Taker → Parsed → Type 0
RunsTo stream new Nothing = IsSound new × (stream_of new ≡ stream)
RunsTo stream new (ABlock placed) = IsSound new × (stream_of new ≡ stream) × IsGood placed
RunsTo stream new (End flags) = ComesToEnd new stream flags

abbrev pub Advances : Taker → Taker → Parsed → Type 0
Advances old new parsed = RunsTo (stream_of old) new parsed

-- so many bytes of a run are taken, at least one
pub record TakesRun (old new : Taker) (rest : List ℕ) (run : ℕ × Parsed) : Type 0 where
  pub some : 0 < run.0
  pub there : run.0 ≤ length rest
  pub runs : RunsTo (stream_of old ++ take run.0 rest) new run.1

-- all of a piece is taken, or what the image used of it
abbrev pub TakesAll : Taker → Taker → List ℕ → Option (ℕ × ℕ) → Type 0
TakesAll old new piece None = IsSound new × (stream_of new ≡ stream_of old ++ piece)
TakesAll old new piece (Some end) =
    (end.0 ≤ length piece) × ComesToEnd new (stream_of old ++ take end.0 piece) end.1
