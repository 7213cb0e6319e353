-- Which images are valid, and what good blocks may stand one after the other.
use Rattle.std.specs.Prelude.{◌≡◌, ℕ, ◌^◌, ◌<◌, ◌≤◌, false, List, length}
use Rattle.std.specs.List.{AllByRecursion}
use Rattle.t3_blocks.specs.BlockName.{is_unknown_mandatory}
use Rattle.t3_blocks.specs.Spelling.{IsSpellable, name_of, payload_of, image_limit}
use Rattle.t3_image_read.specs.ImageText.{ImageValue, prefix_text, text}
use Rattle.t3_image_read.specs.declared.header.BlockHeader.{BlockHeader}
use Rattle.t3_image_read.specs.declared.image.Head.{Head}
use Rattle.t3_image_read.specs.declared.image.PlacedBlock.{PlacedBlock}

-- how many block headers an image has at most, that of the end among them
abbrev pub header_limit : ℕ
header_limit = 65536

-- the parts of the header have their lengths
pub record IsHead (head : Head) : Type 0 where
  pub reserved : length head.reserved ≡ 32
  pub stamp : length head.stamp ≡ 24

-- the parts of a block header fit their fields
pub record IsHeader (header : BlockHeader) : Type 0 where
  pub name : length header.name ≡ 4
  pub size : header.size < 2 ^ 32
  pub flags : header.flags < 2 ^ 16

-- a payload spells the block, the parts of its header fit their fields (for the size, the limit of the whole says more), and if it is mandatory its name means something
pub record IsGood (placed : PlacedBlock) : Type 0 where
  pub spellable : IsSpellable placed.block
  pub size : length (payload_of placed.block) < 2 ^ 32
  pub flags : placed.flags < 2 ^ 16
  pub known : is_unknown_mandatory (name_of placed.block) placed.flags ≡ false

-- a good header and whole good blocks, within the limits
pub record IsGoodPrefix (first : Head) (placed : List PlacedBlock) : Type 0 where
  pub head : IsHead first
  pub blocks : AllByRecursion IsGood placed
  pub count : length placed ≤ header_limit
  pub size : length (prefix_text first placed) ≤ image_limit

-- and for an image there is room for the end after them
pub record IsValid (image : ImageValue) : Type 0 where
  pub head : IsHead image.head
  pub blocks : AllByRecursion IsGood image.blocks
  pub eof_flags : image.eof_flags < 2 ^ 16
  pub count : length image.blocks < header_limit
  pub size : length (text image) ≤ image_limit
