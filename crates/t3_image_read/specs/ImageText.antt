-- The text of an image, from its parts to its bytes (the chapter on the image format).
use Rattle.std.specs.Prelude.{ℕ, List, [], ◌∷◌, ◌++◌, codes, length}
use Rattle.std.specs.List.{flat_map}
use Rattle.t3_holder.specs.NumberText.{little_endian}
use Rattle.t3_blocks.specs.BlockName.{end_name}
use Rattle.t3_blocks.specs.Spelling.{name_of, payload_of}
use Rattle.t3_image_read.specs.declared.header.BlockHeader.{BlockHeader}
use Rattle.t3_image_read.specs.declared.image.Head.{Head}
use Rattle.t3_image_read.specs.declared.image.PlacedBlock.{PlacedBlock}

-- what an image says
pub record ImageValue : Type 0 where
  pub head : Head
  pub blocks : List PlacedBlock
  -- the flags of the block that ends it
  pub eof_flags : ℕ

-- the 11 bytes with which an image begins
unfoldable pub signature : List ℕ
signature = codes "T3-image" ++ 13 ∷ 10 ∷ 26 ∷ []

-- the one version that there is
abbrev pub version : ℕ
version = 1

-- the 69 bytes of the header
unfoldable pub head_text : Head → List ℕ
head_text head = signature ++ little_endian 2 version ++ head.reserved ++ head.stamp

-- the 10 bytes before a payload
unfoldable pub header_text : BlockHeader → List ℕ
header_text header = header.name ++ little_endian 4 header.size ++ little_endian 2 header.flags

abbrev pub header_of : PlacedBlock → BlockHeader
header_of placed = record {
  name = name_of placed.block;
  size = length (payload_of placed.block);
  flags = placed.flags;
}

-- a block is its header and its payload
unfoldable pub block_text : PlacedBlock → List ℕ
block_text placed = header_text (header_of placed) ++ payload_of placed.block

-- the header and some blocks, one after the other
unfoldable pub prefix_text : Head → List PlacedBlock → List ℕ
prefix_text head blocks = head_text head ++ flat_map block_text blocks

-- the end is a block header without a payload
abbrev pub end_header : ℕ → BlockHeader
end_header flags = record { name = end_name; size = 0; flags = flags }

unfoldable pub text : ImageValue → List ℕ
text image = prefix_text image.head image.blocks ++ header_text (end_header image.eof_flags)
