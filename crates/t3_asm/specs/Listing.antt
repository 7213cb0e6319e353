-- The listing of an image: its lines in the image's order, each spelled in one way.
use Rattle.std.specs.Prelude.{ℕ, zero, suc, ◌==◌, if◌then◌else◌, List, [], ◌∷◌, ◌++◌, length, map, take, drop}
use Rattle.std.specs.List.{flat_map}
use Rattle.t3_blocks.specs.declared.block.Block.{Block}
use Rattle.t3_blocks.specs.declared.block.Block.TheVariants as blocks
use Rattle.t3_blocks.specs.declared.items.Meta.{Meta}
use Rattle.t3_blocks.specs.declared.items.PropEntry.{PropEntry}
use Rattle.t3_blocks.specs.declared.items.Static.{Static}
use Rattle.t3_blocks.specs.declared.items.Symbol.{Symbol}
use Rattle.t3_blocks.specs.Spelling.{name_of}
use Rattle.t3_image_read.specs.declared.image.Head.{Head}
use Rattle.t3_image_read.specs.declared.image.PlacedBlock.{PlacedBlock}
use Rattle.t3_image_read.specs.ImageText.{ImageValue}
use Rattle.t3_asm_line.specs.declared.argument.Argument.TheVariants.{Number, Text}
use Rattle.t3_asm_line.specs.declared.keyword.Keyword.TheVariants as of
use Rattle.t3_asm_line.specs.declared.line.ParsedLine.{ParsedLine}
use Rattle.t3_asm_line.specs.Line.{parsed_line}
use Rattle.t3_asm_line.specs.Listing.{listing_of}

-- how many bytes a line of bytes has at most
abbrev pub piece_size : ℕ
piece_size = 32

-- the first so many pieces of some bytes
abbrev pub first_pieces : ℕ → List ℕ → List (List ℕ)
first_pieces zero bytes = []
first_pieces (suc count) [] = []
first_pieces (suc count) (byte ∷ bytes) =
    take piece_size (byte ∷ bytes) ∷ first_pieces count (drop piece_size (byte ∷ bytes))

-- pieces of 32 bytes, the last shorter, and none where there is no byte; there are at most as many as bytes
unfoldable pub pieces : List ℕ → List (List ℕ)
pieces bytes = first_pieces (length bytes) bytes

abbrev pub bytes_line : List ℕ → ParsedLine
bytes_line piece = parsed_line of.Bytes (Text piece ∷ [])

unfoldable pub bytes_lines : List ℕ → List ParsedLine
bytes_lines bytes = map bytes_line (pieces bytes)

abbrev pub head_line : Head → ParsedLine
head_line head = parsed_line of.ImageHead (Text head.reserved ∷ Text head.stamp ∷ [])

abbrev pub end_line : ℕ → ParsedLine
end_line flags = parsed_line of.End (Number flags ∷ [])

abbrev pub entry_line : ℕ → ℕ → ℕ → List ℕ → List ℕ → ParsedLine
entry_line code method_size exception_size debug tail =
    parsed_line of.Entry (Number code ∷ Number method_size ∷ Number exception_size ∷ map Number debug ++ Text tail ∷ [])

abbrev pub static_lines : Static → List ParsedLine
static_lines object = parsed_line of.Object (Number object.number ∷ []) ∷ bytes_lines object.bytes

-- a property that has its number alone says no more
abbrev pub prop_lines : ℕ → PropEntry → List ParsedLine
prop_lines size entry =
    (if size == 2 then parsed_line of.Prop (Number entry.number ∷ [])
    else parsed_line of.PropBytes (Number entry.number ∷ Text entry.extra ∷ [])) ∷ []

abbrev pub meta_lines : Meta → List ParsedLine
meta_lines meta =
    parsed_line of.Metaclass (Text meta.name ∷ Number meta.property_size ∷ Text meta.tail ∷ [])
    ∷ flat_map (prop_lines meta.property_size) meta.props

abbrev pub name_lines : List ℕ → List ParsedLine
name_lines name = parsed_line of.FunctionSet (Text name ∷ []) ∷ []

abbrev pub symbol_lines : Symbol → List ParsedLine
symbol_lines symbol =
    parsed_line of.Symbol (Number symbol.raw.tag ∷ Number symbol.raw.bits ∷ Text symbol.name ∷ []) ∷ []

-- what a block has
abbrev pub lines_in : Block → List ParsedLine
lines_in (blocks.Entry code method_size exception_size debug tail) = entry_line code method_size exception_size debug tail ∷ []
lines_in (blocks.Objects metaclass flags objects) =
    parsed_line of.Objects (Number metaclass ∷ Number flags ∷ []) ∷ flat_map static_lines objects
lines_in (blocks.PoolDef pool count size) = parsed_line of.Pool (Number pool ∷ Number count ∷ Number size ∷ []) ∷ []
lines_in (blocks.Page pool index mask bytes) =
    parsed_line of.Page (Number pool ∷ Number index ∷ Number mask ∷ []) ∷ bytes_lines bytes
lines_in (blocks.Metas metas) = flat_map meta_lines metas
lines_in (blocks.Functions names) = flat_map name_lines names
lines_in (blocks.Symbols symbols) = flat_map symbol_lines symbols
lines_in (blocks.Opaque name bytes) = bytes_lines bytes

abbrev pub block_lines : PlacedBlock → List ParsedLine
block_lines placed =
    parsed_line of.Block (Text (name_of placed.block) ∷ Number placed.flags ∷ []) ∷ lines_in placed.block

unfoldable pub listed_lines : ImageValue → List ParsedLine
listed_lines image = head_line image.head ∷ (flat_map block_lines image.blocks ++ end_line image.eof_flags ∷ [])

unfoldable pub listing : ImageValue → List ℕ
listing image = listing_of (listed_lines image)
