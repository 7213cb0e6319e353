-- What is shown of an image by `check` and by `show`.
use Rattle.std.specs.Prelude.{ℕ, ◌&&◌, nat_le, if◌then◌else◌, List, [], ◌∷◌, ◌++◌, codes, length, map}
use Rattle.std.specs.Fmt.{decimal}
use Rattle.t3_blocks.specs.BlockName.{end_name}
use Rattle.t3_blocks.specs.Spelling.{name_of, payload_of}
use Rattle.t3_blocks.specs.declared.block.Block.{Block}
use Rattle.t3_blocks.specs.declared.block.Block.TheVariants.{Entry, PoolDef, Page, Functions, Metas, Objects, Symbols, Opaque}
use Rattle.t3_image_read.specs.declared.image.Head.{Head}
use Rattle.t3_image_read.specs.declared.image.PlacedBlock.{PlacedBlock}
use Rattle.t3_image_read.specs.ImageText.{ImageValue, prefix_text}
use Rattle.t3_image_read.specs.Reader.{totals_of}
use Rattle.t3_image_read.specs.declared.reader.Totals.{Totals}
use Rattle.t3_run.specs.EndLines.{newline}
use Rattle.t3_cli.specs.Lines.{ok_line}

-- a byte of a name that isn't from 20 to 7E is shown as a question mark
abbrev pub shown_byte : ℕ → ℕ
shown_byte byte = if nat_le 0x20 byte && nat_le byte 0x7E then byte else 0x3F

-- a number after what it is
abbrev pub field : List ℕ → ℕ → List ℕ
field what number = codes " " ++ (what ++ (codes "=" ++ decimal number))

-- the name of a block, the place of its header, the size of its payload, and its flags
abbrev pub header_fields : List ℕ → ℕ → ℕ → ℕ → List ℕ
header_fields name place size flags =
    map shown_byte name ++ (field (codes "at") place ++ (field (codes "size") size ++ field (codes "flags") flags))

-- what is shown of a block of each kind besides
abbrev pub kind_fields : Block → List ℕ
kind_fields (Entry code method_size exception_size debug tail) = field (codes "code") code
kind_fields (PoolDef pool count size) = field (codes "pool") pool ++ (field (codes "count") count ++ field (codes "page") size)
kind_fields (Page pool index mask bytes) = field (codes "pool") pool ++ (field (codes "index") index ++ field (codes "mask") mask)
kind_fields (Functions names) = field (codes "entries") (length names)
kind_fields (Metas metas) = field (codes "entries") (length metas)
kind_fields (Objects metaclass flags objects) = field (codes "objects") (length objects) ++ field (codes "metaclass") metaclass
kind_fields (Symbols symbols) = field (codes "entries") (length symbols)
kind_fields (Opaque name bytes) = []

-- the line of a block whose header stands at a place
abbrev pub block_line : ℕ → PlacedBlock → List ℕ
block_line place placed =
    header_fields (name_of placed.block) place (length (payload_of placed.block)) placed.flags ++ (kind_fields placed.block ++ newline)

-- the lines of the blocks after some others; the header of each stands where the text of those before it ends
unfoldable pub block_lines : Head → List PlacedBlock → List PlacedBlock → List ℕ
block_lines head before [] = []
block_lines head before (placed ∷ rest) =
    block_line (length (prefix_text head before)) placed ++ block_lines head (before ++ placed ∷ []) rest

-- the line of the block that ends an image
abbrev pub end_line_at : ℕ → ℕ → List ℕ
end_line_at place flags = header_fields end_name place 0 flags ++ newline

-- the lines of an image's blocks and of its end
abbrev pub image_lines : ImageValue → List ℕ
image_lines image = block_lines image.head [] image.blocks ++ end_line_at (length (prefix_text image.head image.blocks)) image.eof_flags

-- what `check` shows: how many blocks and bytes an image has
abbrev pub totals_text : Totals → List ℕ
totals_text totals = ok_line totals.blocks totals.bytes

abbrev pub check_text : ImageValue → List ℕ
check_text image = totals_text (totals_of image)

-- what `show` shows: a line for each block, and then what `check` does
abbrev pub show_text : ImageValue → List ℕ
show_text image = image_lines image ++ check_text image
