-- A listing has hardly more lines than its image has bytes.
use Rattle.std.proofs.Common.{◌≡◌, ℕ, zero, suc, ◌+◌, ◌-◌, ◌^◌, ◌<◌, ◌≤◌, List, [], ◌∷◌, ◌++◌, length, map, drop, Option, Some, Result, Ok, ap, arith}
use Rattle.std.specs.List.{flat_map}
use Rattle.std.proofs.lemmas.List.{length-append, length-map}
use Rattle.t3_holder.specs.NumberText.{little_endian}
use Rattle.t3_holder.proofs.Numbers.{length-little_endian}
use Rattle.t3_blocks.specs.declared.block.Block.{Block}
use Rattle.t3_blocks.specs.declared.block.Block.TheVariants as blocks
use Rattle.t3_blocks.specs.declared.items.Meta.{Meta}
use Rattle.t3_blocks.specs.declared.items.PropEntry.{PropEntry}
use Rattle.t3_blocks.specs.declared.items.Static.{Static}
use Rattle.t3_blocks.specs.Spelling.{name_text, prop_text, meta_text, static_text, symbol_text, payload_of, size_width}
use Rattle.t3_blocks.proofs.Sizes.{length_static_text, length_prop_text, length_meta_text, length-meta_body, length_symbol_text, length_page, length_functions, length_metas, length_symbols, length_objects}
use Rattle.t3_image_read.specs.declared.image.PlacedBlock.{PlacedBlock}
use Rattle.t3_image_read.specs.ImageText.{ImageValue, header_text, header_of, block_text}
use Rattle.t3_image_read.specs.Validity.{IsValid}
use Rattle.t3_asm_line.specs.declared.line.ParsedLine.{ParsedLine}
use Rattle.t3_asm_line.specs.declared.refusal.LineRefusal.{LineRefusal}
use Rattle.t3_asm_line.specs.Line.{line_of}
use Rattle.t3_asm_line.specs.Lines.{lines_of}
use Rattle.t3_asm.specs.Listing.{piece_size, first_pieces, pieces, bytes_line, bytes_lines, static_lines, prop_lines, meta_lines, name_lines, symbol_lines, lines_in, block_lines, listed_lines, listing, end_line}
use Rattle.t3_asm.proofs.Valid.{length-text}

-- no more lines than bytes for each, and so for all
all_few : {A : Type 0} (lines : A → List ParsedLine) (text : A → List ℕ) → ((x : A) → length (lines x) ≤ length (text x)) → (xs : List A)
    → length (flat_map lines xs) ≤ length (flat_map text xs)
all_few lines text each [] = omega arith
all_few lines text each (x ∷ xs) =
    omega (
      arith,
      each x,
      all_few lines text each xs,
      length-append (lines x) (flat_map lines xs),
      length-append (text x) (flat_map text xs),
    )

pieces_few : (count : ℕ) (bytes : List ℕ) → length (map bytes_line (first_pieces count bytes)) ≤ count
pieces_few zero bytes = omega arith
pieces_few (suc count) [] = omega arith
pieces_few (suc count) (byte ∷ bytes) = omega (arith, pieces_few count (drop piece_size (byte ∷ bytes)))

bytes_few : (bytes : List ℕ) → length (bytes_lines bytes) ≤ length bytes
unfolding bytes_lines pieces
bytes_few bytes = pieces_few (length bytes) bytes

static_few : (width : ℕ) (object : Static) → length (static_lines object) ≤ length (static_text width object)
static_few width object = omega (arith, bytes_few object.bytes, length_static_text width object)

prop_few : (size : ℕ) (entry : PropEntry) → length (prop_lines size entry) ≤ length (prop_text entry)
prop_few size entry = omega (arith, length_prop_text entry)

meta_few : (meta : Meta) → length (meta_lines meta) ≤ length (meta_text meta)
meta_few meta =
    omega (
      arith,
      all_few (prop_lines meta.property_size) prop_text (prop_few meta.property_size) meta.props,
      length_meta_text meta,
      length-meta_body meta,
    )

lines_few : (block : Block) → length (lines_in block) ≤ 1 + length (payload_of block)
unfolding payload_of
lines_few (blocks.Entry code m e debug tail) = omega arith
lines_few (blocks.Objects metaclass flags objects) =
    omega (
      arith,
      all_few static_lines (static_text (size_width flags)) (static_few (size_width flags)) objects,
      length_objects metaclass flags objects,
    )
lines_few (blocks.PoolDef pool count size) = omega arith
lines_few (blocks.Page pool index mask bytes) = omega (arith, bytes_few bytes, length_page pool index mask bytes)
lines_few (blocks.Metas metas) = omega (arith, all_few meta_lines meta_text meta_few metas, length_metas metas)
lines_few (blocks.Functions names) =
    omega (arith, all_few name_lines name_text (λ name. omega arith) names, length_functions names)
lines_few (blocks.Symbols symbols) =
    omega (
      arith,
      all_few symbol_lines symbol_text (λ symbol. omega (arith, length_symbol_text symbol)) symbols,
      length_symbols symbols,
    )
lines_few (blocks.Opaque name bytes) = omega (arith, bytes_few bytes)

block_few : (placed : PlacedBlock) → length (block_lines placed) ≤ length (block_text placed)
unfolding block_text header_text
block_few placed =
    let header = header_of placed in
    omega (
      arith,
      lines_few placed.block,
      length-append (header_text header) (payload_of placed.block),
      length-append (header.name ++ little_endian 4 header.size) (little_endian 2 header.flags),
      length-little_endian 2 header.flags,
    )

listed_few : (image : ImageValue) → IsValid image → length (listed_lines image) < 2 ^ 32 - 1
unfolding listed_lines
listed_few image valid =
    omega (
      arith,
      valid.size,
      length-text image.head image.blocks image.eof_flags valid.head,
      all_few block_lines block_text block_few image.blocks,
      length-append (flat_map block_lines image.blocks) (end_line image.eof_flags ∷ []),
    )

-- as many lines as can be counted
pub listing_few : (image : ImageValue) → IsValid image
    → map line_of (lines_of (listing image)) ≡ map (λ line. Ok (Some line)) (listed_lines image)
    → length (lines_of (listing image)) < 2 ^ 32 - 1
listing_few image valid read =
    omega (
      arith,
      listed_few image valid,
      length-map (lines_of (listing image)) line_of,
      length-map {B = Result (Option ParsedLine) LineRefusal} (listed_lines image) (λ line. Ok (Some line)),
      ap length read,
    )
