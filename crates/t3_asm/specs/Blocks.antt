-- The blocks that lines say, with their counts and sizes those of the lines inside.
use Rattle.std.specs.Prelude.{ℕ, ◌%◌, Bool, true, false, ◌||◌, if◌then◌else◌, List, [], ◌∷◌, ◌++◌, replicate, slice_get, Option, Some, None}
use Rattle.t3_blocks.specs.declared.block.Block.{Block}
use Rattle.t3_blocks.specs.declared.block.Block.TheVariants as blocks
use Rattle.t3_blocks.specs.declared.items.Meta.{Meta}
use Rattle.t3_blocks.specs.declared.items.PropEntry.{PropEntry}
use Rattle.t3_blocks.specs.declared.items.Static.{Static}
use Rattle.t3_blocks.specs.declared.items.Symbol.{Symbol}
use Rattle.t3_image_read.specs.declared.image.Head.{Head}
use Rattle.t3_image_read.specs.declared.image.PlacedBlock.{PlacedBlock}
use Rattle.t3_image_read.specs.ImageText.{ImageValue}
use Rattle.t3_asm_line.specs.declared.argument.Argument.{Argument}
use Rattle.t3_asm_line.specs.declared.field.Field.TheVariants.{Value}
use Rattle.t3_asm_line.specs.declared.keyword.Keyword.{Keyword}
use Rattle.t3_asm_line.specs.declared.keyword.Keyword.TheVariants as of
use Rattle.t3_asm.specs.declared.item.Item.{Item}
use Rattle.t3_asm.specs.declared.level.Level.{Level}
use Rattle.t3_asm.specs.declared.level.Level.TheVariants.{Image, InBlock, InEntry}
use Rattle.t3_asm.specs.declared.stage.Stage.{Stage}
use Rattle.t3_asm.specs.declared.stage.Stage.TheVariants.{EntryHead, PoolHead, PageHead, ObjectsHead, Metaclasses, FunctionSets, Symbols}
use Rattle.t3_asm.specs.Arguments.{number_at, short_at, text_at, extra_bytes, resized, block_name}
use Rattle.t3_asm.specs.Places.{Labels, newest}
use Rattle.t3_asm.specs.Stages.{stage_of_name}
use Rattle.t3_asm.specs.Values.{content_text, value_in}

-- the lines that begin something which further lines are inside of, and those that are in a list
abbrev pub is_block : Keyword → Bool
is_block of.Block = true
is_block keyword = false

abbrev pub ends_block : Keyword → Bool
ends_block of.Block = true
ends_block of.End = true
ends_block keyword = false

abbrev pub is_object : Keyword → Bool
is_object of.Object = true
is_object keyword = false

abbrev pub is_meta : Keyword → Bool
is_meta of.Metaclass = true
is_meta keyword = false

abbrev pub is_prop : Keyword → Bool
is_prop of.Prop = true
is_prop of.PropBytes = true
is_prop keyword = false

abbrev pub is_function_set : Keyword → Bool
is_function_set of.FunctionSet = true
is_function_set keyword = false

abbrev pub is_symbol : Keyword → Bool
is_symbol of.Symbol = true
is_symbol keyword = false

-- a line that ends what goes on in the image, in a block, or in an object or a metaclass, which the next one ends
abbrev pub ends : Level → Keyword → Bool
ends Image keyword = false
ends InBlock keyword = ends_block keyword
ends InEntry keyword = ends_block keyword || (is_object keyword || is_meta keyword)

-- what lines of a kind say, each with the lines behind it, up to a line that ends them
abbrev pub entries_of : {A : Type 0} → Level → (Keyword → Bool) → (Item → List Item → A) → List Item → List A
entries_of level begins entry [] = []
entries_of level begins entry (item ∷ items) =
    if ends level item.keyword then []
    else (if begins item.keyword then entry item items ∷ entries_of level begins entry items
    else entries_of level begins entry items)

-- the bytes that lines put, up to one that ends them
abbrev pub contents_of : Level → Labels → List Item → List ℕ
contents_of level labels [] = []
contents_of level labels (item ∷ items) =
    if ends level item.keyword then [] else content_text labels item ++ contents_of level labels items

abbrev pub static_of : Labels → Item → List Item → Static
static_of labels item behind =
    record { number = number_at item.arguments 0; bytes = contents_of InEntry labels behind }

abbrev pub statics_of : Labels → List Item → List Static
statics_of labels items = entries_of InBlock is_object (static_of labels) items

abbrev pub prop_of : Item → List Item → PropEntry
prop_of item behind =
    record { number = short_at item.arguments 0; extra = extra_bytes item.keyword item.arguments }

abbrev pub props_of : List Item → List PropEntry
props_of items = entries_of InEntry is_prop prop_of items

abbrev pub meta_of : Item → List Item → Meta
meta_of item behind = record {
  name = text_at item.arguments 0;
  property_size = short_at item.arguments 1;
  props = props_of behind;
  tail = text_at item.arguments 2;
}

abbrev pub metas_of : List Item → List Meta
metas_of items = entries_of InBlock is_meta meta_of items

abbrev pub set_of : Item → List Item → List ℕ
set_of item behind = text_at item.arguments 0

abbrev pub names_of : List Item → List (List ℕ)
names_of items = entries_of InBlock is_function_set set_of items

-- the number that a label or a number says in a field of four bytes
abbrev pub long_at : Labels → List Argument → ℕ → ℕ
long_at labels arguments at = value_in labels None 0 Value (slice_get arguments at) % 4294967296

abbrev pub symbol_of : Labels → Item → List Item → Symbol
symbol_of labels item behind = record {
  raw = record { tag = number_at item.arguments 0 % 256; bits = long_at labels item.arguments 1 };
  name = text_at item.arguments 2;
}

abbrev pub symbols_of : Labels → List Item → List Symbol
symbols_of labels items = entries_of InBlock is_symbol (symbol_of labels) items

-- the arguments of the line that a block's kind begins with
abbrev pub arguments_in : Option Item → List Argument
arguments_in None = []
arguments_in (Some item) = item.arguments

abbrev pub head_arguments : List Item → List Argument
head_arguments behind = arguments_in (slice_get behind 0)

abbrev pub entry_block : Labels → List Argument → Block
entry_block labels head =
    blocks.Entry (long_at labels head 0) (short_at head 1) (short_at head 2)
    (short_at head 3 ∷ short_at head 4 ∷ short_at head 5 ∷ short_at head 6 ∷ []) (text_at head 7)

-- a block of this name, with the lines behind its first
abbrev pub block_by : Labels → List ℕ → List Item → Stage → Block
block_by labels name behind EntryHead = entry_block labels (head_arguments behind)
block_by labels name behind PoolHead =
    let head = head_arguments behind in blocks.PoolDef (short_at head 0) (number_at head 1) (number_at head 2)
block_by labels name behind PageHead =
    let head = head_arguments behind in
    blocks.Page (short_at head 0) (number_at head 1) (number_at head 2 % 256) (contents_of InBlock labels behind)
block_by labels name behind ObjectsHead =
    let head = head_arguments behind in blocks.Objects (short_at head 0) (short_at head 1) (statics_of labels behind)
block_by labels name behind Metaclasses = blocks.Metas (metas_of behind)
block_by labels name behind FunctionSets = blocks.Functions (names_of behind)
block_by labels name behind Symbols = blocks.Symbols (symbols_of labels behind)
block_by labels name behind stage = blocks.Opaque name (contents_of InBlock labels behind)

-- the block that a `block` line begins
unfoldable pub block_of : Labels → Item → List Item → Block
block_of labels item behind =
    block_by labels (block_name item.arguments) behind (stage_of_name (block_name item.arguments))

abbrev pub placed_of : Labels → Item → List Item → PlacedBlock
placed_of labels item behind = record { flags = short_at item.arguments 1; block = block_of labels item behind }

unfoldable pub blocks_of : Labels → List Item → List PlacedBlock
blocks_of labels items = entries_of Image is_block (placed_of labels) items

-- the header that an `image` line says, or the one without more: no reserved byte is other than 0, and the timestamp is spaces
abbrev pub head_by : Keyword → List Argument → Head
head_by of.ImageHead arguments =
    record { reserved = resized 32 0 (text_at arguments 0); stamp = resized 24 32 (text_at arguments 1) }
head_by keyword arguments = record { reserved = replicate 32 0; stamp = replicate 24 32 }

abbrev pub head_in : Option Item → Head
head_in None = head_by of.Image []
head_in (Some item) = head_by item.keyword item.arguments

-- the image that lines say: the first is its header, the last its end
unfoldable pub image_of : Labels → List Item → ImageValue
image_of labels items = record {
  head = head_in (slice_get items 0);
  blocks = blocks_of labels items;
  eof_flags = short_at (arguments_in (newest items)) 0;
}
