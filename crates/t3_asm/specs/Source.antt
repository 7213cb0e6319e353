-- What a source says: an image, or a line that breaks a rule.
use Rattle.std.specs.Prelude.{◌≡◌, ℕ, ◌+◌, ◌^◌, Bool, false, ◌||◌, ◌&&◌, nat_le, nat_lt, if◌then◌else◌, List, [], ◌∷◌, length, Option, Some, None, Result, Ok, Err}
use Rattle.t3_blocks.specs.declared.items.Meta.{Meta}
use Rattle.t3_blocks.specs.Spelling.{image_limit, meta_text, size_width}
use Rattle.t3_image_read.specs.ImageText.{ImageValue, block_text}
use Rattle.t3_image_read.specs.Validity.{header_limit}
use Rattle.t3_asm_line.specs.declared.keyword.Keyword.{Keyword}
use Rattle.t3_asm_line.specs.declared.keyword.Keyword.TheVariants as of
use Rattle.t3_asm.specs.declared.item.Item.{Item}
use Rattle.t3_asm.specs.declared.refusal.AsmRefusal.{AsmRefusal}
use Rattle.t3_asm.specs.declared.refusal.AsmWhy.{AsmWhy}
use Rattle.t3_asm.specs.declared.refusal.AsmWhy.TheVariants as whys
use Rattle.t3_asm.specs.declared.stage.Stage.{Stage}
use Rattle.t3_asm.specs.declared.stage.Stage.TheVariants.{Objects, Object, Metaclasses, FunctionSets, Symbols}
use Rattle.t3_asm.specs.declared.values.Rule.TheVariants.{Missing, Far, Wide}
use Rattle.t3_asm.specs.Arguments.{block_name}
use Rattle.t3_asm.specs.Blocks.{placed_of, statics_of, static_of, metas_of, meta_of, names_of, symbols_of, image_of, ends_block}
use Rattle.t3_asm.specs.Forms.{formed}
use Rattle.t3_asm.specs.Places.{Labels, labels_of}
use Rattle.t3_asm.specs.Refusals.{refusal}
use Rattle.t3_asm.specs.Stages.{stage_of_name}
use Rattle.t3_asm.specs.Values.{line_breaks}

-- more than a field of two bytes counts
abbrev pub is_many : ℕ → Bool
is_many count = nat_lt 65535 count

-- a block has more entries than its count says
abbrev pub is_crowded_block : Labels → List Item → Stage → Bool
is_crowded_block labels behind Metaclasses = is_many (length (metas_of behind))
is_crowded_block labels behind FunctionSets = is_many (length (names_of behind))
is_crowded_block labels behind Symbols = is_many (length (symbols_of labels behind))
is_crowded_block labels behind stage = false

-- a metaclass has more properties, or more bytes, than its entry says
abbrev pub is_crowded_meta : Meta → Bool
is_crowded_meta meta = is_many (length meta.props) || is_many (length (meta_text meta))

-- the flags of the block of objects in which a line stands
abbrev pub flags_in : Stage → ℕ
flags_in (Objects flags) = flags
flags_in (Object flags) = flags
flags_in stage = 0

-- what a line begins has more entries, or more bytes, than the image has a number for
abbrev pub is_crowded : Labels → Item → List Item → Keyword → Bool
is_crowded labels item behind of.Block = is_crowded_block labels behind (stage_of_name (block_name item.arguments))
is_crowded labels item behind of.Objects = is_many (length (statics_of labels behind))
is_crowded labels item behind of.Object =
    nat_le (256 ^ size_width (flags_in item.place.stage)) (length (static_of labels item behind).bytes)
is_crowded labels item behind of.Metaclass = is_crowded_meta (meta_of item behind)
is_crowded labels item behind keyword = false

-- how many bytes the image has of the block that a line begins; the end is a block's header
abbrev pub block_size : Labels → Item → List Item → Keyword → ℕ
block_size labels item behind of.Block = length (block_text (placed_of labels item behind))
block_size labels item behind of.End = 10
block_size labels item behind keyword = 0

-- how many block headers a line puts
abbrev pub header_count : Keyword → ℕ
header_count keyword = if ends_block keyword then 1 else 0

-- the image's limits are passed by the block that a line begins at this place, behind so many others
abbrev pub passes_limits : ℕ → ℕ → Bool
passes_limits size count = nat_lt image_limit size || nat_lt header_limit count

-- the first rule of values that a line breaks; the image has so many bytes and headers with what it begins
abbrev pub value_why : Labels → Item → List Item → ℕ → ℕ → Option AsmWhy
value_why labels item behind size count =
    if line_breaks Missing labels item then Some whys.LabelMissing
    else (if line_breaks Far labels item then Some whys.Jump
    else (if line_breaks Wide labels item || is_crowded labels item behind item.keyword then Some whys.Range
    else (if ends_block item.keyword && passes_limits size count then Some whys.TooLong else None)))

-- a line's refusal, or the next one's
abbrev pub or_next : ℕ → Option AsmWhy → Option AsmRefusal → Option AsmRefusal
or_next line None next = next
or_next line (Some why) next = Some (refusal line why)

-- the first of some lines that breaks a rule of values, where the image has so many bytes and headers before them
abbrev pub refused_from : Labels → ℕ → ℕ → List Item → Option AsmRefusal
refused_from labels size count [] = None
refused_from labels size count (item ∷ items) =
    let with_block = size + block_size labels item items item.keyword in
    let with_header = count + header_count item.keyword in
    or_next item.line (value_why labels item items with_block with_header)
    (refused_from labels with_block with_header items)

-- how many bytes the header has
abbrev pub head_size : ℕ
head_size = 69

abbrev pub first_refused : List Item → Option AsmRefusal
first_refused items = refused_from (labels_of items) head_size 0 items

abbrev pub or_image : List Item → Option AsmRefusal → Result ImageValue AsmRefusal
or_image items None = Ok (image_of (labels_of items) items)
or_image items (Some refused) = Err refused

abbrev pub valued : Result (List Item) AsmRefusal → Result ImageValue AsmRefusal
valued (Ok items) = or_image items (first_refused items)
valued (Err refused) = Err refused

-- the image that a source says, or the first line that breaks a rule of form, or else of values, with the first rule that it breaks
unfoldable pub source : List ℕ → Result ImageValue AsmRefusal
source text = valued (formed text)

-- a source says an image, or is refused at a line; it does exactly one of the two
abbrev pub Satisfies : List ℕ → ImageValue → Type 0
Satisfies text image = source text ≡ Ok image

abbrev pub IsBadLine : List ℕ → ℕ → AsmWhy → Type 0
IsBadLine text line why = source text ≡ Err (refusal line why)
