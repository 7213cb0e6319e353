-- The rules of form: the items of a source, or the first line that breaks a rule.
use Rattle.std.specs.Prelude.{ℕ, ◌+◌, ◌==◌, Bool, true, false, ◌&&◌, ◌||◌, not, if◌then◌else◌, List, [], ◌∷◌, ◌++◌, length, Option, Some, None, is_some, Result, Ok, Err}
use Rattle.std.specs.List.{list_any}
use Rattle.std.specs.Str.{bytes_eq}
use Rattle.std.specs.FinMap.{get}
use Rattle.t3_blocks.specs.BlockName.{end_name, is_unknown_mandatory}
use Rattle.t3_asm_line.specs.declared.argument.Argument.{Argument}
use Rattle.t3_asm_line.specs.declared.keyword.Keyword.{Keyword}
use Rattle.t3_asm_line.specs.declared.keyword.Keyword.TheVariants as of
use Rattle.t3_asm_line.specs.declared.line.ParsedLine.{ParsedLine}
use Rattle.t3_asm_line.specs.declared.refusal.LineRefusal.{LineRefusal}
use Rattle.t3_asm_line.specs.Line.{line_of}
use Rattle.t3_asm_line.specs.Lines.{lines_of}
use Rattle.t3_asm.specs.declared.item.Item.{Item}
use Rattle.t3_asm.specs.declared.stage.Stage.{Stage}
use Rattle.t3_asm.specs.declared.stage.Stage.TheVariants.{Metaclass}
use Rattle.t3_asm.specs.declared.refusal.AsmRefusal.{AsmRefusal}
use Rattle.t3_asm.specs.declared.refusal.AsmWhy.{AsmWhy}
use Rattle.t3_asm.specs.declared.refusal.AsmWhy.TheVariants as whys
use Rattle.t3_asm.specs.Arguments.{short_at, text_at, extra_bytes, block_name, is_address, is_offset}
use Rattle.t3_asm.specs.Stages.{takes, is_page}
use Rattle.t3_asm.specs.Places.{labels_of, newest, item_behind}
use Rattle.t3_asm.specs.Refusals.{line_why, refusal}

-- the metaclass that the line stands in has properties of this size
abbrev pub has_size : ℕ → Keyword → List Argument → Bool
has_size size of.Prop arguments = size == 2 + length (extra_bytes of.Prop arguments)
has_size size of.PropBytes arguments = size == 2 + length (extra_bytes of.PropBytes arguments)
has_size size keyword arguments = true

-- a property with another number of bytes than its metaclass says
abbrev pub is_resized : Stage → Keyword → List Argument → Bool
is_resized (Metaclass size) keyword arguments = not (has_size size keyword arguments)
is_resized stage keyword arguments = false

abbrev pub is_label_line : Keyword → Bool
is_label_line of.Label = true
is_label_line keyword = false

-- a label that a line before puts
abbrev pub is_twice : List Item → Item → Bool
is_twice before item = is_label_line item.keyword && is_some (get (labels_of before) (text_at item.arguments 0))

-- in a page, a label and `@L` want the page's size
abbrev pub has_page_size : Item → Bool
has_page_size item =
    is_some item.place.size
    || not (is_page item.place.stage && (is_label_line item.keyword || list_any is_address item.arguments))

-- `~L` wants the address of a method
abbrev pub has_method : Item → Bool
has_method item = is_some item.place.method || not (list_any is_offset item.arguments)

-- a block isn't the end's, and where its flags say that it can't be skipped its name is known
abbrev pub is_good_block : List ℕ → ℕ → Bool
is_good_block name flags = not (bytes_eq end_name name || is_unknown_mandatory name flags)

abbrev pub has_good_name : Keyword → List Argument → Bool
has_good_name of.Block arguments = is_good_block (block_name arguments) (short_at arguments 1)
has_good_name keyword arguments = true

-- the line may stand where it stands
abbrev pub is_in_order : Item → Bool
is_in_order item =
    takes item.place.stage item.keyword
    && (has_page_size item && (has_method item && has_good_name item.keyword item.arguments))

-- the lines up to this one, or the first rule that it breaks of those that look at more than its words
unfoldable pub joined : List Item → Item → Result (List Item) AsmWhy
joined before item =
    if is_resized item.place.stage item.keyword item.arguments then Err whys.Range
    else (if is_twice before item then Err whys.LabelTwice
    else (if is_in_order item then Ok (before ++ item ∷ []) else Err whys.Order))

-- the lines up to one that says this
abbrev pub items_with : ℕ → List Item → Result (Option ParsedLine) LineRefusal → Result (List Item) AsmWhy
items_with line before (Ok None) = Ok before
items_with line before (Ok (Some parsed)) = joined before (item_behind line before parsed)
items_with line before (Err refused) = Err (line_why refused)

abbrev pub is_end_line : Keyword → Bool
is_end_line of.End = true
is_end_line keyword = false

abbrev pub is_ended : Option Item → Bool
is_ended None = false
is_ended (Some item) = is_end_line item.keyword

-- the last line is `end`
abbrev pub closed : ℕ → List Item → Result (List Item) AsmRefusal
closed line before = if is_ended (newest before) then Ok before else Err (refusal line whys.Order)

-- the refusal at this line, or what follows from the items so far
abbrev pub or_refused : ℕ → Result (List Item) AsmWhy → (List Item → Result (List Item) AsmRefusal) → Result (List Item) AsmRefusal
or_refused line (Ok items) follow = follow items
or_refused line (Err why) follow = Err (refusal line why)

-- the items of some lines, the first of which has this number, behind those of the lines before them
abbrev pub formed_from : ℕ → List Item → List (List ℕ) → Result (List Item) AsmRefusal
formed_from line before [] = closed line before
formed_from line before (text ∷ lines) =
    or_refused line (items_with line before (line_of text)) (λ items. formed_from (line + 1) items lines)

-- the items of a source, or the first line that breaks a rule of form with the first rule that it breaks
unfoldable pub formed : List ℕ → Result (List Item) AsmRefusal
formed text = formed_from 1 [] (lines_of text)
