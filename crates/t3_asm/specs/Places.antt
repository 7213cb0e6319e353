-- Where each line stands: in which stage, at which address, behind which method; and the labels and pools that lines say.
use Rattle.std.specs.Prelude.{ℕ, ◌+◌, ◌-◌, ◌*◌, List, [], ◌∷◌, ◌++◌, length, slice_get, Option, Some, None, unwrap_or}
use Rattle.std.specs.Option.{option_map}
use Rattle.std.specs.List.{flat_map}
use Rattle.std.specs.FinMap.{FinMap, from_entries, get}
use Rattle.std.specs.Ordering.{nat_cmp}
use Rattle.std.specs.Cmp.Lexicographic.{slice_cmp}
use Rattle.t3_asm_line.specs.declared.argument.Argument.{Argument}
use Rattle.t3_asm_line.specs.declared.keyword.Keyword.{Keyword}
use Rattle.t3_asm_line.specs.declared.keyword.Keyword.TheVariants as of
use Rattle.t3_asm_line.specs.declared.line.ParsedLine.{ParsedLine}
use Rattle.t3_asm.specs.declared.item.Item.{Item}
use Rattle.t3_asm.specs.declared.place.Place.{Place}
use Rattle.t3_asm.specs.declared.stage.Stage.TheVariants as stages
use Rattle.t3_asm.specs.Arguments.{number_at, short_at, text_at}
use Rattle.t3_asm.specs.Sizes.{content_size}
use Rattle.t3_asm.specs.Stages.{stage_behind}

-- the addresses of labels, and the page sizes of pools
abbrev pub Labels : Type 0
Labels = FinMap (slice_cmp nat_cmp) ℕ

abbrev pub PoolSizes : Type 0
PoolSizes = FinMap nat_cmp ℕ

abbrev pub label_in : Keyword → Item → List (List ℕ × ℕ)
label_in of.Label item = (text_at item.arguments 0, item.place.address) ∷ []
label_in keyword item = []

-- each label that a line puts, at the address where the line stands
unfoldable pub labels_of : List Item → Labels
labels_of items = from_entries (flat_map (λ item. label_in item.keyword item) items)

abbrev pub pool_in : Keyword → Item → List (ℕ × ℕ)
pool_in of.Pool item = (short_at item.arguments 0, number_at item.arguments 2) ∷ []
pool_in keyword item = []

-- each pool's page size, as the first line of that pool says it
unfoldable pub pool_sizes_of : List Item → PoolSizes
pool_sizes_of items = from_entries (flat_map (λ item. pool_in item.keyword item) items)

-- the place behind a line, or of the first line
abbrev pub place_behind : Option Item → Place
place_behind None = record { stage = stages.Image; size = None; address = 0; method = None }
place_behind (Some item) = record {
  stage = stage_behind item.place.stage item.keyword item.arguments;
  size = item.place.size;
  address = item.place.address + content_size item.keyword item.arguments;
  method = item.place.method;
}

-- a page of its pool's size begins at its index times that size
abbrev pub page_place : Place → Option ℕ → ℕ → Place
page_place place size index =
    record { stage = place.stage; size = size; address = index * unwrap_or size 0; method = place.method }

-- a method has an address where the page's size is known
abbrev pub method_place : Place → Place
method_place place = record {
  stage = place.stage;
  size = place.size;
  address = place.address;
  method = option_map (λ size. place.address) place.size;
}

-- the place of a line of this keyword, where the line before it leaves off here
abbrev pub place_of : Place → PoolSizes → Keyword → List Argument → Place
place_of place pools of.Page arguments = page_place place (get pools (short_at arguments 0)) (number_at arguments 1)
place_of place pools of.Method arguments = method_place place
place_of place pools of.MethodOptional arguments = method_place place
place_of place pools keyword arguments = place

-- the newest of some lines
abbrev pub newest : List Item → Option Item
newest items = slice_get items (length items - 1)

-- a line behind these, with its place
abbrev pub item_behind : ℕ → List Item → ParsedLine → Item
item_behind line before parsed = record {
  line = line;
  place = place_of (place_behind (newest before)) (pool_sizes_of before) parsed.keyword parsed.arguments;
  keyword = parsed.keyword;
  arguments = parsed.arguments;
}

-- the items of such lines in a row, the first of which has this number, behind others
abbrev pub items_behind : ℕ → List Item → List ParsedLine → List Item
items_behind number before [] = before
items_behind number before (line ∷ lines) =
    items_behind (number + 1) (before ++ item_behind number before line ∷ []) lines
