-- The lines of good blocks, within the image's limits, break no rule of values.
use Rattle.std.proofs.Common.{◌≡◌, ℕ, zero, ◌+◌, ◌^◌, ◌<◌, ◌≤◌, Bool, true, false, ◌||◌, leb, ltb, List, [], ◌∷◌, ◌++◌, length, refl, sym, ap, subst, ◌∙◌, arith}
use Rattle.std.specs.List.{AllByRecursion, flat_map}
use Rattle.std.proofs.lemmas.Bool.{lt-leb, le-ltb}
use Rattle.std.proofs.lemmas.List.{length-append}
use Rattle.t3_blocks.specs.declared.block.Block.{Block}
use Rattle.t3_blocks.specs.declared.block.Block.TheVariants as blocks
use Rattle.t3_blocks.specs.declared.items.Meta.{Meta}
use Rattle.t3_blocks.specs.declared.items.PropEntry.{PropEntry}
use Rattle.t3_blocks.specs.declared.items.Static.{Static}
use Rattle.t3_blocks.specs.declared.items.Symbol.{Symbol}
use Rattle.t3_blocks.specs.Spelling.{IsMeta, IsStatic, IsSpellable, name_of, size_width, meta_text, image_limit}
use Rattle.t3_blocks.proofs.Sizes.{length_meta_text}
use Rattle.t3_image_read.specs.declared.image.PlacedBlock.{PlacedBlock}
use Rattle.t3_image_read.specs.ImageText.{block_text}
use Rattle.t3_image_read.specs.Validity.{IsGood, header_limit}
use Rattle.t3_asm_line.specs.declared.argument.Argument.TheVariants.{Number, Text}
use Rattle.t3_asm_line.specs.declared.keyword.Keyword.TheVariants as of
use Rattle.t3_asm_line.specs.declared.line.ParsedLine.{ParsedLine}
use Rattle.t3_asm_line.specs.Line.{parsed_line}
use Rattle.t3_asm.specs.declared.stage.Stage.{Stage}
use Rattle.t3_asm.specs.declared.stage.Stage.TheVariants as stages
use Rattle.t3_asm.specs.Arguments.{block_name}
use Rattle.t3_asm.specs.Blocks.{static_of, statics_of, metas_of, names_of, symbols_of}
use Rattle.t3_asm.specs.Listing.{bytes_lines, end_line, static_lines, prop_lines, meta_lines, name_lines, symbol_lines, lines_in, block_lines}
use Rattle.t3_asm.specs.Places.{Labels}
use Rattle.t3_asm.specs.Source.{is_many, is_crowded_block, is_crowded_meta, flags_in, passes_limits}
use Rattle.t3_asm.specs.Stages.{object_stage, stage_behind, stage_of_name}
use Rattle.t3_asm.proofs.Chain.{Follow}
use Rattle.t3_asm.proofs.EachLine.{All-bytes_lines, All-flat_map, All-prop_lines, prop_line}
use Rattle.t3_asm.proofs.EntriesStand.{stage_through, bytes_lines_stand}
use Rattle.t3_asm.proofs.ListedItems.{Positions, item_at, after, items_at, lines_with, lines_with-flat}
use Rattle.t3_asm.proofs.ListingStands.{named_by, numbers_address, numbers_offset, short_number}
use Rattle.t3_asm.proofs.SaidLists.{EndsEntry, static_said, statics_said, meta_said, metas_said, names_said, symbols_said}
use Rattle.t3_asm.proofs.SaidBlocks.{MayFollow, stage_in, name_said, placed_said}
use Rattle.t3_asm.proofs.Unrefused.{IsQuiet, Unrefused, refused_none, inside_none, quiet_none, follow_next}

few : (n : ℕ) → n < 2 ^ 16 → is_many n ≡ false
few n less = le-ltb 65535 n (omega arith)

-- ---- quiet lines

bytes_quiet : (bytes : List ℕ) → AllByRecursion IsQuiet (bytes_lines bytes)
bytes_quiet bytes =
    All-bytes_lines IsQuiet
    (λ piece. record { no_address = refl; no_offset = refl; inside = refl; roomy = λ labels item behind. refl }) bytes

prop_quiet : (alone : Bool) (entry : PropEntry) → IsQuiet (prop_line alone entry)
prop_quiet true entry = record { no_address = refl; no_offset = refl; inside = refl; roomy = λ labels item behind. refl }
prop_quiet false entry = record { no_address = refl; no_offset = refl; inside = refl; roomy = λ labels item behind. refl }

names_quiet : (names : List (List ℕ)) → AllByRecursion IsQuiet (flat_map name_lines names)
names_quiet names =
    All-flat_map IsQuiet name_lines
    (λ name. (record { no_address = refl; no_offset = refl; inside = refl; roomy = λ labels item behind. refl }, tt)) names

symbols_quiet : (symbols : List Symbol) → AllByRecursion IsQuiet (flat_map symbol_lines symbols)
symbols_quiet symbols =
    All-flat_map IsQuiet symbol_lines
    (λ symbol. (record { no_address = refl; no_offset = refl; inside = refl; roomy = λ labels item behind. refl }, tt)) symbols

-- ---- objects

-- objects of these flags may stand here
record TakesObjects (stage : Stage) (flags : ℕ) : Type 0 where
  next : object_stage stage ≡ stages.Object flags
  flags_are : flags_in stage ≡ flags

objects_end : (objects : List Static) (behind : List ParsedLine) → EndsEntry behind → EndsEntry (lines_with static_lines objects behind)
objects_end [] behind ends = ends
objects_end (object ∷ objects) behind ends = refl

objects_none : (labels : Labels) (size count flags : ℕ) (objects : List Static) → AllByRecursion (IsStatic (size_width flags)) objects
    → (behind : List ParsedLine) → EndsEntry behind → ((stage : Stage) → Unrefused labels size count stage behind)
    → (stage : Stage) → TakesObjects stage flags → Unrefused labels size count stage (lines_with static_lines objects behind)
objects_none labels size count flags [] are behind ends others stage takes = others stage
objects_none labels size count flags (object ∷ objects) are behind ends others stage takes = λ positions follow.
    let line = parsed_line of.Object (Number object.number ∷ []) in
    let more = lines_with static_lines objects behind in
    let rest = bytes_lines object.bytes ++ more in
    let item = item_at (positions zero) line in
    let items = items_at (after positions) rest in
    let said = static_said labels (size_width flags) object are.0 more (objects_end objects behind ends) positions in
    let roomy : leb (256 ^ size_width (flags_in item.place.stage)) (length (static_of labels item items).bytes) ≡ false =
    ap (λ s. leb (256 ^ size_width (flags_in s)) (length (static_of labels item items).bytes)) follow.0
    ∙ (λ i. leb (256 ^ size_width (takes.flags_are i)) (length (said i).bytes))
    ∙ lt-leb (256 ^ size_width flags) (length object.bytes) are.0.1 in
    let next : Follow (stages.Object flags) items =
    subst (λ s. Follow s items) takes.next (follow_next stage positions line rest follow) in
    let go_on : Unrefused labels size count (stage_through (stages.Object flags) (bytes_lines object.bytes)) more =
    subst (λ s. Unrefused labels size count s more) (sym (bytes_lines_stand (stages.Object flags) refl object.bytes).ends)
    (objects_none labels size count flags objects are.1 behind ends others (stages.Object flags)
    (record { next = refl; flags_are = refl })) in
    inside_none labels size count item items (record { no_address = refl; no_offset = refl }) refl roomy
    (quiet_none labels size count (stages.Object flags) (bytes_lines object.bytes) more (bytes_quiet object.bytes) go_on
    (after positions) next)

-- ---- metaclasses

meta_fits : (meta : Meta) → IsMeta meta → is_crowded_meta meta ≡ false
meta_fits meta is =
    let size : is_many (length (meta_text meta)) ≡ false = few (length (meta_text meta)) (omega (arith, is.0, length_meta_text meta)) in
    ap (λ b. b || is_many (length (meta_text meta))) (few (length meta.props) is.1.count) ∙ size

metas_end : (metas : List Meta) (behind : List ParsedLine) → EndsEntry behind → EndsEntry (lines_with meta_lines metas behind)
metas_end [] behind ends = ends
metas_end (meta ∷ metas) behind ends = refl

metas_none : (labels : Labels) (size count : ℕ) (metas : List Meta) → AllByRecursion IsMeta metas → (behind : List ParsedLine)
    → EndsEntry behind
    → ((stage : Stage) → Unrefused labels size count stage behind)
    → (stage : Stage) → Unrefused labels size count stage (lines_with meta_lines metas behind)
metas_none labels size count [] are behind ends others stage = others stage
metas_none labels size count (meta ∷ metas) are behind ends others stage = λ positions follow.
    let line = parsed_line of.Metaclass (Text meta.name ∷ Number meta.property_size ∷ Text meta.tail ∷ []) in
    let more = lines_with meta_lines metas behind in
    let props = flat_map (prop_lines meta.property_size) meta.props in
    let item = item_at (positions zero) line in
    let next = stage_behind stage line.keyword line.arguments in
    let said = meta_said meta are.0 more (metas_end metas behind ends) positions in
    inside_none labels size count item (items_at (after positions) (props ++ more)) (record { no_address = refl; no_offset = refl }) refl
    (ap is_crowded_meta said ∙ meta_fits meta are.0)
    (quiet_none labels size count next props more (All-prop_lines IsQuiet prop_quiet meta.property_size meta.props)
    (metas_none labels size count metas are.1 behind ends others (stage_through next props)) (after positions)
    (follow_next stage positions line (props ++ more) follow))

-- ---- what a block has

lines_none : (labels : Labels) (size count : ℕ) (block : Block) → IsSpellable block → (behind : List ParsedLine) → MayFollow behind
    → ((stage : Stage) → Unrefused labels size count stage behind) → (stage : Stage)
    → Unrefused labels size count stage (lines_in block ++ behind)
lines_none labels size count (blocks.Entry code m e debug tail) is behind may others stage =
    quiet_none labels size count stage (lines_in (blocks.Entry code m e debug tail)) behind (
      record {
        no_address = numbers_address debug tail;
        no_offset = numbers_offset debug tail;
        inside = refl;
        roomy = λ labels item behind. refl;
      },
      tt,
    )
    (others _)
lines_none labels size count (blocks.Objects metaclass flags objects) is behind may others stage = λ positions follow.
    let line = parsed_line of.Objects (Number metaclass ∷ Number flags ∷ []) in
    let front = flat_map static_lines objects in
    let same = lines_with-flat static_lines objects behind in
    let item = item_at (positions zero) line in
    let said = ap (λ l. statics_of labels (items_at (after positions) l)) same
    ∙ statics_said labels (size_width flags) objects is.3 behind may.entry may.block (after positions) in
    let next : Follow (stages.Objects flags) (items_at (after positions) (front ++ behind)) =
    subst (λ n. Follow (stages.Objects n) (items_at (after positions) (front ++ behind))) (short_number flags is.1)
    (follow_next stage positions line (front ++ behind) follow) in
    inside_none labels size count item (items_at (after positions) (front ++ behind)) (record { no_address = refl; no_offset = refl }) refl
    (ap (λ l. is_many (length l)) said ∙ few (length objects) is.2)
    (subst (Unrefused labels size count (stages.Objects flags)) (sym same)
    (objects_none labels size count flags objects is.3 behind may.entry others (stages.Objects flags)
    (record { next = refl; flags_are = refl })) (after positions) next)
lines_none labels size count (blocks.PoolDef pool number each) is behind may others stage =
    quiet_none labels size count stage (lines_in (blocks.PoolDef pool number each)) behind
    (record { no_address = refl; no_offset = refl; inside = refl; roomy = λ labels item behind. refl }, tt) (others _)
lines_none labels size count (blocks.Page pool index mask bytes) is behind may others stage =
    quiet_none labels size count stage (lines_in (blocks.Page pool index mask bytes)) behind
    (record { no_address = refl; no_offset = refl; inside = refl; roomy = λ labels item behind. refl }, bytes_quiet bytes) (others _)
lines_none labels size count (blocks.Metas metas) is behind may others stage =
    subst (Unrefused labels size count stage) (sym (lines_with-flat meta_lines metas behind))
    (metas_none labels size count metas is.1 behind may.entry others stage)
lines_none labels size count (blocks.Functions names) is behind may others stage =
    quiet_none labels size count stage (flat_map name_lines names) behind (names_quiet names) (others _)
lines_none labels size count (blocks.Symbols symbols) is behind may others stage =
    quiet_none labels size count stage (flat_map symbol_lines symbols) behind (symbols_quiet symbols) (others _)
lines_none labels size count (blocks.Opaque name bytes) is behind may others stage =
    quiet_none labels size count stage (bytes_lines bytes) behind (bytes_quiet bytes) (others _)

-- ---- a block's line

kind_roomy : (labels : Labels) (block : Block) → IsSpellable block → (behind : List ParsedLine) → MayFollow behind → (positions : Positions)
    → is_crowded_block labels (items_at positions (lines_in block ++ behind)) (stage_in block) ≡ false
kind_roomy labels (blocks.Metas metas) is behind may positions =
    ap (λ l. is_many (length (metas_of (items_at positions l)))) (lines_with-flat meta_lines metas behind)
    ∙ ap (λ l. is_many (length l)) (metas_said metas is.1 behind may.entry may.block positions) ∙ few (length metas) is.0
kind_roomy labels (blocks.Functions names) is behind may positions =
    ap (λ l. is_many (length (names_of (items_at positions l)))) (lines_with-flat name_lines names behind)
    ∙ ap (λ l. is_many (length l)) (names_said names is.1 behind may.block positions) ∙ few (length names) is.0
kind_roomy labels (blocks.Symbols symbols) is behind may positions =
    ap (λ l. is_many (length (symbols_of labels (items_at positions l)))) (lines_with-flat symbol_lines symbols behind)
    ∙ ap (λ l. is_many (length l)) (symbols_said labels symbols is.1 behind may.block positions) ∙ few (length symbols) is.0
kind_roomy labels block is behind may positions = refl

block_roomy : (labels : Labels) (block : Block) (flags : ℕ) → IsSpellable block → (behind : List ParsedLine) → MayFollow behind
    → (positions : Positions)
    → is_crowded_block labels (items_at positions (lines_in block ++ behind)) (stage_of_name (block_name (named_by (name_of block) flags)))
    ≡ false
block_roomy labels block flags is behind may positions =
    ap (is_crowded_block labels (items_at positions (lines_in block ++ behind))) (name_said block flags is).1
    ∙ kind_roomy labels block is behind may positions

within : (size count : ℕ) → size ≤ image_limit → count ≤ header_limit → passes_limits size count ≡ false
within size count small few_headers =
    ap (λ b. b || ltb header_limit count) (le-ltb image_limit size small) ∙ le-ltb header_limit count few_headers

block_none : (labels : Labels) (size count : ℕ) (placed : PlacedBlock) → IsGood placed → (behind : List ParsedLine) → MayFollow behind
    → size + length (block_text placed) ≤ image_limit → count + 1 ≤ header_limit
    → ((stage : Stage) → Unrefused labels (size + length (block_text placed)) (count + 1) stage behind)
    → (stage : Stage) → Unrefused labels size count stage (block_lines placed ++ behind)
block_none labels size count placed good behind may small few_headers others stage positions follow =
    let line = parsed_line of.Block (named_by (name_of placed.block) placed.flags) in
    let rest = lines_in placed.block ++ behind in
    let sum = size + length (block_text placed) in
    refused_none labels size count (item_at (positions zero) line) (items_at (after positions) rest) sum (count + 1)
    (ap (λ p. size + length (block_text p)) (placed_said labels placed good behind may positions)) refl
    (record { no_address = refl; no_offset = refl })
    (block_roomy labels placed.block placed.flags good.spellable behind may (after positions)) (within sum (count + 1) small few_headers)
    (lines_none labels sum (count + 1) placed.block good.spellable behind may others (stage_behind stage line.keyword line.arguments)
    (after positions)
    (follow_next stage positions line rest follow))

-- ---- all blocks

blocks_follow : (placed : List PlacedBlock) (flags : ℕ) → MayFollow (lines_with block_lines placed (end_line flags ∷ []))
blocks_follow [] flags = record { entry = refl; block = refl }
blocks_follow (block ∷ placed) flags = record { entry = refl; block = refl }

pub blocks_none : (labels : Labels) (size count : ℕ) (placed : List PlacedBlock) → AllByRecursion IsGood placed → (flags : ℕ)
    → size + length (flat_map block_text placed) + 10 ≤ image_limit → count + length placed + 1 ≤ header_limit
    → (stage : Stage) → Unrefused labels size count stage (lines_with block_lines placed (end_line flags ∷ []))
blocks_none labels size count [] good flags small few_headers stage = λ positions follow.
    refused_none labels size count (item_at (positions zero) (end_line flags)) [] (size + 10) (count + 1) refl refl
    (record { no_address = refl; no_offset = refl }) refl
    (within (size + 10) (count + 1) (omega (arith, small)) (omega (arith, few_headers))) refl
blocks_none labels size count (block ∷ placed) good flags small few_headers stage =
    let long = length-append (block_text block) (flat_map block_text placed) in
    block_none labels size count block good.0 (lines_with block_lines placed (end_line flags ∷ [])) (blocks_follow placed flags)
    (omega (arith, small, long)) (omega (arith, few_headers))
    (blocks_none labels (size + length (block_text block)) (count + 1) placed good.1 flags (omega (arith, small, long))
    (omega (arith, few_headers))) stage
