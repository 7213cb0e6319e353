-- What the lines of blocks say.
use Rattle.std.proofs.Common.{◌≡◌, ℕ, zero, ◌%◌, Bool, true, false, List, [], ◌∷◌, ◌++◌, length, refl, ap, ◌∙◌, arith}
use Rattle.std.specs.Prelude.{codes}
use Rattle.std.specs.List.{AllByRecursion}
use Rattle.t3_blocks.specs.declared.block.Block.{Block}
use Rattle.t3_blocks.specs.declared.block.Block.TheVariants as blocks
use Rattle.t3_blocks.specs.declared.items.PropEntry.{PropEntry}
use Rattle.t3_blocks.specs.Spelling.{IsSpellable, name_of, size_width}
use Rattle.t3_image_read.specs.declared.image.PlacedBlock.{PlacedBlock}
use Rattle.t3_image_read.specs.Validity.{IsGood}
use Rattle.t3_asm_line.specs.declared.keyword.Keyword.TheVariants as of
use Rattle.t3_asm_line.specs.declared.line.ParsedLine.{ParsedLine}
use Rattle.t3_asm_line.specs.Line.{parsed_line}
use Rattle.t3_asm.specs.declared.level.Level.TheVariants.{Image, InBlock}
use Rattle.t3_asm.specs.declared.stage.Stage.{Stage}
use Rattle.t3_asm.specs.declared.stage.Stage.TheVariants as stages
use Rattle.t3_asm.specs.Arguments.{block_name}
use Rattle.t3_asm.specs.Blocks.{is_block, statics_of, metas_of, names_of, symbols_of, block_by, block_of, placed_of, blocks_of}
use Rattle.t3_asm.specs.Listing.{bytes_lines, end_line, static_lines, meta_lines, name_lines, symbol_lines, lines_in, block_lines}
use Rattle.t3_asm.specs.Places.{Labels}
use Rattle.t3_asm.specs.Stages.{stage_of_name}
use Rattle.t3_asm.specs.Values.{content_text}
use Rattle.t3_asm.proofs.EachLine.{All-bytes_lines, All-flat_map, All-prop_lines, prop_line, resized-same}
use Rattle.t3_asm.proofs.ListedItems.{Positions, item_at, after, items_at, lines_with, lines_with-flat, closes, contents_bytes, entries_all, entries_pass, Passes}
use Rattle.t3_asm.proofs.ListingStands.{named_by, kept_stage, short_number}
use Rattle.t3_asm.proofs.SaidLists.{long_number, EndsEntry, statics_said, metas_said, names_said, symbols_said}

-- what a block of this kind takes first
abbrev pub stage_in : Block → Stage
stage_in (blocks.Entry code method_size exception_size debug tail) = stages.EntryHead
stage_in (blocks.Objects metaclass flags objects) = stages.ObjectsHead
stage_in (blocks.PoolDef pool count size) = stages.PoolHead
stage_in (blocks.Page pool index mask bytes) = stages.PageHead
stage_in (blocks.Metas metas) = stages.Metaclasses
stage_in (blocks.Functions names) = stages.FunctionSets
stage_in (blocks.Symbols symbols) = stages.Symbols
stage_in (blocks.Opaque name bytes) = stages.Kept

length-name_of : (block : Block) → IsSpellable block → length (name_of block) ≡ 4
length-name_of (blocks.Opaque name bytes) is = is.0
length-name_of block is = refl

stage-name_of : (block : Block) → IsSpellable block → stage_of_name (name_of block) ≡ stage_in block
unfolding stage_of_name
stage-name_of (blocks.Opaque name bytes) is = kept_stage name is.1.no_layout
stage-name_of block is = refl

-- a block's line has the name that leads to its kind
pub name_said : (block : Block) (flags : ℕ) → IsSpellable block
    → (block_name (named_by (name_of block) flags) ≡ name_of block)
    × (stage_of_name (block_name (named_by (name_of block) flags)) ≡ stage_in block)
name_said block flags is =
    let same : block_name (named_by (name_of block) flags) ≡ name_of block = resized-same 4 0 (name_of block) (length-name_of block is) in
    (same, ap stage_of_name same ∙ stage-name_of block is)

entry_said : (labels : Labels) (code m e : ℕ) (debug tail : List ℕ) (behind : List ParsedLine) (positions : Positions)
    → IsSpellable (blocks.Entry code m e debug tail)
    → block_by labels (codes "ENTP") (items_at positions (lines_in (blocks.Entry code m e debug tail) ++ behind)) stages.EntryHead
    ≡ blocks.Entry code m e debug tail
entry_said labels code m e (a ∷ b ∷ c ∷ d ∷ []) tail behind positions is =
    let code_is = long_number code is.0 in
    let method_is = short_number m is.1 in
    let exception_is = short_number e is.2 in
    let first = short_number a is.4.0 in
    let second = short_number b is.4.1.0 in
    let third = short_number c is.4.1.1.0 in
    let fourth = short_number d is.4.1.1.1.0 in
    λ i. blocks.Entry (code_is i) (method_is i) (exception_is i) (first i ∷ second i ∷ third i ∷ fourth i ∷ []) tail
entry_said labels code m e [] tail behind positions is = absurd (omega (arith, is.3))
entry_said labels code m e (a ∷ []) tail behind positions is = absurd (omega (arith, is.3))
entry_said labels code m e (a ∷ b ∷ []) tail behind positions is = absurd (omega (arith, is.3))
entry_said labels code m e (a ∷ b ∷ c ∷ []) tail behind positions is = absurd (omega (arith, is.3))
entry_said labels code m e (a ∷ b ∷ c ∷ d ∷ f ∷ more) tail behind positions is = absurd (omega (arith, is.3))

-- lines that follow a block
pub record MayFollow (lines : List ParsedLine) : Type 0 where
  pub entry : EndsEntry lines
  pub block : closes InBlock lines ≡ true

-- the lines of what a block has, by its kind
kind_said : (labels : Labels) (block : Block) → IsSpellable block → (behind : List ParsedLine) → MayFollow behind → (positions : Positions)
    → block_by labels (name_of block) (items_at positions (lines_in block ++ behind)) (stage_in block) ≡ block
unfolding content_text
kind_said labels (blocks.Entry code m e debug tail) is behind may positions = entry_said labels code m e debug tail behind positions is
kind_said labels (blocks.Objects metaclass flags objects) is behind may positions =
    let meta = short_number metaclass is.0 in
    let bits = short_number flags is.1 in
    let all = ap (λ l. statics_of labels (items_at (after positions) l)) (lines_with-flat static_lines objects behind)
    ∙ statics_said labels (size_width flags) objects is.3 behind may.entry may.block (after positions) in
    λ i. blocks.Objects (meta i) (bits i) (all i)
kind_said labels (blocks.PoolDef pool count size) is behind may positions =
    let pool_is = short_number pool is.0 in
    let count_is = long_number count is.1 in
    let size_is = long_number size is.2 in
    λ i. blocks.PoolDef (pool_is i) (count_is i) (size_is i)
kind_said labels (blocks.Page pool index mask bytes) is behind may positions =
    let pool_is = short_number pool is.0 in
    let index_is = long_number index is.1 in
    let mask_is : mask % 4294967296 % 256 ≡ mask = omega (arith, is.2) in
    let all = contents_bytes InBlock labels bytes behind may.block (after positions) in
    λ i. blocks.Page (pool_is i) (index_is i) (mask_is i) (all i)
kind_said labels (blocks.Metas metas) is behind may positions =
    ap (λ l. blocks.Metas (metas_of (items_at positions l))) (lines_with-flat meta_lines metas behind)
    ∙ ap blocks.Metas (metas_said metas is.1 behind may.entry may.block positions)
kind_said labels (blocks.Functions names) is behind may positions =
    ap (λ l. blocks.Functions (names_of (items_at positions l))) (lines_with-flat name_lines names behind)
    ∙ ap blocks.Functions (names_said names is.1 behind may.block positions)
kind_said labels (blocks.Symbols symbols) is behind may positions =
    ap (λ l. blocks.Symbols (symbols_of labels (items_at positions l))) (lines_with-flat symbol_lines symbols behind)
    ∙ ap blocks.Symbols (symbols_said labels symbols is.1 behind may.block positions)
kind_said labels (blocks.Opaque name bytes) is behind may positions =
    ap (blocks.Opaque name) (contents_bytes InBlock labels bytes behind may.block positions)

-- a block's line, with the lines of what it has
block_said : (labels : Labels) (block : Block) (flags : ℕ) → IsSpellable block → (behind : List ParsedLine) → MayFollow behind
    → (positions : Positions)
    → block_of labels (item_at (positions zero) (parsed_line of.Block (named_by (name_of block) flags)))
    (items_at (after positions) (lines_in block ++ behind)) ≡ block
unfolding block_of
block_said labels block flags is behind may positions =
    let name = name_said block flags is in
    let items = items_at (after positions) (lines_in block ++ behind) in
    ap (λ n. block_by labels n items (stage_of_name (block_name (named_by (name_of block) flags)))) name.0
    ∙ ap (block_by labels (name_of block) items) name.1 ∙ kind_said labels block is behind may (after positions)

pub placed_said : (labels : Labels) (placed : PlacedBlock) → IsGood placed → (behind : List ParsedLine) → MayFollow behind
    → (positions : Positions)
    → placed_of labels (item_at (positions zero) (parsed_line of.Block (named_by (name_of placed.block) placed.flags)))
    (items_at (after positions) (lines_in placed.block ++ behind)) ≡ placed
placed_said labels placed good behind may positions =
    let flags = short_number placed.flags good.flags in
    let block = block_said labels placed.block placed.flags good.spellable behind may positions in
    λ i. record { flags = flags i; block = block i }

-- ---- no line in a block begins another

abbrev NoBlock : ParsedLine → Type 0
NoBlock line = Passes Image is_block line

bytes_pass : (bytes : List ℕ) → AllByRecursion NoBlock (bytes_lines bytes)
bytes_pass bytes = All-bytes_lines NoBlock (λ piece. (refl, refl)) bytes

prop_passes : (alone : Bool) (entry : PropEntry) → NoBlock (prop_line alone entry)
prop_passes true entry = (refl, refl)
prop_passes false entry = (refl, refl)

lines_pass : (block : Block) → AllByRecursion NoBlock (lines_in block)
lines_pass (blocks.Entry code m e debug tail) = ((refl, refl), tt)
lines_pass (blocks.Objects metaclass flags objects) =
    ((refl, refl), All-flat_map NoBlock static_lines (λ object. ((refl, refl), bytes_pass object.bytes)) objects)
lines_pass (blocks.PoolDef pool count size) = ((refl, refl), tt)
lines_pass (blocks.Page pool index mask bytes) = ((refl, refl), bytes_pass bytes)
lines_pass (blocks.Metas metas) =
    All-flat_map NoBlock meta_lines (λ meta. ((refl, refl), All-prop_lines NoBlock prop_passes meta.property_size meta.props)) metas
lines_pass (blocks.Functions names) = All-flat_map NoBlock name_lines (λ name. ((refl, refl), tt)) names
lines_pass (blocks.Symbols symbols) = All-flat_map NoBlock symbol_lines (λ symbol. ((refl, refl), tt)) symbols
lines_pass (blocks.Opaque name bytes) = bytes_pass bytes

-- the lines of good blocks say the blocks
pub blocks_said : (labels : Labels) (placed : List PlacedBlock) → AllByRecursion IsGood placed → (flags : ℕ) → (positions : Positions)
    → blocks_of labels (items_at positions (lines_with block_lines placed (end_line flags ∷ []))) ≡ placed
unfolding blocks_of
blocks_said labels placed good flags positions =
    entries_all (blocks_of labels) block_lines IsGood MayFollow
    (λ block is more may xs others p.
    let first = placed_said labels block is more may p in
    let rest = entries_pass Image is_block (placed_of labels) (lines_in block.block) more xs (lines_pass block.block) others (after p) in
    λ i. first i ∷ rest i)
    (λ block more. record { entry = refl; block = refl }) (end_line flags ∷ []) (record { entry = refl; block = refl })
    (λ p. refl) placed good positions
