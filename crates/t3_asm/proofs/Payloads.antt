-- How many bytes the payloads of blocks have, by what a block takes first.
use Rattle.std.proofs.Common.{◌≡◌, ℕ, ◌+◌, ◌%◌, List, [], ◌∷◌, ◌++◌, length, refl, sym, ap, ◌∙◌, arith}
use Rattle.std.specs.Prelude.{◌≢◌}
use Rattle.std.specs.List.{flat_map}
use Rattle.std.proofs.lemmas.List.{length-append}
use Rattle.t3_holder.specs.NumberText.{little_endian}
use Rattle.t3_holder.proofs.Numbers.{length-little_endian}
use Rattle.t3_blocks.specs.Spelling.{payload_of, name_of, size_width, static_text, meta_text, name_text, symbol_text}
use Rattle.t3_blocks.proofs.Sizes.{length_entry, length_pool_def, length_page, length_objects, length_metas, length_functions, length_symbols}
use Rattle.t3_image_read.specs.ImageText.{header_text, header_of, block_text}
use Rattle.t3_asm.specs.declared.item.Item.{Item}
use Rattle.t3_asm.specs.declared.level.Level.TheVariants.{InBlock}
use Rattle.t3_asm.specs.declared.stage.Stage.{Stage}
use Rattle.t3_asm.specs.declared.stage.Stage.TheVariants as stages
use Rattle.t3_asm.specs.Arguments.{number_at, short_at, text_at, block_name}
use Rattle.t3_asm.specs.Blocks.{contents_of, statics_of, metas_of, names_of, symbols_of, long_at, head_arguments, block_by, block_of, placed_of}
use Rattle.t3_asm.specs.Inner.Measures.{near}
use Rattle.t3_asm.specs.Places.{Labels}
use Rattle.t3_asm.specs.Stages.{stage_of_name}
use Rattle.t3_asm.proofs.EachLine.{length-resized}

-- how many bytes the payload has
abbrev pub payload_length : Labels → List Item → Stage → ℕ
payload_length labels behind stages.EntryHead = 16 + length (text_at (head_arguments behind) 7)
payload_length labels behind stages.PoolHead = 10
payload_length labels behind stages.PageHead = 7 + length (contents_of InBlock labels behind)
payload_length labels behind stages.ObjectsHead =
    6 + length (flat_map (static_text (size_width (short_at (head_arguments behind) 1))) (statics_of labels behind))
payload_length labels behind stages.Metaclasses = 2 + length (flat_map meta_text (metas_of behind))
payload_length labels behind stages.FunctionSets = 2 + length (flat_map name_text (names_of behind))
payload_length labels behind stages.Symbols = 2 + length (flat_map symbol_text (symbols_of labels behind))
payload_length labels behind stage = length (contents_of InBlock labels behind)

pub payload_is : (labels : Labels) (name : List ℕ) (behind : List Item) (stage : Stage)
    → length (payload_of (block_by labels name behind stage)) ≡ payload_length labels behind stage
unfolding payload_of
payload_is labels name behind stages.EntryHead =
    let head = head_arguments behind in
    length_entry (long_at labels head 0) (short_at head 1) (short_at head 2)
    (short_at head 3 ∷ short_at head 4 ∷ short_at head 5 ∷ short_at head 6 ∷ []) (text_at head 7) refl
payload_is labels name behind stages.PoolHead =
    let head = head_arguments behind in length_pool_def (short_at head 0) (number_at head 1) (number_at head 2)
payload_is labels name behind stages.PageHead =
    let head = head_arguments behind in
    length_page (short_at head 0) (number_at head 1) (number_at head 2 % 256) (contents_of InBlock labels behind)
payload_is labels name behind stages.ObjectsHead =
    let head = head_arguments behind in length_objects (short_at head 0) (short_at head 1) (statics_of labels behind)
payload_is labels name behind stages.Metaclasses = length_metas (metas_of behind)
payload_is labels name behind stages.FunctionSets = length_functions (names_of behind)
payload_is labels name behind stages.Symbols = length_symbols (symbols_of labels behind)
payload_is labels name behind stage = refl

-- the size of a block of this stage, where another size is the one that is due
pub sized_at : (labels : Labels) (name : List ℕ) (behind : List Item) (stage known : Stage) (size : ℕ) → stage ≡ known
    → size ≡ near (payload_length labels behind known)
    → size ≡ near (length (payload_of (block_by labels name behind stage)))
sized_at labels name behind stage known size is due =
    due ∙ ap (λ s. near (payload_length labels behind s)) (sym is) ∙ sym (ap near (payload_is labels name behind stage))

pub kept_size : (labels : Labels) (name : List ℕ) (behind : List Item) (stage : Stage) (size : ℕ)
    → stage ≢ stages.EntryHead → stage ≢ stages.PoolHead → stage ≢ stages.PageHead → stage ≢ stages.ObjectsHead
    → stage ≢ stages.Metaclasses → stage ≢ stages.FunctionSets → stage ≢ stages.Symbols
    → size ≡ near (length (contents_of InBlock labels behind))
    → size ≡ near (length (payload_of (block_by labels name behind stage)))
unfolding payload_of
kept_size labels name behind stages.EntryHead size a b c d e f g due = absurd (a refl)
kept_size labels name behind stages.PoolHead size a b c d e f g due = absurd (b refl)
kept_size labels name behind stages.PageHead size a b c d e f g due = absurd (c refl)
kept_size labels name behind stages.ObjectsHead size a b c d e f g due = absurd (d refl)
kept_size labels name behind stages.Metaclasses size a b c d e f g due = absurd (e refl)
kept_size labels name behind stages.FunctionSets size a b c d e f g due = absurd (f refl)
kept_size labels name behind stages.Symbols size a b c d e f g due = absurd (g refl)
kept_size labels name behind stage size a b c d e f g due = due

length-name : (labels : Labels) (name : List ℕ) (behind : List Item) (stage : Stage) → length name ≡ 4
    → length (name_of (block_by labels name behind stage)) ≡ 4
length-name labels name behind stages.EntryHead long = refl
length-name labels name behind stages.PoolHead long = refl
length-name labels name behind stages.PageHead long = refl
length-name labels name behind stages.ObjectsHead long = refl
length-name labels name behind stages.Metaclasses long = refl
length-name labels name behind stages.FunctionSets long = refl
length-name labels name behind stages.Symbols long = refl
length-name labels name behind stage long = long

-- a block has ten bytes before its payload
pub length-placed : (labels : Labels) (item : Item) (behind : List Item)
    → length (block_text (placed_of labels item behind)) ≡ 10 + length (payload_of (block_of labels item behind))
unfolding block_text header_text block_of
length-placed labels item behind =
    let name = block_name item.arguments in
    let block = block_by labels name behind (stage_of_name name) in
    let size = length (payload_of block) in
    let flags = short_at item.arguments 1 in
    omega (
      arith,
      length-append (header_text (header_of (placed_of labels item behind))) (payload_of block),
      length-append (name_of block ++ little_endian 4 size) (little_endian 2 flags),
      length-append (name_of block) (little_endian 4 size),
      length-name labels name behind (stage_of_name name) (length-resized 4 0 (text_at item.arguments 0)),
      length-little_endian 4 size,
      length-little_endian 2 flags,
    )
