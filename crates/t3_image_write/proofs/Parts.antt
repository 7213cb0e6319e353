-- The texts of an image's parts, appended one after the other. Other crates may use what stands here.
use Rattle.std.proofs.Common.{◌≡◌, ℕ, ◌+◌, ◌^◌, ◌<◌, List, [], ◌++◌, length, take, drop, Result, Ok, Err, sym, ap, subst, ◌∙◌, append_assoc, arith}
use Rattle.std.proofs.lemmas.List.{take_at, length-append}
use Rattle.std.specs.Prelude.{IfOk, IfErr}
use Rattle.std.specs.List.{flat_map}
use Rattle.t3_holder.specs.NumberText.{little_endian}
use Rattle.t3_blocks.specs.Inner.Appending.{Keeps, Appends}
use Rattle.t3_blocks.specs.Spelling.{name_of, payload_of}
use Rattle.t3_blocks.proofs.Appending.{appends, keeps_all}
use Rattle.t3_image_read.specs.declared.header.BlockHeader.{BlockHeader}
use Rattle.t3_image_read.specs.declared.image.Head.{Head}
use Rattle.t3_image_read.specs.declared.image.PlacedBlock.{PlacedBlock}
use Rattle.t3_image_read.specs.ImageText.{ImageValue, signature, version, head_text, header_text, header_of, block_text, prefix_text, end_header, text}
use Rattle.t3_image_read.specs.Validity.{IsValid}
use Rattle.t3_image_read.proofs.Headers.{length-header_text}
use Rattle.t3_image_read.proofs.Heads.{length-head_text}
use Rattle.t3_image_read.proofs.Blocks.{IsHeader-end_header}

head_is : (head : Head) → signature ++ (little_endian 2 version ++ (head.reserved ++ head.stamp)) ≡ head_text head
unfolding head_text
head_is head = simp append_assoc

pub appends_head : {T E : Type 0} (old a b c new : List ℕ) (head : Head) (answer : Result T E) → a ≡ old ++ signature
    → b ≡ a ++ little_endian 2 version → c ≡ b ++ head.reserved
    → Appends c new head.stamp answer → Appends old new (head_text head) answer
appends_head old a b c new head answer at_a at_b at_c last =
    let reserved = appends b c new head.reserved head.stamp answer at_c last in
    let versioned = appends a b new (little_endian 2 version) (head.reserved ++ head.stamp) answer at_b reserved in
    subst (λ text. Appends old new text answer) (head_is head)
    (appends old a new signature (little_endian 2 version ++ (head.reserved ++ head.stamp)) answer at_a versioned)

header_is : (header : BlockHeader) → header.name ++ (little_endian 4 header.size ++ little_endian 2 header.flags) ≡ header_text header
unfolding header_text
header_is header = simp append_assoc

pub appends_header : {T E : Type 0} (old a b new : List ℕ) (header : BlockHeader) (answer : Result T E) → a ≡ old ++ header.name
    → b ≡ a ++ little_endian 4 header.size
    → Appends b new (little_endian 2 header.flags) answer → Appends old new (header_text header) answer
appends_header old a b new header answer at_a at_b last =
    let sized = appends a b new (little_endian 4 header.size) (little_endian 2 header.flags) answer at_b last in
    subst (λ text. Appends old new text answer) (header_is header)
    (appends old a new header.name (little_endian 4 header.size ++ little_endian 2 header.flags) answer at_a sized)

-- a block's header, and its payload
pub appends_placed : {T E : Type 0} (old mid new name : List ℕ) (size : ℕ) (placed : PlacedBlock) (answer : Result T E)
    → name ≡ name_of placed.block → size ≡ length (payload_of placed.block)
    → mid ≡ old ++ header_text (record { name = name; size = size; flags = placed.flags })
    → Appends mid new (payload_of placed.block) answer → Appends old new (block_text placed) answer
unfolding block_text
appends_placed old mid new name size placed answer named sized headed last =
    let header = headed ∙ (λ i. old ++ header_text (record { name = named i; size = sized i; flags = placed.flags })) in
    appends old mid new (header_text (header_of placed)) (payload_of placed.block) answer header last

-- an answer that appends a text, or leaves what was there
pub appends_or_leaves : {T E : Type 0} (old new text : List ℕ) (answer : Result T E) → IfOk answer (λ _. new ≡ old ++ text)
    → IfErr answer (λ _. new ≡ old) → Appends old new text answer
appends_or_leaves old new text (Ok done) appended left = appended
appends_or_leaves old new text (Err refusal) appended left = subst (Keeps old) (sym left) (keeps_all old)

-- what was written over a whole list
pub all_over : {X : Type 0} (new old : List X) (long : ℕ) → length new ≡ long → take long (new ++ drop (length new) old) ≡ new
all_over new old long is = take_at new (drop (length new) old) long is

-- the parts of an image
pub text_is : (image : ImageValue) (a b c : List ℕ) → a ≡ [] ++ head_text image.head → b ≡ a ++ flat_map block_text image.blocks
    → c ≡ b ++ header_text (end_header image.eof_flags) → c ≡ text image
unfolding text prefix_text
text_is image a b c at_a at_b at_c =
    at_c ∙ ap (λ x. x ++ header_text (end_header image.eof_flags)) (at_b ∙ ap (λ x. x ++ flat_map block_text image.blocks) at_a)

pub length-parts : (image : ImageValue) → length (text image) ≡ length (head_text image.head) + length
    (flat_map block_text image.blocks) + length (header_text (end_header image.eof_flags))
unfolding text prefix_text
length-parts image =
    let blocks = flat_map block_text image.blocks in
    omega (
      arith,
      length-append (head_text image.head ++ blocks) (header_text (end_header image.eof_flags)),
      length-append (head_text image.head) blocks,
    )

-- an image is the header, its blocks, and the end
pub length-text : (image : ImageValue) → IsValid image → length (text image) ≡ 69 + length (flat_map block_text image.blocks) + 10
length-text image valid = omega (
  arith,
  length-parts image,
  length-head_text image.head valid.head,
  length-header_text (end_header image.eof_flags) (IsHeader-end_header image.eof_flags valid.eof_flags),
)

pub small_text : (image : ImageValue) → IsValid image → length (flat_map block_text image.blocks) < 2 ^ 32
small_text image valid = let near = valid.size in omega (arith, length-text image valid)
