-- The image of a drill is valid.
use Rattle.std.proofs.Common.{◌≡◌, ℕ, zero, suc, ◌+◌, ◌*◌, ◌^◌, ◌<◌, ◌≤◌, false, codes, List, [], ◌∷◌, ◌++◌, length, map, take, drop, refl, ap, ◌∙◌, arith, lit<, lit≤}
use Rattle.std.specs.List.{AllByRecursion, flat_map, range_with_len}
use Rattle.std.proofs.lemmas.List.{length-append, length-take}
use Rattle.std.proofs.lemmas.List.Concat.{flat_map-append}
use Rattle.std.proofs.lemmas.List.FromFn.{length-map-range_with_len}
use Rattle.t3_holder.specs.HolderText.{raw_text}
use Rattle.t3_holder.specs.NumberText.{little_endian}
use Rattle.t3_blocks.specs.BlockName.{is_unknown_mandatory}
use Rattle.t3_blocks.specs.Spelling.{name_of, payload_of, IsSpellable, IsMetaBody, IsStatic, size_width}
use Rattle.t3_blocks.specs.declared.block.Block.{Block}
use Rattle.t3_blocks.specs.declared.block.Block.TheVariants as blocks
use Rattle.t3_blocks.proofs.Sizes.{length_page}
use Rattle.t3_image_read.specs.declared.image.PlacedBlock.{PlacedBlock}
use Rattle.t3_image_read.specs.ImageText.{block_text, header_text}
use Rattle.t3_image_read.specs.Validity.{IsHead, IsGood, IsGoodPrefix, IsValid}
use Rattle.t3_image_read.proofs.Blocks.{length-block_text}
use Rattle.t3_image_read.proofs.Existence.{valid_image}
use Rattle.t3_image_read.proofs.Uniqueness.{length-prefix_text}
use Rattle.t3_drill.specs.Drill.{page_size, page_count, mandatory, page, pages, tads_object, static_object, objects, front, head, code, drill_image}
use Rattle.t3_drill.proofs.Lengths.{pages_few}

-- ---- lists

all-append : {X : Type 0} (P : X → Type 0) (xs ys : List X)
    → AllByRecursion P xs → AllByRecursion P ys → AllByRecursion P (xs ++ ys)
all-append P [] ys first then = then
all-append P (x ∷ xs) ys first then = (first.0, all-append P xs ys first.1 then)

-- what holds of each number below a limit holds of a row of them
all-row : {X : Type 0} (P : X → Type 0) (f : ℕ → X) (limit : ℕ) → ((k : ℕ) → k < limit → P (f k))
    → (from count : ℕ) → from + count ≤ limit → AllByRecursion P (map f (range_with_len from count))
all-row P f limit each from zero within = tt
all-row P f limit each from (suc count) within = (each from (omega arith), all-row P f limit each (from + 1) count (omega arith))

-- texts of which none is longer than this
long-row : {X : Type 0} (text : X → List ℕ) (most : ℕ) (xs : List X) → AllByRecursion (λ x. length (text x) ≤ most) xs
    → length (flat_map text xs) ≤ most * length xs
long-row text most [] all = omega arith
long-row text most (x ∷ xs) all = omega (arith, length-append (text x) (flat_map text xs), all.0, long-row text most xs all.1)

-- ---- blocks

page_long : (bytes : List ℕ) (index : ℕ) → length (payload_of (page bytes index).block) ≤ 4103
page_long bytes index =
    let rest = drop (index * page_size) bytes in
    omega (arith, length_page 1 index 0 (take page_size rest), length-take page_size rest)

page_good : (bytes : List ℕ) (index : ℕ) → index < 450 → IsGood (page bytes index)
page_good bytes index few = record {
  spellable = (lit< tt, (let fits : index < 2 ^ 32 = omega arith in fits), lit< tt);
  size = omega (arith, page_long bytes index);
  flags = lit< tt;
  known = refl;
}

page_within : (bytes : List ℕ) (index : ℕ) → index < 450 → length (block_text (page bytes index)) ≤ 4113
page_within bytes index few = omega (arith, length-block_text (page bytes index) (page_good bytes index few), page_long bytes index)

pages_good : (bytes : List ℕ) → page_count bytes ≤ 450 → AllByRecursion IsGood (pages bytes)
unfolding pages
pages_good bytes few = all-row IsGood (page bytes) 450 (page_good bytes) 0 (page_count bytes) (omega arith)

pages_long : (bytes : List ℕ) → page_count bytes ≤ 450 → length (flat_map block_text (pages bytes)) ≤ 4113 * length (pages bytes)
unfolding pages
pages_long bytes few =
    long-row block_text 4113 (pages bytes)
    (all-row (λ p. length (block_text p) ≤ 4113) (page bytes) 450 (page_within bytes) 0 (page_count bytes) (omega arith))

length-pages : (bytes : List ℕ) → length (pages bytes) ≡ page_count bytes
unfolding pages
length-pages bytes = length-map-range_with_len (page bytes) 0 (page_count bytes)

-- a mandatory block is good that its payload spells, where its name means something
mandatory_good : (block : Block) → IsSpellable block → length (payload_of block) < 2 ^ 32 → is_unknown_mandatory (name_of block) 1 ≡ false
    → IsGood (mandatory block)
mandatory_good block spellable size known = record { spellable = spellable; size = size; flags = lit< tt; known = known }

numbers_spellable : AllByRecursion (IsStatic (size_width 0)) (map static_object objects)
unfolding objects little_endian raw_text
numbers_spellable =
    all-row (IsStatic (size_width 0)) static_object 65
    (λ k less. let fits : k < 2 ^ 32 = omega arith in (fits, lit< tt)) 1 64 (lit≤ tt)

objects_good : IsGood (mandatory (blocks.Objects 0 0 (map static_object objects)))
unfolding objects payload_of little_endian raw_text
objects_good =
    mandatory_good (blocks.Objects 0 0 (map static_object objects)) (lit< tt, lit< tt, lit< tt, numbers_spellable) (lit< tt) refl

entry_good : IsGood (mandatory (blocks.Entry 0 10 10 (0 ∷ 0 ∷ 0 ∷ 0 ∷ []) []))
unfolding payload_of little_endian
entry_good =
    let debug : AllByRecursion (λ n. n < 2 ^ 16) (0 ∷ 0 ∷ 0 ∷ 0 ∷ []) = (lit< tt, (lit< tt, (lit< tt, (lit< tt, tt)))) in
    mandatory_good (blocks.Entry 0 10 10 (0 ∷ 0 ∷ 0 ∷ 0 ∷ []) []) (lit< tt, lit< tt, lit< tt, refl, debug) (lit< tt) refl

pool_good : (count : ℕ) → count ≤ 450 → IsGood (mandatory (blocks.PoolDef 1 count page_size))
unfolding payload_of little_endian
pool_good count few =
    let fits : count < 2 ^ 32 = omega arith in
    mandatory_good (blocks.PoolDef 1 count page_size) (lit< tt, fits, lit< tt) (lit< tt) refl

metas_good : IsGood (mandatory (blocks.Metas (tads_object ∷ [])))
unfolding payload_of little_endian
metas_good =
    let body : IsMetaBody tads_object = record { name = lit< tt; count = lit< tt; size = lit< tt; props = tt } in
    mandatory_good (blocks.Metas (tads_object ∷ [])) (lit< tt, ((lit< tt, body), tt)) (lit< tt) refl

functions_good : IsGood (mandatory (blocks.Functions (codes "tads-gen/030008" ∷ codes "tads-io/030007" ∷ [])))
unfolding payload_of little_endian
functions_good =
    mandatory_good (blocks.Functions (codes "tads-gen/030008" ∷ codes "tads-io/030007" ∷ []))
    (lit< tt, (lit< tt, (lit< tt, tt))) (lit< tt) refl

front_good : (count : ℕ) → count ≤ 450 → AllByRecursion IsGood (front count)
unfolding front
front_good count few = (entry_good, (pool_good count few, (metas_good, (functions_good, (objects_good, tt)))))

front_long : (count : ℕ) → length (flat_map block_text (front count)) ≤ 5000
unfolding front objects block_text header_text payload_of little_endian raw_text
front_long count = lit≤ tt

length-front : (count : ℕ) → length (front count) ≡ 5
unfolding front
length-front count = refl

-- ---- the image

head_is : IsHead head
head_is = record { reserved = refl; stamp = refl }

blocks_long : (number : ℕ) → number ≤ 200
    → length (flat_map block_text (front (page_count (code number)) ++ pages (code number))) ≤ 1900000
blocks_long number few =
    let count = page_count (code number) in
    let fits : count ≤ 450 = pages_few number few in
    omega (
      arith,
      ap length (flat_map-append block_text (front count) (pages (code number))),
      length-append (flat_map block_text (front count)) (flat_map block_text (pages (code number))),
      front_long count,
      pages_long (code number) fits,
      length-pages (code number),
      fits,
    )

blocks_few : (number : ℕ) → number ≤ 200 → length (front (page_count (code number)) ++ pages (code number)) ≤ 455
blocks_few number few =
    let count = page_count (code number) in
    omega (arith, length-append (front count) (pages (code number)), length-front count, length-pages (code number), pages_few number few)

-- the image of each drill is valid
pub valid_drill : (number : ℕ) → number ≤ 200 → IsValid (drill_image number)
unfolding drill_image
valid_drill number few =
    let count = page_count (code number) in
    let fits : count ≤ 450 = pages_few number few in
    let blocks = front count ++ pages (code number) in
    let counted = blocks_few number few in
    let long = blocks_long number few in
    let sized = length-prefix_text head blocks head_is in
    let good : IsGoodPrefix head blocks = record {
      head = head_is;
      blocks = all-append IsGood (front count) (pages (code number)) (front_good count fits) (pages_good (code number) fits);
      count = omega arith;
      size = omega arith;
    } in
    valid_image head blocks 0 good (lit< tt) (omega arith) (omega arith)

-- the image, from the parts that were made of it
pub drill_parts : (number : ℕ) (counted cut : List ℕ) (count : ℕ) (first blocks : List PlacedBlock) → counted ≡ code number
    → cut ≡ code number → count ≡ page_count counted → first ≡ front count → blocks ≡ first ++ pages cut
    → record { head = head; blocks = blocks; eof_flags = 0 } ≡ drill_image number
unfolding drill_image
drill_parts number counted cut count first blocks is_counted is_cut is_count is_first is =
    let same : count ≡ page_count (code number) = is_count ∙ ap page_count is_counted in
    ap (λ b. record { head = head; blocks = b; eof_flags = 0 }) (is ∙ λ i. (is_first ∙ ap front same) i ++ pages (is_cut i))
