-- An image under another mask has the lengths that it had, and stays valid.
use Rattle.std.proofs.Common.{◌≡◌, ℕ, ◌+◌, ◌<◌, ◌≤◌, List, [], ◌∷◌, ◌++◌, length, map, take, drop, get_or, set, refl, sym, ap, subst, ◌∙◌, false, arith}
use Rattle.std.specs.List.{flat_map, AllByRecursion}
use Rattle.std.proofs.lemmas.List.{length-append, length-map, append-nil, take_all, drop_all}
use Rattle.std.proofs.lemmas.List.Edits.{map_over_more}
use Rattle.t3_blocks.specs.BlockName.{is_unknown_mandatory}
use Rattle.t3_blocks.specs.Spelling.{name_of, payload_of, IsSpellable}
use Rattle.t3_blocks.specs.declared.block.Block.{Block}
use Rattle.t3_blocks.specs.declared.block.Block.TheVariants.{Page}
use Rattle.t3_image_read.specs.declared.image.PlacedBlock.{PlacedBlock}
use Rattle.t3_image_read.specs.ImageText.{ImageValue, block_text}
use Rattle.t3_image_read.specs.Validity.{IsGood, IsValid}
use Rattle.t3_image_read.proofs.Blocks.{length-block_text}
use Rattle.t3_blocks.proofs.Sizes.{length_page}
use Rattle.t3_image_write.proofs.Parts.{length-parts}
use Rattle.t3_image_write.specs.Masks.{remask_block_of, remask_placed_of, remask_of}

name_of-remask_of : (mask : ℕ) (block : Block) → name_of (remask_block_of mask block) ≡ name_of block
name_of-remask_of mask (Page pool index own bytes) = refl
name_of-remask_of mask _ = refl

length-remask_of : (mask : ℕ) (block : Block) → length (payload_of (remask_block_of mask block)) ≡ length (payload_of block)
length-remask_of mask (Page pool index own bytes) = omega (arith, length_page pool index mask bytes, length_page pool index own bytes)
length-remask_of mask _ = refl

IsSpellable-remask_of : (mask : ℕ) (block : Block) → mask < 256 → IsSpellable block → IsSpellable (remask_block_of mask block)
IsSpellable-remask_of mask (Page pool index own bytes) fits is = (is.0, is.1, fits)
IsSpellable-remask_of mask _ fits is = is

pub IsGood-remask_of : (mask : ℕ) (placed : PlacedBlock) → mask < 256 → IsGood placed → IsGood (remask_placed_of mask placed)
IsGood-remask_of mask placed fits good = record {
  spellable = IsSpellable-remask_of mask placed.block fits good.spellable;
  size = let small = good.size in omega (arith, length-remask_of mask placed.block);
  flags = good.flags;
  known = subst (λ name. is_unknown_mandatory name placed.flags ≡ false) (sym (name_of-remask_of mask placed.block)) good.known;
}

blocks_good : (mask : ℕ) (blocks : List PlacedBlock) → mask < 256 → AllByRecursion IsGood blocks
    → AllByRecursion IsGood (map (remask_placed_of mask) blocks)
blocks_good mask [] fits good = tt
blocks_good mask (placed ∷ blocks) fits good = (IsGood-remask_of mask placed fits good.0, blocks_good mask blocks fits good.1)

length-block : (mask : ℕ) (placed : PlacedBlock) → mask < 256 → IsGood placed
    → length (block_text (remask_placed_of mask placed)) ≡ length (block_text placed)
length-block mask placed fits good =
    omega (
      arith,
      length-block_text placed good,
      length-block_text (remask_placed_of mask placed) (IsGood-remask_of mask placed fits good),
      length-remask_of mask placed.block,
    )

length-blocks : (mask : ℕ) (blocks : List PlacedBlock) → mask < 256 → AllByRecursion IsGood blocks
    → length (flat_map block_text (map (remask_placed_of mask) blocks)) ≡ length (flat_map block_text blocks)
length-blocks mask [] fits good = refl
length-blocks mask (placed ∷ blocks) fits good =
    let after = map (remask_placed_of mask) blocks in
    omega (
      arith,
      length-append (block_text placed) (flat_map block_text blocks),
      length-append (block_text (remask_placed_of mask placed)) (flat_map block_text after),
      length-block mask placed fits good.0,
      length-blocks mask blocks fits good.1,
    )

pub IsValid-remask_of : (mask : ℕ) (image : ImageValue) → mask < 256 → IsValid image → IsValid (remask_of mask image)
IsValid-remask_of mask image fits valid = record {
  head = valid.head;
  blocks = blocks_good mask image.blocks fits valid.blocks;
  eof_flags = valid.eof_flags;
  count = let few = valid.count in omega (arith, length-map image.blocks (remask_placed_of mask));
  size = let near = valid.size in omega
      (arith, length-parts image, length-parts (remask_of mask image), length-blocks mask image.blocks fits valid.blocks);
}

-- one more block of a list gets the mask
pub remasked_more : (mask : ℕ) (xs ys : List PlacedBlock) (i : ℕ) (x : PlacedBlock) (block : Block) → i < length xs
    → ys ≡ map (remask_placed_of mask) (take i xs) ++ drop i xs
    → x ≡ get_or ys i x → block ≡ remask_block_of mask (get_or ys i x).block
    → set ys i (record { flags = (get_or ys i x).flags; block = block }) ≡ map (remask_placed_of mask) (take (i + 1) xs) ++ drop (i + 1) xs
remasked_more mask xs ys i x block less so_far is masked_is =
    let there : block ≡ remask_block_of mask x.block = masked_is ∙ ap (λ (p : PlacedBlock). remask_block_of mask p.block) (sym is) in
    let flags : (get_or ys i x).flags ≡ x.flags = ap (λ (p : PlacedBlock). p.flags) (sym is) in
    (λ k. set ys i (record { flags = flags k; block = there k })) ∙ map_over_more (remask_placed_of mask) xs ys i x less so_far is

-- and all of them have it
pub remasked_all : (mask : ℕ) (xs ys : List PlacedBlock) (i : ℕ) → length xs ≤ i → ys ≡ map (remask_placed_of mask) (take i xs) ++ drop i xs
    → ys ≡ map (remask_placed_of mask) xs
remasked_all mask xs ys i all is =
    is ∙ (λ k. map (remask_placed_of mask) (take_all i xs all k) ++ drop_all i xs all k) ∙ append-nil (map (remask_placed_of mask) xs)
