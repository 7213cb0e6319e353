-- An image that was written anew as it was read.
use Rattle.std.proofs.Common.{◌≡◌, ◌≤◌, ℕ, List, [], ◌∷◌, ◌++◌, length, map, drop, Option, Some, None, Result, Ok, Err, IfOk, refl, sym, ap, ◌∙◌}
use Rattle.std.specs.List.{flat_map}
use Rattle.t3_blocks.specs.Inner.Appending.{Appends}
use Rattle.std.proofs.lemmas.List.{drop-append-le, flat_map_more, map-append, map-id}
use Rattle.t3_image_read.specs.declared.image.PlacedBlock.{PlacedBlock}
use Rattle.t3_image_read.specs.ImageText.{ImageValue, head_text, header_text, block_text, end_header, text}
use Rattle.t3_image_read.specs.Reader.{AreParts}
use Rattle.t3_image_read.specs.declared.reader.ImageParts.{ImageParts}
use Rattle.t3_image_read.proofs.Heads.{length-head_text}
use Rattle.t3_image_write.specs.Masks.{masked_placed, masked_image}
use Rattle.t3_image_write.specs.Rewriting.{rewritten_blocks, HasRewritten}
use Rattle.t3_image_write.proofs.Parts.{text_is}

-- the masked blocks are those of the masked image
masked_blocks : (mask : Option ℕ) (image : ImageValue) → record image { blocks = map (masked_placed mask) image.blocks }
    ≡ masked_image mask image
masked_blocks None image = λ i. record { head = image.head; blocks = map-id image.blocks i; eof_flags = image.eof_flags }
masked_blocks (Some mask) image = refl

-- one block more
rewritten_push : (mask : Option ℕ) (blocks : List PlacedBlock) (placed : PlacedBlock)
    → rewritten_blocks mask (blocks ++ placed ∷ []) ≡ rewritten_blocks mask blocks ++ block_text (masked_placed mask placed)
rewritten_push mask blocks placed =
    ap (flat_map block_text) (map-append (masked_placed mask) blocks (placed ∷ []))
    ∙ sym (flat_map_more block_text [] (map (masked_placed mask) blocks) (masked_placed mask placed))

-- a block was taken, or there was no memory for it
pub rewrites_more : {E : Type 0} (mask under : Option ℕ) (old new written : List ℕ) (blocks : List PlacedBlock)
    (placed masked : PlacedBlock) (answer : Result (Unit {0}) E) → 69 ≤ length old → under ≡ mask → drop 69 old ≡ written → masked ≡ masked_placed under placed
    → Appends old new (block_text masked) answer → HasRewritten mask written blocks
    → IfOk answer (λ _. HasRewritten mask (drop 69 new) (blocks ++ placed ∷ []))
rewrites_more mask under old new written blocks placed masked (Ok done) room same behind is grown has =
    let masks = is ∙ ap (λ m. masked_placed m placed) same in
    ap (drop 69) grown ∙ drop-append-le 69 old (block_text masked) room
    ∙ (λ i. (behind ∙ has) i ++ block_text (masks i)) ∙ sym (rewritten_push mask blocks placed)
rewrites_more mask under old new written blocks placed masked (Err refusal) room same behind is grown has = tt

module _ (mask : Option ℕ) (image : ImageValue) (parts : ImageParts (List ℕ)) (head out : List ℕ)
    (are : AreParts (HasRewritten mask) image parts) (is : head ≡ [] ++ head_text parts.head) where
  pub long_head : length head ≡ 69
  long_head = ap length is ∙ ap (λ h. length (head_text h)) are.head ∙ length-head_text image.head are.valid.head

  -- the header, the blocks behind its room, and the end
  pub rewritten_is : (filled whole : List ℕ) → drop 69 out ≡ parts.sink → filled ≡ head ++ drop (length head) out
      → whole ≡ filled ++ header_text (end_header parts.eof_flags) → whole ≡ text (masked_image mask image)
  rewritten_is filled whole behind at_filled at_whole =
      let blocks : drop (length head) out ≡ rewritten_blocks mask image.blocks =
      ap (λ n. drop n out) long_head ∙ behind ∙ are.taken in
      text_is (record image { blocks = map (masked_placed mask) image.blocks }) head filled whole
      (is ∙ ap (λ h. [] ++ head_text h) are.head)
      (at_filled ∙ ap (λ b. head ++ b) blocks) (at_whole ∙ ap (λ flags. filled ++ header_text (end_header flags)) are.eof_flags)
      ∙ ap text (masked_blocks mask image)
