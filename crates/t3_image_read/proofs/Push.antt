-- One more good block after a good prefix.
use Rattle.std.proofs.Common.{◌≡◌, ◌+◌, ◌<◌, ◌≤◌, List, [], ◌∷◌, ◌++◌, length, sym, ap, arith}
use Rattle.std.proofs.lemmas.List.{length-append, length_push, append-nil, flat_map_more}
use Rattle.t3_blocks.specs.Spelling.{image_limit}
use Rattle.t3_blocks.proofs.Lists.{AllByRecursion-push}
use Rattle.t3_image_read.specs.declared.image.Head.{Head}
use Rattle.t3_image_read.specs.declared.image.PlacedBlock.{PlacedBlock}
use Rattle.t3_image_read.specs.ImageText.{head_text, block_text, prefix_text}
use Rattle.t3_image_read.specs.Validity.{IsHead, IsGood, IsGoodPrefix, header_limit}
use Rattle.t3_image_read.proofs.Heads.{length-head_text}

pub prefix_text-push : (h : Head) (bs : List PlacedBlock) (b : PlacedBlock)
    → prefix_text h (bs ++ b ∷ []) ≡ prefix_text h bs ++ block_text b
unfolding prefix_text
prefix_text-push h bs b = sym (flat_map_more block_text (head_text h) bs b)

pub IsGoodPrefix-push : (h : Head) (bs : List PlacedBlock) (b : PlacedBlock) → IsGoodPrefix h bs → IsGood b → length bs < header_limit
    → length (prefix_text h bs) + length (block_text b) ≤ image_limit → IsGoodPrefix h (bs ++ b ∷ [])
IsGoodPrefix-push h bs b prefix good few near = record {
  head = prefix.head;
  blocks = AllByRecursion-push IsGood bs b prefix.blocks good;
  count = omega (arith, length_push bs b);
  size = omega (arith, ap length (prefix_text-push h bs b), length-append (prefix_text h bs) (block_text b));
}

-- a header alone is a good prefix
pub IsGoodPrefix-head : (h : Head) → IsHead h → IsGoodPrefix h []
unfolding prefix_text
IsGoodPrefix-head h is = record {
  head = is;
  blocks = tt;
  count = omega arith;
  size = omega (arith, ap length (append-nil (head_text h)), length-head_text h is);
}

pub prefix_text-head : (h : Head) → prefix_text h [] ≡ head_text h
unfolding prefix_text
prefix_text-head h = append-nil (head_text h)
