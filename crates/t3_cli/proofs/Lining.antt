-- The lines of blocks, appended one after the other.
use Rattle.std.proofs.Common.{◌≡◌, ℕ, ◌+◌, ◌<◌, ◌≤◌, List, [], ◌∷◌, ◌++◌, length, take, drop, get_or, Result, Ok, Err, IfOk, sym, ap, ◌∙◌, append_assoc, arith}
use Rattle.std.specs.List.{flat_map}
use Rattle.std.proofs.lemmas.List.{append-nil, length-append, take_more, drop_all, drop_more}
use Rattle.std.proofs.lemmas.Grind.{flat_map-append}
use Rattle.std.proofs.lemmas.List.Folds.{length-flat_map-take}
use Rattle.t3_image_read.specs.declared.image.Head.{Head}
use Rattle.t3_image_read.specs.declared.image.PlacedBlock.{PlacedBlock}
use Rattle.t3_image_read.specs.ImageText.{ImageValue, head_text, block_text, prefix_text}
use Rattle.t3_image_read.specs.Validity.{IsValid}
use Rattle.t3_image_read.proofs.Heads.{length-head_text}
use Rattle.t3_image_write.proofs.Parts.{length-text}
use Rattle.t3_blocks.specs.Spelling.{image_limit}
use Rattle.t3_cli.specs.BlockLines.{block_line, block_lines, end_line_at, check_text, show_text}

-- two texts after others
pub appends_two : {T E : Type 0} (old mid new a b : List ℕ) (answer : Result T E) → mid ≡ old ++ a → IfOk answer (λ _. new ≡ mid ++ b)
    → IfOk answer (λ _. new ≡ old ++ (a ++ b))
appends_two old mid new a b (Ok done) first second = second ∙ ap (λ t. t ++ b) first ∙ append_assoc old a b
appends_two old mid new a b (Err error) first second = tt

front_size : (head : Head) (blocks : List PlacedBlock)
    → length (prefix_text head blocks) ≡ length (head_text head) + length (flat_map block_text blocks)
unfolding prefix_text
front_size head blocks = length-append (head_text head) (flat_map block_text blocks)

-- the lines of so many blocks are there, and the rest stands after the place
pub record AreLinedUpTo (first place index : ℕ) (blocks : List PlacedBlock) (old now : List ℕ) : Type 0 where
  pub place_is : place ≡ first + length (flat_map block_text (take index blocks))
  pub lines : (head : Head) → length (head_text head) ≡ first
      → now ++ block_lines head (take index blocks) (drop index blocks) ≡ old ++ block_lines head [] blocks

-- one block more
pub lined_more : (first place index size : ℕ) (blocks : List PlacedBlock) (old now new : List ℕ) (placed : PlacedBlock)
    → AreLinedUpTo first place index blocks old now → index < length blocks → placed ≡ get_or blocks index placed
    → new ≡ now ++ block_line place placed → size ≡ length (block_text placed)
    → AreLinedUpTo first (place + size) (index + 1) blocks old new
unfolding block_lines
lined_more first place index size blocks old now new placed so_far less is line sized =
    let same : length (block_text placed) ≡ length (block_text (get_or blocks index placed)) = ap (λ p. length (block_text p)) is in
    let rest = drop (index + 1) blocks in
    let next : drop index blocks ≡ placed ∷ rest = drop_more blocks index placed less ∙ ap (λ p. p ∷ rest) (sym is) in
    let longer = ap (λ ys. length (flat_map block_text ys)) (take_more blocks index placed less) in
    let apart = ap length (flat_map-append block_text (take index blocks) (get_or blocks index placed ∷ [])) in
    let front = take index blocks in
    let more : take (index + 1) blocks ≡ front ++ placed ∷ [] = take_more blocks index placed less ∙ ap (λ p. front ++ p ∷ []) (sym is) in
    record {
      place_is =
          omega (arith, so_far.place_is, sized, same, longer, apart, length-append (flat_map block_text front) (block_text (get_or blocks index placed) ++ []), length-append (block_text (get_or blocks index placed)) []);
      lines = λ head starts.
          let stands : place ≡ length (prefix_text head front) = omega (arith, so_far.place_is, starts, front_size head front) in
          (λ i. line i ++ block_lines head (more i) rest)
          ∙ (λ i. (now ++ block_line (stands i) placed) ++ block_lines head (front ++ placed ∷ []) rest)
          ∙ append_assoc now (block_line (length (prefix_text head front)) placed) (block_lines head (front ++ placed ∷ []) rest)
          ∙ ap (λ ps. now ++ block_lines head front ps) (sym next)
          ∙ so_far.lines head starts;
    }

-- the place after a block is within the whole
pub place_within : (first place index size limit : ℕ) (blocks : List PlacedBlock) (old now : List ℕ) (placed : PlacedBlock)
    → AreLinedUpTo first place index blocks old now → index < length blocks → placed ≡ get_or blocks index placed
    → size ≡ length (block_text placed) → first + length (flat_map block_text blocks) ≤ limit → place + size ≤ limit
place_within first place index size limit blocks old now placed so_far less is sized within =
    let same : length (block_text placed) ≡ length (block_text (get_or blocks index placed)) = ap (λ p. length (block_text p)) is in
    omega (arith, so_far.place_is, sized, same, within, length-flat_map-take block_text blocks index placed less)

-- all of them
pub lined_all : (first place index : ℕ) (blocks : List PlacedBlock) (old now : List ℕ) → AreLinedUpTo first place index blocks old now
    → length blocks ≤ index → (head : Head) → length (head_text head) ≡ first → now ≡ old ++ block_lines head [] blocks
unfolding block_lines
lined_all first place index blocks old now so_far all head starts =
    sym (append-nil now) ∙ ap (λ ps. now ++ block_lines head (take index blocks) ps) (sym (drop_all index blocks all)) ∙ so_far.lines head starts

-- the lines of all blocks, that of the end, and that of the whole
pub image_lined : (image : ImageValue) (end : ℕ) (blocks ended whole all : List ℕ) → IsValid image
    → blocks ≡ [] ++ block_lines image.head [] image.blocks
    → end ≡ 69 + length (flat_map block_text image.blocks) → ended ≡ blocks ++ end_line_at end image.eof_flags → whole ≡ check_text image
    → all ≡ ended ++ whole → all ≡ show_text image
image_lined image end blocks ended whole all valid first place last is joined =
    let place_is : end ≡ length (prefix_text image.head image.blocks) = omega (arith, place, front_size image.head image.blocks, length-head_text image.head valid.head) in
    joined ∙ (λ i. last i ++ is i) ∙ (λ i. (first i ++ end_line_at (place_is i) image.eof_flags) ++ check_text image)

-- the whole is within the limit
pub blocks_within : (image : ImageValue) → IsValid image → 69 + length (flat_map block_text image.blocks) ≤ image_limit
blocks_within image valid = let near = valid.size in omega (arith, length-text image valid)
