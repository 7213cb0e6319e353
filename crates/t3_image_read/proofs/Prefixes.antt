-- A stream has one good prefix after which no good block comes.
use Rattle.std.proofs.Common.{◌≡◌, ℕ, suc, ◌+◌, ◌^◌, ◌<◌, ◌≤◌, List, [], ◌∷◌, ◌++◌, length, refl, sym, ap, subst, ◌∙◌, append_assoc, arith}
use Rattle.std.specs.List.{flat_map, AllByRecursion}
use Rattle.std.proofs.lemmas.List.{length-append}
use Rattle.t3_blocks.specs.Spelling.{image_limit}
use Rattle.t3_image_read.specs.declared.image.PlacedBlock.{PlacedBlock}
use Rattle.t3_image_read.specs.declared.refusal.ReadWhy.{ReadWhy}
use Rattle.t3_image_read.specs.ImageText.{header_text, block_text, end_header}
use Rattle.t3_image_read.specs.Validity.{IsGood, header_limit}
use Rattle.t3_image_read.specs.Refusal.{BlockBreaks}
use Rattle.t3_image_read.proofs.Blocks.{block_same, good_unbroken, end_no_block}

-- no good block within the limits begins here
abbrev pub Stops : ℕ → ℕ → List ℕ → Type 0
Stops count place rest = (placed : PlacedBlock) (y : List ℕ) → IsGood placed → count < header_limit
    → place + length (block_text placed) ≤ image_limit → rest ≡ block_text placed ++ y → ⊥

pub Stops-broken : (count place : ℕ) (rest : List ℕ) (why : ReadWhy) → BlockBreaks count place rest why → Stops count place rest
Stops-broken count place rest why broken placed y good few near e =
    good_unbroken count place placed y good few near why (subst (λ r. BlockBreaks count place r why) e broken)

pub Stops-end : (count place flags : ℕ) (x : List ℕ) → flags < 2 ^ 16 → Stops count place (header_text (end_header flags) ++ x)
Stops-end count place flags x fits placed y good few near e = end_no_block flags placed x y fits good e

-- the places after a first block
length-flat_map : (b : PlacedBlock) (bs : List PlacedBlock)
    → length (flat_map block_text (b ∷ bs)) ≡ length (block_text b) + length (flat_map block_text bs)
length-flat_map b bs = length-append (block_text b) (flat_map block_text bs)

shift : (count place : ℕ) (b : PlacedBlock) (bs : List PlacedBlock) (x : List ℕ)
    → Stops (count + length (b ∷ bs)) (place + length (flat_map block_text (b ∷ bs))) x
    → Stops (suc count + length bs) (place + length (block_text b) + length (flat_map block_text bs)) x
shift count place b bs x stops placed y good few near e =
    stops placed y good (omega arith) (omega (arith, length-flat_map b bs)) e

-- two ways to begin with good blocks, after which no further one comes, are one
pub same_blocks : (count place : ℕ) (bs cs : List PlacedBlock) (x y : List ℕ) → AllByRecursion IsGood bs → AllByRecursion IsGood cs
    → count + length bs ≤ header_limit → count + length cs ≤ header_limit
    → place + length (flat_map block_text bs) ≤ image_limit → place + length (flat_map block_text cs) ≤ image_limit
    → Stops (count + length bs) (place + length (flat_map block_text bs)) x
    → Stops (count + length cs) (place + length (flat_map block_text cs)) y
    → flat_map block_text bs ++ x ≡ flat_map block_text cs ++ y → (bs ≡ cs) × (x ≡ y)
same_blocks count place [] [] x y good_b good_c few_b few_c near_b near_c stop_b stop_c e = (refl, e)
same_blocks count place [] (c ∷ cs) x y good_b good_c few_b few_c near_b near_c stop_b stop_c e =
    absurd (stop_b c (flat_map block_text cs ++ y) good_c.0 (omega arith) (omega (arith, length-flat_map c cs))
    (e ∙ append_assoc (block_text c) (flat_map block_text cs) y))
same_blocks count place (b ∷ bs) [] x y good_b good_c few_b few_c near_b near_c stop_b stop_c e =
    absurd (stop_c b (flat_map block_text bs ++ x) good_b.0 (omega arith) (omega (arith, length-flat_map b bs))
    (sym e ∙ append_assoc (block_text b) (flat_map block_text bs) x))
same_blocks count place (b ∷ bs) (c ∷ cs) x y good_b good_c few_b few_c near_b near_c stop_b stop_c e =
    let first = block_same b c _ _ good_b.0 good_c.0
    (sym (append_assoc (block_text b) (flat_map block_text bs) x) ∙ e ∙ append_assoc (block_text c) (flat_map block_text cs) y) in
    let long : length (block_text b) ≡ length (block_text c) = ap (λ p. length (block_text p)) first.0 in
    let at_c : Stops (suc count + length cs) (place + length (block_text b) + length (flat_map block_text cs)) y =
    rw long (shift count place c cs y stop_c) in
    let rest = same_blocks (suc count) (place + length (block_text b)) bs cs x y good_b.1 good_c.1 (omega arith) (omega arith)
    (omega (arith, length-flat_map b bs)) (omega (arith, length-flat_map c cs)) (shift count place b bs x stop_b) at_c first.1 in
    ((λ i. first.0 i ∷ rest.0 i), rest.1)
