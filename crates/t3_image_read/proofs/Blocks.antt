-- A good block is told from its bytes, and breaks no rule; nor does the end. Other crates may use what stands here.
use Rattle.std.proofs.Common.{◌≡◌, ℕ, ◌+◌, ◌^◌, ◌<◌, ◌≤◌, Bool, true, false, ◌&&◌, List, ◌++◌, length, refl, sym, ap, subst, ◌∙◌, inl, inr, append_assoc, arith}
use Rattle.std.specs.Prelude.{IsTrue}
use Rattle.std.proofs.lemmas.List.{length-append}
use Rattle.t3_blocks.specs.declared.block.Block.{Block}
use Rattle.t3_blocks.specs.declared.block.Block.TheVariants.{Entry, PoolDef, Page, Functions, Metas, Objects, Symbols, Opaque}
use Rattle.t3_blocks.specs.BlockName.{is_mandatory, is_unknown_mandatory}
use Rattle.t3_blocks.specs.Spelling.{Spells, IsSpellable, name_of, payload_of, image_limit}
use Rattle.t3_blocks.specs.Malformed.{IsMalformed}
use Rattle.t3_blocks.proofs.Laws.{same_block, not_both, not_end, end_not_malformed}
use Rattle.t3_image_read.specs.declared.header.BlockHeader.{BlockHeader}
use Rattle.t3_image_read.specs.declared.image.PlacedBlock.{PlacedBlock}
use Rattle.t3_image_read.specs.declared.refusal.ReadWhy.{ReadWhy}
use Rattle.t3_image_read.specs.declared.refusal.ReadWhy.TheVariants.{TooLong, TooMany, UnknownMandatory, Malformed, EofSize, Truncated}
use Rattle.t3_image_read.specs.ImageText.{header_text, header_of, block_text, end_header}
use Rattle.t3_image_read.specs.Validity.{IsHeader, IsGood, header_limit}
use Rattle.t3_image_read.specs.Refusal.{StartsWith, IsLoadedEnd, EndsTooLate, BlockBreaks}
use Rattle.t3_image_read.specs.Inner.Faults.{PassesLimit}
use Rattle.t3_blocks.proofs.Lists.{split_same}
use Rattle.t3_image_read.proofs.Headers.{header_same, length-header_text}

-- what the words about one block say
pub spellable_name : (block : Block) → IsSpellable block → length (name_of block) ≡ 4
spellable_name (Entry a b c d e) is = refl
spellable_name (PoolDef a b c) is = refl
spellable_name (Page a b c d) is = refl
spellable_name (Functions a) is = refl
spellable_name (Metas a) is = refl
spellable_name (Objects a b c) is = refl
spellable_name (Symbols a) is = refl
spellable_name (Opaque name bytes) is = is.0

spells_itself : (block : Block) → IsSpellable block → Spells block (name_of block) (payload_of block)
spells_itself block spellable = record { spellable = spellable; name_is = refl; payload_is = refl }

pub IsHeader-header_of : (placed : PlacedBlock) → IsGood placed → IsHeader (header_of placed)
IsHeader-header_of placed good = record {
  name = spellable_name placed.block good.spellable;
  size = good.size;
  flags = good.flags;
}

pub IsHeader-end_header : (flags : ℕ) → flags < 2 ^ 16 → IsHeader (end_header flags)
IsHeader-end_header flags fits = record { name = refl; size = omega arith; flags = fits }

pub block_text-append : (placed : PlacedBlock) (y : List ℕ)
    → block_text placed ++ y ≡ header_text (header_of placed) ++ (payload_of placed.block ++ y)
unfolding block_text
block_text-append placed y = append_assoc (header_text (header_of placed)) (payload_of placed.block) y

pub length-block_text : (placed : PlacedBlock) → IsGood placed → length (block_text placed) ≡ 10 + length (payload_of placed.block)
unfolding block_text
length-block_text placed good =
    let head = length-header_text (header_of placed) (IsHeader-header_of placed good) in
    simp length-append (omega arith)

-- a stream begins with one good block at most
pub block_same : (a b : PlacedBlock) (x y : List ℕ) → IsGood a → IsGood b → block_text a ++ x ≡ block_text b ++ y → (a ≡ b) × (x ≡ y)
block_same a b x y good_a good_b e =
    let heads = header_same (header_of a) (header_of b) _ _ (IsHeader-header_of a good_a) (IsHeader-header_of b good_b)
    (sym (block_text-append a x) ∙ e ∙ block_text-append b y) in
    let long : length (payload_of a.block) ≡ length (payload_of b.block) = ap (λ (h : BlockHeader). h.size) heads.0 in
    let payloads = split_same (payload_of a.block) (payload_of b.block) x y long heads.1 in
    let name : name_of a.block ≡ name_of b.block = ap (λ (h : BlockHeader). h.name) heads.0 in
    let spells_b = spells_itself b.block good_b.spellable in
    let block = same_block a.block b.block (name_of a.block) (payload_of a.block) (spells_itself a.block good_a.spellable)
    (record { spellable = spells_b.spellable; name_is = sym name; payload_is = sym payloads.0 }) in
    let flags : a.flags ≡ b.flags = ap (λ (h : BlockHeader). h.flags) heads.0 in
    ((λ i. record { flags = flags i; block = block i }), payloads.1)

-- the end is no block
pub end_no_block : (flags : ℕ) (placed : PlacedBlock) (x y : List ℕ) → flags < 2 ^ 16 → IsGood placed
    → header_text (end_header flags) ++ x ≡ block_text placed ++ y → ⊥
end_no_block flags placed x y fits good e =
    let heads = header_same (end_header flags) (header_of placed) _ _ (IsHeader-end_header flags fits) (IsHeader-header_of placed good)
    (e ∙ block_text-append placed y) in
    not_end placed.block good.spellable (sym (ap (λ (h : BlockHeader). h.name) heads.0))

-- What stands after a header that is whole breaks a rule only by that header.
only_header : (header other : BlockHeader) (x y : List ℕ) → IsHeader header → StartsWith (header_text header ++ x) other y
    → (header ≡ other) × (x ≡ y)
only_header header other x y fits starts = header_same header other x y fits starts.fits starts.is

known_not : (b : Bool) → b ≡ false → IsTrue b → ⊥
known_not true e h = absurd cc
known_not false e h = absurd cc

-- a whole header within the limits, of a known name, with its whole payload after it, breaks no rule
pub unbroken : (count place : ℕ) (header : BlockHeader) (x : List ℕ) → IsHeader header → (PassesLimit count place header → ⊥)
    → is_unknown_mandatory header.name header.flags ≡ false → header.size ≤ length x
    → ((payload y : List ℕ) (items : ℕ) → x ≡ payload ++ y → length payload ≡ header.size → IsMalformed header.name payload items → ⊥)
    → (why : ReadWhy) → BlockBreaks count place (header_text header ++ x) why → ⊥
unbroken count place header x fits within known whole spelled TooMany (other, y, starts, many) = within (inl many)
unbroken count place header x fits within known whole spelled EofSize (other, y, starts, loaded) =
    let same = only_header header other x y fits starts in
    within (inr (inl (subst (λ h. IsLoadedEnd h) (sym same.0) loaded)))
unbroken count place header x fits within known whole spelled TooLong (other, y, starts, late) =
    let same = only_header header other x y fits starts in
    within (inr (inr (subst (λ h. EndsTooLate place h) (sym same.0) late)))
unbroken count place header x fits within known whole spelled UnknownMandatory (other, y, starts, unknown) =
    let same = only_header header other x y fits starts in
    known_not _ known (subst (λ (h : BlockHeader). IsTrue (is_unknown_mandatory h.name h.flags)) (sym same.0) unknown)
unbroken count place header x fits within known whole spelled (Malformed items) nothing =
    let same = only_header header nothing.header x (nothing.payload ++ nothing.trailing) fits nothing.starts in
    spelled nothing.payload nothing.trailing items same.1 (nothing.whole ∙ sym (ap (λ (h : BlockHeader). h.size) same.0))
    (subst (λ (h : BlockHeader). IsMalformed h.name nothing.payload items) (sym same.0) nothing.malformed)
unbroken count place header x fits within known whole spelled Truncated (inl short) =
    let long = length-header_text header fits in
    absurd (omega (arith, length-append (header_text header) x))
unbroken count place header x fits within known whole spelled Truncated (inr (other, y, starts, short)) =
    let same = only_header header other x y fits starts in
    let size : header.size ≡ other.size = ap (λ (h : BlockHeader). h.size) same.0 in
    let trailing : length x ≡ length y = ap length same.1 in
    absurd (omega arith)
unbroken count place header x fits within known whole spelled _ broken = broken

-- a good block within the limits breaks no rule
pub good_unbroken : (count place : ℕ) (placed : PlacedBlock) (x : List ℕ) → IsGood placed → count < header_limit
    → place + length (block_text placed) ≤ image_limit
    → (why : ReadWhy) → BlockBreaks count place (block_text placed ++ x) why → ⊥
good_unbroken count place placed x good few fits why broken =
    let within : PassesLimit count place (header_of placed) → ⊥ = λ passes. elim passes [
      | inl many ↦ absurd (omega arith)
      | inr more ↦ elim more [
        | inl is_end ↦ not_end placed.block good.spellable is_end.0
        | inr far ↦ absurd (omega (arith, length-block_text placed good))
      ]
    ] in
    let whole : length (payload_of placed.block) ≤ length (payload_of placed.block ++ x) =
    omega (arith, length-append (payload_of placed.block) x) in
    let spelled : (payload y : List ℕ) (items : ℕ) → payload_of placed.block ++ x ≡ payload ++ y
    → length payload ≡ length (payload_of placed.block) → IsMalformed (name_of placed.block) payload items → ⊥ =
    λ payload y items e long malformed.
    let same = split_same (payload_of placed.block) payload x y (sym long) e in
    not_both placed.block (name_of placed.block) payload items
    (record { spellable = good.spellable; name_is = refl; payload_is = same.0 }) malformed in
    unbroken count place (header_of placed) (payload_of placed.block ++ x)
    (IsHeader-header_of placed good) within good.known whole spelled why
    (subst (λ r. BlockBreaks count place r why) (block_text-append placed x) broken)

and_false : (b : Bool) → (b && false) ≡ false
and_false true = refl
and_false false = refl

-- nor does the end
pub end_unbroken : (count place flags : ℕ) (x : List ℕ) → flags < 2 ^ 16 → count < header_limit → place + 10 ≤ image_limit
    → (why : ReadWhy) → BlockBreaks count place (header_text (end_header flags) ++ x) why → ⊥
end_unbroken count place flags x fits few near why broken =
    let within : PassesLimit count place (end_header flags) → ⊥ = λ passes. elim passes [
      | inl many ↦ absurd (omega arith)
      | inr more ↦ elim more [
        | inl sized ↦ absurd (omega (arith, sized.1))
        | inr far ↦ absurd (omega arith)
      ]
    ] in
    unbroken count place (end_header flags) x (IsHeader-end_header flags fits) within (and_false (is_mandatory flags)) (omega arith)
    (λ payload y items e long malformed. end_not_malformed payload items malformed) why broken
