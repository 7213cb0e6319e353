-- What stands at the places of a head is the block's payload.
use Rattle.std.proofs.Common.{◌≡◌, ◌≢◌, ℕ, ◌+◌, ◌^◌, ◌<◌, ◌≤◌, List, [], ◌∷◌, ◌++◌, length, take, drop, get_or, refl, sym, ap, ◌∙◌, inl, inr, append_assoc, arith}
use Rattle.std.specs.Prelude.{codes}
use Rattle.std.proofs.lemmas.List.{drop_all, drop_more, append-nil}
use Rattle.t3_holder.specs.NumberText.{little_endian}
use Rattle.t3_blocks.specs.declared.block.Block.{Block}
use Rattle.t3_blocks.specs.declared.block.Block.TheVariants.{Entry, PoolDef, Page}
use Rattle.t3_blocks.specs.declared.kind.BlockKind.{BlockKind}
use Rattle.t3_blocks.specs.declared.kind.BlockKind.TheVariants as kinds
use Rattle.t3_blocks.specs.Spelling.{Spells, IsSpellable, payload_of, masked_bytes}
use Rattle.t3_blocks.specs.Malformed.{IsMalformed}
use Rattle.t3_blocks.proofs.Lists.{next_part, masked_twice}
use Rattle.t3_blocks.proofs.Inversion.{kind_of, layout_of, named}
use Rattle.t3_blocks.proofs.Sizes.{length_entry, length_pool_def, length_page}

-- the number at a place, and the rest
pub at_place : (width at n : ℕ) (xs : List ℕ) → take width (drop at xs) ≡ little_endian width n
    → little_endian width n ++ drop (at + width) xs ≡ drop at xs
at_place width at n xs is = ap (λ t. t ++ drop (at + width) xs) (sym is) ∙ next_part at width xs

pub spells_pool_def : (xs : List ℕ) (pool count size : ℕ) → pool < 2 ^ 16 → count < 2 ^ 32 → size < 2 ^ 32 → length xs ≡ 10
    → take 2 (drop 0 xs) ≡ little_endian 2 pool → take 4 (drop 2 xs) ≡ little_endian 4 count → take 4 (drop 6 xs) ≡ little_endian 4 size
    → Spells (PoolDef pool count size) (codes "CPDF") xs
unfolding payload_of
spells_pool_def xs pool count size fits_pool fits_count fits_size long is_pool is_count is_size = record {
  spellable = (fits_pool, fits_count, fits_size);
  name_is = refl;
  payload_is =
      let last : little_endian 4 size ≡ drop 6 xs = sym (append-nil (little_endian 4 size))
      ∙ ap (λ r. little_endian 4 size ++ r) (sym (drop_all 10 xs (omega arith))) ∙ at_place 4 6 size xs is_size in
      ap (λ r. little_endian 2 pool ++ r) (ap (λ r. little_endian 4 count ++ r) last ∙ at_place 4 2 count xs is_count)
      ∙ at_place 2 0 pool xs is_pool;
}

four : (a b c d tail : List ℕ) → (a ++ (b ++ (c ++ (d ++ [])))) ++ tail ≡ a ++ (b ++ (c ++ (d ++ tail)))
four a b c d tail =
    append_assoc a (b ++ (c ++ (d ++ []))) tail ∙ ap (λ r. a ++ r)
    (append_assoc b (c ++ (d ++ [])) tail ∙ ap (λ r. b ++ r)
    (append_assoc c (d ++ []) tail ∙ ap (λ r. c ++ r) (append_assoc d [] tail)))

pub spells_entry : (xs : List ℕ) (code method exception d0 d1 d2 d3 : ℕ) (tail : List ℕ) → code < 2 ^ 32 → method < 2 ^ 16
    → exception < 2 ^ 16 → d0 < 2 ^ 16 → d1 < 2 ^ 16 → d2 < 2 ^ 16 → d3 < 2 ^ 16
    → take 4 (drop 0 xs) ≡ little_endian 4 code → take 2 (drop 4 xs) ≡ little_endian 2 method
    → take 2 (drop 6 xs) ≡ little_endian 2 exception
    → take 2 (drop 8 xs) ≡ little_endian 2 d0 → take 2 (drop 10 xs) ≡ little_endian 2 d1 → take 2 (drop 12 xs) ≡ little_endian 2 d2
    → take 2 (drop 14 xs) ≡ little_endian 2 d3 → tail ≡ drop 16 xs
    → Spells (Entry code method exception (d0 ∷ d1 ∷ d2 ∷ d3 ∷ []) tail) (codes "ENTP") xs
unfolding payload_of
spells_entry xs code method exception d0 d1 d2 d3 tail f_code f_method f_exception f0 f1 f2 f3 is_code is_method is_exception is0 is1 is2
    is3 is_tail =
    record {
      spellable = (f_code, f_method, f_exception, refl, (f0, (f1, (f2, (f3, tt)))));
      name_is = refl;
      payload_is =
          let e3 : little_endian 2 d3 ++ tail ≡ drop 14 xs = ap (λ r. little_endian 2 d3 ++ r) is_tail ∙ at_place 2 14 d3 xs is3 in
          let e2 : little_endian 2 d2 ++ (little_endian 2 d3 ++ tail) ≡ drop 12 xs =
          ap (λ r. little_endian 2 d2 ++ r) e3 ∙ at_place 2 12 d2 xs is2 in
          let e1 : little_endian 2 d1 ++ (little_endian 2 d2 ++ (little_endian 2 d3 ++ tail)) ≡ drop 10 xs =
          ap (λ r. little_endian 2 d1 ++ r) e2 ∙ at_place 2 10 d1 xs is1 in
          let e0 : little_endian 2 d0 ++ (little_endian 2 d1 ++ (little_endian 2 d2 ++ (little_endian 2 d3 ++ tail))) ≡ drop 8 xs =
          ap (λ r. little_endian 2 d0 ++ r) e1 ∙ at_place 2 8 d0 xs is0 in
          let debug = four (little_endian 2 d0) (little_endian 2 d1) (little_endian 2 d2) (little_endian 2 d3) tail ∙ e0 in
          ap (λ r. little_endian 4 code ++ r)
          (ap (λ r. little_endian 2 method ++ r) (ap (λ r. little_endian 2 exception ++ r) debug ∙ at_place 2 6 exception xs is_exception)
          ∙ at_place 2 4 method xs is_method) ∙ at_place 4 0 code xs is_code;
    }

pub spells_page : (xs : List ℕ) (pool index mask : ℕ) (bytes : List ℕ) → pool < 2 ^ 16 → index < 2 ^ 32 → mask < 256 → 7 ≤ length xs
    → take 2 (drop 0 xs) ≡ little_endian 2 pool → take 4 (drop 2 xs) ≡ little_endian 4 index → mask ≡ get_or xs 6 0
    → bytes ≡ masked_bytes mask (drop 7 xs)
    → Spells (Page pool index mask bytes) (codes "CPPG") xs
unfolding payload_of
spells_page xs pool index mask bytes fits_pool fits_index fits_mask long is_pool is_index is_mask is_bytes = record {
  spellable = (fits_pool, fits_index, fits_mask);
  name_is = refl;
  payload_is =
      let plain : masked_bytes mask bytes ≡ drop 7 xs = ap (masked_bytes mask) is_bytes ∙ masked_twice mask (drop 7 xs) in
      let rest : mask ∷ masked_bytes mask bytes ≡ drop 6 xs = (λ i. is_mask i ∷ plain i) ∙ sym (drop_more xs 6 0 (omega arith)) in
      ap (λ r. little_endian 2 pool ++ r) (ap (λ r. little_endian 4 index ++ r) rest ∙ at_place 4 2 index xs is_index)
      ∙ at_place 2 0 pool xs is_pool;
}

-- ---- payloads of another length spell nothing

other_layout : (block : Block) (name payload : List ℕ) (kind : BlockKind) → Spells block name payload → kind_of name ≡ kind
    → layout_of block ≡ kind
other_layout block name payload kind spells is = sym (named block name spells.spellable spells.name_is) ∙ is

entry_long : (block : Block) (payload : List ℕ) → layout_of block ≡ kinds.Entry → IsSpellable block → payload_of block ≡ payload
    → 16 ≤ length payload
entry_long (Entry code method exception debug tail) payload kind fits is =
    omega (arith, length_entry code method exception debug tail fits.3, ap length is)
entry_long _ payload kind fits is = absurd cc

pool_def_long : (block : Block) (payload : List ℕ) → layout_of block ≡ kinds.PoolDef → payload_of block ≡ payload → length payload ≡ 10
pool_def_long (PoolDef pool count size) payload kind is = omega (arith, length_pool_def pool count size, ap length is)
pool_def_long _ payload kind is = absurd cc

page_long : (block : Block) (payload : List ℕ) → layout_of block ≡ kinds.Page → payload_of block ≡ payload → 7 ≤ length payload
page_long (Page pool index mask bytes) payload kind is = omega (arith, length_page pool index mask bytes, ap length is)
page_long _ payload kind is = absurd cc

pub entry_short : (xs : List ℕ) → length xs < 16 → IsMalformed (codes "ENTP") xs 0
entry_short xs short = inl (
  inl refl,
  refl,
  λ block spells. let long = entry_long block xs
      (other_layout block (codes "ENTP") xs kinds.Entry spells refl) spells.spellable spells.payload_is in absurd (omega arith),
)

pub pool_def_other : (xs : List ℕ) → length xs ≢ 10 → IsMalformed (codes "CPDF") xs 0
pool_def_other xs other = inl (
  inr (inl refl),
  refl,
  λ block spells. other
      (pool_def_long block xs (other_layout block (codes "CPDF") xs kinds.PoolDef spells refl) spells.payload_is),
)

pub page_short : (xs : List ℕ) → length xs < 7 → IsMalformed (codes "CPPG") xs 0
page_short xs short = inl (
  inr (inr refl),
  refl,
  λ block spells. let long =
      page_long block xs (other_layout block (codes "CPPG") xs kinds.Page spells refl) spells.payload_is in absurd (omega arith),
)
