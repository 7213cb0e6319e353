-- What stands before the first slash; and how many names a good block has.
use Rattle.std.proofs.Common.{◌≡◌, ℕ, ◌≤◌, Bool, true, false, cond, List, Some, None, length, take, refl, sym, ap, arith, ltb-false}
use Rattle.std.proofs.lemmas.List.{take_all}
use Rattle.std.specs.Prelude.{nat_lt}
use Rattle.std.specs.List.{position, position_or_len, before_first}
use Rattle.t3_blocks.specs.declared.block.Block.{Block}
use Rattle.t3_blocks.specs.declared.block.Block.TheVariants.{Metas, Functions}
use Rattle.t3_blocks.specs.Spelling.{IsSpellable}
use Rattle.t3_image_read.specs.declared.image.PlacedBlock.{PlacedBlock}
use Rattle.t3_image_read.specs.Validity.{IsGood}
use Rattle.t3_load.specs.Names.{metas_of, names_of}

pub before_found : {X : Type 0} (p : X → Bool) (xs : List X) (end : ℕ) → position p xs ≡ Some end → take end xs ≡ before_first p xs
before_found p xs end e = ap (λ n. take n xs) (found (nat_lt (position_or_len p xs) (length xs)) (position_or_len p xs) e)
  where
    found : (b : Bool) (n : ℕ) → cond b (Some n) None ≡ Some end → end ≡ n
    found true n e = cc
    found false n e = absurd cc

pub before_none : {X : Type 0} (p : X → Bool) (xs : List X) → position p xs ≡ None → xs ≡ before_first p xs
before_none p xs e = sym (take_all (position_or_len p xs) xs (far (nat_lt (position_or_len p xs) (length xs)) refl e))
  where
    far : (b : Bool) → nat_lt (position_or_len p xs) (length xs) ≡ b → cond b (Some (position_or_len p xs)) None ≡ None
        → length xs ≤ position_or_len p xs
    far true is e = absurd cc
    far false is e = omega (arith, ltb-false (position_or_len p xs) (length xs) is)

few_metas : (block : Block) → IsSpellable block → length (metas_of block) ≤ 65535
few_metas (Metas metas) s = omega (arith, s.0)
few_metas block s = omega arith

few_names : (block : Block) → IsSpellable block → length (names_of block) ≤ 65535
few_names (Functions names) s = omega (arith, s.0)
few_names block s = omega arith

pub few_metas_of : (placed : PlacedBlock) → IsGood placed → length (metas_of placed.block) ≤ 65535
few_metas_of placed good = few_metas placed.block good.spellable

pub few_names_of : (placed : PlacedBlock) → IsGood placed → length (names_of placed.block) ≤ 65535
few_names_of placed good = few_names placed.block good.spellable
