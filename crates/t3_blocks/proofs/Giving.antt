-- What a payload gives under a name, in both directions.
use Rattle.std.proofs.Common.{◌≡◌, ℕ, Bool, true, false, List, length, Result, Ok, Err, refl, ap, ◌⊎◌, inl, inr, rules}
use Rattle.std.specs.Prelude.{IsTrue, IfOk}
use Rattle.t3_blocks.specs.BlockName.{IsPlain, is_known, is_unknown_mandatory}
use Rattle.t3_blocks.specs.declared.block.Block.{Block}
use Rattle.t3_blocks.specs.declared.block.Block.TheVariants.{Opaque}
use Rattle.t3_blocks.specs.declared.refusal.BlockRefusal.TheVariants as blocks
use Rattle.t3_blocks.specs.declared.refusal.PayloadRefusal.{PayloadRefusal}
use Rattle.t3_blocks.specs.declared.refusal.PayloadRefusal.TheVariants.{Malformed, NoMemory}
use Rattle.t3_blocks.specs.Spelling.{Spells, payload_of}
use Rattle.t3_blocks.specs.Malformed.{IsMalformed}
use Rattle.t3_blocks.specs.Parsing.{Gives, GivesEach, answer_of}
use Rattle.t3_blocks.proofs.BlockNames.{known_not_refused}
use Rattle.t3_blocks.proofs.Laws.{same_block, not_both, one_count}

pub gives_each : (name payload : List ℕ) (answer : Result Block PayloadRefusal) → Gives name payload answer → GivesEach name payload answer
gives_each name payload (Ok own) spells = record {
  block = λ block other. inl (ap Ok (same_block own block name payload spells other));
  malformed = λ items broken. absurd (not_both own name payload items spells broken);
}
gives_each name payload (Err (Malformed count)) broken = record {
  block = λ block spells. absurd (not_both block name payload count spells broken);
  malformed = λ items other. inl (ap (λ n. Err (Malformed n)) (one_count name payload count items broken other));
}
gives_each name payload (Err NoMemory) nothing = record { block = λ block spells. inr refl; malformed = λ items broken. inr refl }

-- any bytes under a plain name are a block
pub spells_opaque : (name payload : List ℕ) → length name ≡ 4 → IsPlain name → Spells (Opaque name payload) name payload
unfolding payload_of
spells_opaque name payload four plain = record { spellable = (four, plain); name_is = refl; payload_is = refl }

-- ---- the answers of a call that looks at the flags too

pub is_true : (b : Bool) → true ≡ b → IsTrue b
is_true true e = search rules
is_true false e = absurd cc

pub not_true : (b : Bool) → false ≡ b → IsTrue b → ⊥
not_true true e holds = absurd cc
not_true false e holds = absurd cc

-- what is malformed has a name that means something
malformed_known : (name payload : List ℕ) (items : ℕ) → IsMalformed name payload items → is_known name ≡ true
malformed_known name payload items (inl (inl is, count, none)) = ap is_known is
malformed_known name payload items (inl (inr (inl is), count, none)) = ap is_known is
malformed_known name payload items (inl (inr (inr is), count, none)) = ap is_known is
malformed_known name payload items (inr (inl (is, breaks))) = ap is_known is
malformed_known name payload items (inr (inr (inl (is, breaks)))) = ap is_known is
malformed_known name payload items (inr (inr (inr (inl (is, breaks))))) = ap is_known is
malformed_known name payload items (inr (inr (inr (inr (is, breaks))))) = ap is_known is

pub malformed_not_refused : (name payload : List ℕ) (flags items : ℕ) → IsMalformed name payload items
    → is_unknown_mandatory name flags ≡ false
malformed_not_refused name payload flags items malformed = known_not_refused name flags (malformed_known name payload items malformed)

module _ (name payload : List ℕ) (flags : ℕ) where
  pub parsed_block : (answer : Result Block PayloadRefusal) → Gives name payload answer
      → IfOk (answer_of answer) (λ block. Spells block name payload)
  parsed_block (Ok block) gives = gives
  parsed_block (Err refusal) gives = tt

  pub not_unknown : (answer : Result Block PayloadRefusal) → answer_of answer ≡ Err blocks.UnknownMandatory → ⊥
  not_unknown (Ok block) is = absurd cc
  not_unknown (Err (Malformed items)) is = absurd cc
  not_unknown (Err NoMemory) is = absurd cc

  pub parsed_malformed : (answer : Result Block PayloadRefusal) → Gives name payload answer → (items : ℕ)
      → answer_of answer ≡ Err (blocks.Malformed items) → IsMalformed name payload items
  parsed_malformed (Ok block) gives items is = absurd cc
  parsed_malformed (Err (Malformed count)) gives items is = let same : count ≡ items = cc in rw (← same) gives
  parsed_malformed (Err NoMemory) gives items is = absurd cc

  pub parsed_gives : (answer : Result Block PayloadRefusal) → Gives name payload answer → (block : Block) → Spells block name payload
      → (answer_of answer ≡ Ok block) ⊎ (answer_of answer ≡ Err blocks.NoMemory)
  parsed_gives answer gives block spells =
      elim ((gives_each name payload answer gives).block block spells) [ inl is ↦ inl (ap answer_of is) | inr is ↦ inr (ap answer_of is) ]

  pub parsed_refuses : (answer : Result Block PayloadRefusal) → Gives name payload answer → (items : ℕ) → IsMalformed name payload items
      → (answer_of answer ≡ Err (blocks.Malformed items)) ⊎ (answer_of answer ≡ Err blocks.NoMemory)
  parsed_refuses answer gives items broken = elim
      ((gives_each name payload answer gives).malformed items broken) [ inl is ↦ inl (ap answer_of is) | inr is ↦ inr (ap answer_of is) ]
