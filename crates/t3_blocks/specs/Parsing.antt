-- What a payload gives under a name that isn't the end's.
use Rattle.std.specs.Prelude.{◌≡◌, ℕ, ◌⊎◌, List, Result, Ok, Err}
use Rattle.t3_blocks.specs.declared.block.Block.{Block}
use Rattle.t3_blocks.specs.declared.refusal.BlockRefusal.{BlockRefusal}
use Rattle.t3_blocks.specs.declared.refusal.BlockRefusal.TheVariants as blocks
use Rattle.t3_blocks.specs.declared.refusal.PayloadRefusal.{PayloadRefusal}
use Rattle.t3_blocks.specs.declared.refusal.PayloadRefusal.TheVariants.{Malformed, NoMemory}
use Rattle.t3_blocks.specs.Spelling.{Spells}
use Rattle.t3_blocks.specs.Malformed.{IsMalformed}

-- the block that the payload spells, or after how many items it is malformed; want of memory says nothing of it
abbrev pub Gives : List ℕ → List ℕ → Result Block PayloadRefusal → Type 0
Gives name payload (Ok block) = Spells block name payload
Gives name payload (Err (Malformed items)) = IsMalformed name payload items
Gives name payload (Err NoMemory) = Unit {0}

-- the same refusal of a call that looks at the flags too
abbrev pub refusal_of : PayloadRefusal → BlockRefusal
refusal_of (Malformed items) = blocks.Malformed items
refusal_of NoMemory = blocks.NoMemory

-- the same answer of such a call
abbrev pub answer_of : Result Block PayloadRefusal → Result Block BlockRefusal
answer_of (Ok block) = Ok block
answer_of (Err refusal) = Err (refusal_of refusal)

-- and want of memory aside, a payload that spells a block gives it, and one that is malformed gives that refusal
pub record GivesEach (name payload : List ℕ) (answer : Result Block PayloadRefusal) : Type 0 where
  pub block : (block : Block) → Spells block name payload
      → (answer ≡ Ok block) ⊎ (answer ≡ Err NoMemory)
  pub malformed : (items : ℕ) → IsMalformed name payload items
      → (answer ≡ Err (Malformed items)) ⊎ (answer ≡ Err NoMemory)
