-- How far the addresses of lines have come.
use Rattle.std.specs.Prelude.{◌≡◌, ℕ, ◌*◌, ◌^◌, ◌<◌, ◌≤◌, ◌⊎◌, List}
use Rattle.std.specs.List.{AllByRecursion}
use Rattle.t3_asm.specs.declared.item.Item.{Item}
use Rattle.t3_asm.specs.declared.refusal.AsmRefusal.{AsmRefusal}
use Rattle.t3_asm.specs.declared.refusal.AsmWhy.{AsmWhy}
use Rattle.t3_asm.specs.declared.refusal.AsmWhy.TheVariants.{NoMemory}
use Rattle.t3_asm.specs.Refusals.{IsAtNone, refusal}

-- a line before this number, at an address that so many lines can reach
pub record IsReached (line : ℕ) (item : Item) : Type 0 where
  pub before : item.line < line
  pub near : item.place.address ≤ item.line * 2 ^ 80

abbrev pub AreReached : ℕ → List Item → Type 0
AreReached line items = AllByRecursion (IsReached line) items

-- want of memory has line 0, and each other refusal its line
pub record Refuses (line : ℕ) (why : AsmWhy) (refused : AsmRefusal) : Type 0 where
  pub why_is : refused.why ≡ why
  pub at_none : IsAtNone refused
  pub at_line : (refused.why ≡ NoMemory) ⊎ (refused ≡ refusal line why)

-- an address that fits with room for what a line adds
abbrev pub IsNear : Item → Type 0
IsNear item = item.place.address ≤ 2 ^ 112

abbrev pub AreNear : List Item → Type 0
AreNear items = AllByRecursion IsNear items
