-- Why a source is refused at a line.
use Rattle.std.specs.Prelude.{◌≡◌, ℕ, ◌⊎◌, Result, Ok, Err}
use Rattle.t3_asm_line.specs.declared.refusal.LineRefusal.{LineRefusal}
use Rattle.t3_asm_line.specs.declared.refusal.LineRefusal.TheVariants as lines
use Rattle.t3_asm.specs.declared.refusal.AsmRefusal.{AsmRefusal}
use Rattle.t3_asm.specs.declared.refusal.AsmWhy.{AsmWhy}
use Rattle.t3_asm.specs.declared.refusal.AsmWhy.TheVariants as whys

-- the rule that a line breaks by itself
abbrev pub line_why : LineRefusal → AsmWhy
line_why lines.Word = whys.Word
line_why lines.Number = whys.Number
line_why lines.Range = whys.Range
line_why lines.NoMemory = whys.NoMemory

abbrev pub refusal : ℕ → AsmWhy → AsmRefusal
refusal line why = record { line = line; why = why }

-- an answer is the one that is due, and want of memory says nothing of it
abbrev pub Gives : {A : Type 0} → Result A AsmRefusal → Result A AsmRefusal → Type 0
Gives (Ok answer) due = due ≡ Ok answer
Gives (Err refused) due = (refused.why ≡ whys.NoMemory) ⊎ (due ≡ Err refused)

-- for want of memory the line is 0
abbrev pub IsAtNone : AsmRefusal → Type 0
IsAtNone refused = refused.why ≡ whys.NoMemory → refused.line ≡ 0

-- a refusal by a rule is the one that is due
abbrev pub Fails : {A : Type 0} → AsmWhy → Result A AsmWhy → Type 0
Fails whys.NoMemory due = Unit {0}
Fails why due = due ≡ Err why

abbrev pub GivesBy : {A : Type 0} → Result A AsmWhy → Result A AsmWhy → Type 0
GivesBy (Ok answer) due = due ≡ Ok answer
GivesBy (Err why) due = Fails why due
