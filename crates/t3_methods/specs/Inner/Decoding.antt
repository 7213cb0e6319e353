-- What a window tells of the instruction at its front.
use Rattle.std.specs.Prelude.{ℕ, Result, Err}
use Rattle.t3_pools.specs.Pool.{Pool}
use Rattle.t3_methods.specs.declared.instr.Instr.{Instr}
use Rattle.t3_methods.specs.declared.refusal.CodeRefusal.{CodeRefusal}
use Rattle.t3_methods.specs.declared.refusal.CodeRefusal.TheVariants as refusals
use Rattle.t3_methods.specs.declared.window.Window.{Window}
use Rattle.t3_methods.specs.Answers.{FindsInstr}
use Rattle.t3_methods.specs.Inner.Window.{IsWhole}

-- the instruction at the window's front, or why none stands there; that operands are missing is told by a whole window alone
abbrev pub FindsInWindow : Pool → Window → Result (Instr × ℕ) CodeRefusal → Type 0
FindsInWindow code window (Err refusals.Operand) = IsWhole code window.address window.bytes.now → FindsInstr code window.address (Err refusals.Operand)
FindsInWindow code window found = FindsInstr code window.address found
