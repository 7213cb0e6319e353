use Rattle.std.proofs.Common.{ℕ, ◌≡◌, ◌≢◌, ◌<◌}
use Rattle.t3_methods.specs.declared.instr.Instr.{Instr}
use Rattle.t3_methods.specs.InstructionTable.{row_of}
use Rattle.t3_methods.proofs.shape.opcode_named.Given as goal

-- no opcode so far has the name
abbrev pub invariant-loop-code : goal.invariant-loop-code
invariant-loop-code l = (opcode : ℕ) → opcode < l.code → (instr : Instr) → (row_of instr).opcode ≡ opcode → (row_of instr).name ≢ l.name
