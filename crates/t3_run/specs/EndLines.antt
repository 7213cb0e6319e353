-- What is shown of how a run stopped.
use Rattle.std.specs.Prelude.{ℕ, List, [], ◌∷◌, ◌++◌, codes, Option, Some, None}
use Rattle.std.specs.Fmt.{decimal}
use Rattle.t3_ops.specs.declared.fault.Fault.{Fault}
use Rattle.t3_ops.specs.Faults.{fault_number}
use Rattle.t3_frame_instructions.specs.declared.effect.CodeWhy.{CodeWhy}
use Rattle.t3_frame_instructions.specs.declared.effect.CodeWhy.TheVariants as why
use Rattle.t3_interp.specs.declared.event.End.TheVariants as ends
use Rattle.t3_run.specs.declared.stop.Stop.{Stop}
use Rattle.t3_run.specs.declared.stop.Stop.TheVariants.{Ends, NoStep, NoLine}

-- a line ends in a newline
abbrev pub newline : List ℕ
newline = 10 ∷ []

-- the name of a cause
abbrev pub cause_name : CodeWhy → List ℕ
cause_name why.NoByte = codes "NoByte"
cause_name (why.Opcode opcode) = codes "Opcode"
cause_name why.Operand = codes "Operand"
cause_name why.Header = codes "Header"
cause_name why.Table = codes "Table"
cause_name why.Underflow = codes "Underflow"
cause_name why.Local = codes "Local"
cause_name why.Argument = codes "Argument"

-- the number of the fault by which an object was thrown, and 0 for one that an instruction threw
abbrev pub thrown_number : Option Fault → ℕ
thrown_number None = 0
thrown_number (Some fault) = fault_number fault

-- an object was thrown, and nothing caught it
abbrev pub unhandled_line : ℕ → ℕ → List ℕ
unhandled_line object fault =
    codes "[unhandled object=" ++ (decimal object ++ (codes " fault=" ++ (decimal fault ++ (codes "]" ++ newline))))

-- no instruction could be carried out at an address
abbrev pub bad_code_line : ℕ → List ℕ → List ℕ
bad_code_line at name = codes "[bad code at=" ++ (decimal at ++ (codes " why=" ++ (name ++ (codes "]" ++ newline))))

-- a return shows nothing
abbrev pub end_line : Stop → List ℕ
end_line (Ends ends.Returned) = []
end_line (Ends (ends.Unhandled object fault)) = unhandled_line object (thrown_number fault)
end_line (Ends (ends.BadCode at cause)) = bad_code_line at (cause_name cause)
end_line (Ends ends.StoreFull) = codes "[store full]" ++ newline
end_line NoStep = codes "[step limit]" ++ newline
end_line NoLine = codes "[input limit]" ++ newline
