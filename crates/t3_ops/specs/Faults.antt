-- The numbers of the faults (the chapter on run-time errors; the numbers are those of this project's profile).
use Rattle.std.specs.Prelude.{ℕ}
use Rattle.t3_ops.specs.declared.fault.Fault.{Fault}
use Rattle.t3_ops.specs.declared.fault.Fault.TheVariants as faults

-- the number of a fault
abbrev pub fault_number : Fault → ℕ
fault_number faults.NotObject = 1
fault_number faults.ArgCount = 2
fault_number faults.Kind = 3
fault_number faults.DivideByZero = 4
fault_number faults.Overflow = 5
fault_number faults.IndexRange = 6
fault_number faults.NoMethod = 7
fault_number faults.NoBuiltin = 8
fault_number faults.StackFull = 9
fault_number faults.TextLong = 10
fault_number faults.ListLong = 11
fault_number faults.NoSay = 12
fault_number faults.CompareLong = 13
fault_number faults.KeyKind = 14
fault_number faults.CannotSet = 15
fault_number faults.CannotMake = 16
fault_number faults.FileName = 17
fault_number faults.NoSnapshot = 18
fault_number faults.BadSnapshot = 19
fault_number faults.Stale = 20
fault_number faults.BadConstant = 21
fault_number faults.TransientSuper = 22
