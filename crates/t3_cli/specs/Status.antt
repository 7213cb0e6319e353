-- The exit status under each answer.
use Rattle.std.specs.Prelude.{ℕ, Option, Some, None}
use Rattle.std.specs.declared.io.ErrorKind.{ErrorKind}
use Rattle.std.specs.declared.io.ErrorKind.TheVariants.{OutOfMemory}
use Rattle.t3_cli.specs.declared.status.Status.{Status}
use Rattle.t3_cli.specs.declared.status.Status.TheVariants.{Done, Usage, Absent, ImageRefused, LoadRefused, Unhandled, BadCode, StoreFull, StepLimit, InputLimit, SourceRefused, DepotFault, ConsoleFault, NoMemory}

abbrev pub code_of : Status → ℕ
code_of Done = 0
code_of Usage = 1
code_of Absent = 2
code_of ImageRefused = 3
code_of LoadRefused = 4
code_of Unhandled = 5
code_of BadCode = 6
code_of StoreFull = 7
code_of StepLimit = 8
code_of InputLimit = 9
code_of SourceRefused = 10
code_of DepotFault = 11
code_of ConsoleFault = 12
code_of NoMemory = 13

-- the status where the words couldn't be had for want of memory; any other error is a word that isn't text
abbrev pub words_status : ErrorKind → Option Status
words_status OutOfMemory = Some NoMemory
words_status _ = None
