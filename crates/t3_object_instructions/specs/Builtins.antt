-- What the built-in functions do (the chapter on function sets, in this project's profile).
use Rattle.std.specs.Prelude.{ℕ, ◌==◌, List, drop, Option, Some, None, Result, Ok, Err, if◌then◌else◌}
use Rattle.std.specs.List.{slice_get}
use Rattle.t3_holder.specs.declared.holder.Holder.TheVariants.{Nil}
use Rattle.t3_load.specs.Loading.{ProgramValue}
use Rattle.t3_load.specs.declared.sets.SetKind.{SetKind}
use Rattle.t3_load.specs.declared.sets.SetKind.TheVariants.{Gen, Io, Vm}
use Rattle.t3_pools.specs.Pool.{Pool}
use Rattle.t3_ops.specs.declared.fault.Fault.{Fault}
use Rattle.t3_ops.specs.declared.fault.Fault.TheVariants.{ArgCount, NoBuiltin}
use Rattle.t3_ops.specs.declared.builtins.PureBuiltin.{PureBuiltin}
use Rattle.t3_ops.specs.Builtins.{pure_at, pure_builtin_of}
use Rattle.t3_ops.specs.Saying.{said_text_of}
use Rattle.t3_frame_instructions.specs.Effect.{Say, WantLine, Save, Restore}
use Rattle.t3_frame_instructions.specs.Context.{Context, Action, leaving, faults, answers, pops}
use Rattle.t3_frame_instructions.specs.Making.{makes}
use Rattle.t3_object_instructions.specs.Creating.{arguments}
use Rattle.t3_object_instructions.specs.Evaluating.{unless_argued}
use Rattle.t3_object_instructions.specs.Savepoints.{savepoint_function, undo_function, saves, undoes}
use Rattle.t3_object_instructions.specs.SavedStates.{save_function, restore_function, restart_function, asks_of_file, restarts}
use Rattle.t3_object_instructions.specs.Saying.{sets_say}

-- ---- saying one or more values, the topmost first

abbrev pub says_text : ℕ → Result (List ℕ) Fault → Context → Action
says_text count (Err fault) context = faults fault context
says_text count (Ok text) context = (Say text, record (leaving (drop count context.frame.operands) context) { register = Nil })

abbrev pub says : Pool → ℕ → Context → Action
says constants count context =
    if count == 0 then faults ArgCount context else says_text count (said_text_of constants context.store (arguments count context)) context

-- ---- taking a line of input

-- without arguments: the instruction waits for the line
abbrev pub takes_line : ℕ → Context → Action
takes_line count context = if count == 0 then (WantLine, context) else faults ArgCount context

-- ---- functions by their index in their set

-- the set for input and output: 0 says values, 4 takes a line
abbrev pub io_action : Pool → (index count : ℕ) → Context → Action
io_action constants index count context =
    if index == 0 then says constants count context else (if index == 4 then takes_line count context else faults NoBuiltin context)

-- saved states: 15 saves one, 16 restores one, 17 restarts
abbrev pub state_action : Pool → (index count : ℕ) → Context → Action
state_action constants index count context =
    if index == save_function then asks_of_file Save constants count context
    else (if index == restore_function then asks_of_file Restore constants count context
    else (if index == restart_function then restarts count context else faults NoBuiltin context))

-- the general set besides what makes one object at most: savepoints, and saved states
abbrev pub savepoint_action : Pool → (index count : ℕ) → Context → Action
savepoint_action constants index count context =
    if index == savepoint_function then unless_argued count (saves context) context
    else (if index == undo_function then unless_argued count (undoes context) context else state_action constants index count context)

-- the general set: those that make one object at most, and the others
abbrev pub gen_by : Pool → Option PureBuiltin → (index count : ℕ) → Context → Action
gen_by constants (Some builtin) index count context =
    makes (pure_builtin_of constants context.store index (arguments count context)) (λ value context. answers value count context) context
gen_by constants None index count context = savepoint_action constants index count context

-- one argument: by which function values are said
abbrev pub takes_say : ℕ → Context → Action
takes_say count context = if count == 1 then pops sets_say context else faults ArgCount context

-- the machine's own set: 1 sets by which function values are said
abbrev pub vm_action : (index count : ℕ) → Context → Action
vm_action index count context = if index == 1 then takes_say count context else faults NoBuiltin context

-- a function of a set, or of what is none
abbrev pub set_action : Pool → Option SetKind → (index count : ℕ) → Context → Action
set_action constants None index count context = faults NoBuiltin context
set_action constants (Some Io) index count context = io_action constants index count context
set_action constants (Some Gen) index count context = gen_by constants (pure_at index) index count context
set_action constants (Some Vm) index count context = vm_action index count context

-- a function of a set by its index in the image's table of sets
abbrev pub builtin_action : ProgramValue → (set index count : ℕ) → Context → Action
builtin_action program set index count context =
    set_action program.pools.constants (slice_get program.sets set) index count context
