-- Saving the persistent objects in a file, restoring them from one, and restarting (the chapter on function sets, in this project's profile).
use Rattle.std.specs.Prelude.{ℕ, ◌==◌, List, ◌∷◌, [], Result, Ok, Err, if◌then◌else◌}
use Rattle.t3_holder.specs.declared.holder.Holder.{Holder}
use Rattle.t3_holder.specs.FileName.{is_file_name}
use Rattle.t3_pools.specs.Pool.{Pool}
use Rattle.t3_store.specs.Store.{StoreValue}
use Rattle.t3_ops.specs.declared.fault.Fault.{Fault}
use Rattle.t3_ops.specs.declared.fault.Fault.TheVariants.{ArgCount, FileName}
use Rattle.t3_ops.specs.Values.{TextOrList, OfText, OfList, Neither, text_or_list_of, kind_fault}
use Rattle.t3_ops.specs.Making.{when_read}
use Rattle.t3_frame_instructions.specs.Effect.{Effect, Save, Restore, Restart}
use Rattle.t3_frame_instructions.specs.Context.{Context, Action, faults, pops}

-- the indices of saveGame(name), restoreGame(name) and restartGame() in the general set
abbrev pub save_function : ℕ
save_function = 15

abbrev pub restore_function : ℕ
restore_function = 16

abbrev pub restart_function : ℕ
restart_function = 17

-- ---- the name of a file

-- these bytes, where a file may have them as its name
abbrev pub as_file_name : List ℕ → Result (List ℕ) Fault
as_file_name bytes = if is_file_name bytes then Ok bytes else Err FileName

abbrev pub file_name_by : Fault → TextOrList → Result (List ℕ) Fault
file_name_by fault (OfText bytes) = when_read bytes as_file_name
file_name_by fault (OfList _) = Err fault
file_name_by fault Neither = Err fault

-- the name that a value is: the fault of what is no text comes first, then that of a constant, then that of the name
abbrev pub file_name_of : Pool → StoreValue → Holder → Result (List ℕ) Fault
file_name_of constants store value = file_name_by (kind_fault store (value ∷ [])) (text_or_list_of constants store value)

-- ---- the functions

abbrev pub asks_by_name : (List ℕ → Effect) → Result (List ℕ) Fault → Context → Action
asks_by_name effect (Ok name) context = (effect name, context)
asks_by_name effect (Err fault) context = faults fault context

abbrev pub asks_of : (List ℕ → Effect) → Pool → Holder → Context → Action
asks_of effect constants value context = asks_by_name effect (file_name_of constants context.store value) context

-- of the file that the one argument names
abbrev pub asks_of_file : (List ℕ → Effect) → Pool → ℕ → Context → Action
asks_of_file effect constants count context = if count == 1 then pops (asks_of effect constants) context else faults ArgCount context

-- without arguments: the image's objects take their place at once
abbrev pub restarts : ℕ → Context → Action
restarts count context = if count == 0 then (Restart, context) else faults ArgCount context
