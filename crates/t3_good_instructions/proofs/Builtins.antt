-- Each built-in function leaves all good.
use Rattle.std.proofs.Common.{ℕ, ◌==◌, ◌<◌, ◌^◌, Bool, true, false, List, drop, Option, Some, None, Result, Ok, Err, if◌then◌else◌}
use Rattle.t3_holder.specs.declared.holder.Holder.{Holder}
use Rattle.t3_holder.specs.declared.holder.Holder.TheVariants as holders
use Rattle.t3_pools.specs.Pool.{Pool}
use Rattle.t3_ops.specs.declared.fault.Fault.{Fault}
use Rattle.t3_ops.specs.declared.fault.Fault.TheVariants as faulty
use Rattle.t3_ops.specs.declared.builtins.PureBuiltin.{PureBuiltin}
use Rattle.t3_ops.specs.Builtins.{pure_at, pure_builtin_of}
use Rattle.t3_ops.specs.Saying.{said_text_of}
use Rattle.t3_load.specs.Loading.{ProgramValue}
use Rattle.t3_load.specs.declared.sets.SetKind.{SetKind}
use Rattle.t3_load.specs.declared.sets.SetKind.TheVariants.{Gen, Io, Vm}
use Rattle.t3_store.specs.Store.{saved, undone, is_held}
use Rattle.t3_frame_instructions.specs.Effect.{Effect, WantLine, Save, Restore, Restart}
use Rattle.t3_frame_instructions.specs.Context.{Context, Action, with_store, faults, answers, pops}
use Rattle.t3_frame_instructions.specs.Relations.{truth_value_of}
use Rattle.t3_object_instructions.specs.Creating.{arguments}
use Rattle.t3_object_instructions.specs.Evaluating.{unless_argued}
use Rattle.t3_object_instructions.specs.Savepoints.{savepoint_function, undo_function, saves, undoes}
use Rattle.t3_object_instructions.specs.SavedStates.{save_function, restore_function, restart_function, file_name_of, asks_by_name, asks_of, asks_of_file, restarts}
use Rattle.t3_object_instructions.specs.Saying.{say_value, changes_say, sets_say}
use Rattle.t3_object_instructions.specs.Builtins.{says_text, says, takes_line, io_action, state_action, savepoint_action, gen_by, takes_say, vm_action, set_action}
use Rattle.t3_good_values.specs.Values.{IsClosed, HasGoodConstants}
use Rattle.t3_good_instructions.specs.Contexts.{IsGoodContext, IsGoodAction, IsGoodEffect, IsGoodSay}
use Rattle.t3_good_values.proofs.Stores.{good-saved, good-undone}
use Rattle.t3_good_values.proofs.Builtins.{pure_builtin_of-good}
use Rattle.t3_good_instructions.proofs.Actions.{Keeps, KeepsWith, registered, stored, said-by, dropped, keeps-faults, keeps-answers, keeps-either, keeps-pops}
use Rattle.t3_good_instructions.proofs.Making.{good-truth, keeps-makes}
use Rattle.t3_good_instructions.proofs.Creating.{good-arguments}

module _ (Good : Holder → Type 0) (closed : IsClosed Good) where
  -- an action that is asked for with so many arguments, and else there is a fault
  keeps-counted : (right : Bool) (action : Action) (context : Context) → IsGoodAction Good action → IsGoodContext Good context
      → IsGoodAction Good (if right then action else faults faulty.ArgCount context)
  keeps-counted right action context done has =
      keeps-either Good right action (faults faulty.ArgCount context) done (keeps-faults Good faulty.ArgCount context has)

  -- ---- input and output

  keeps-text : (count : ℕ) (text : Result (List ℕ) Fault) → Keeps Good (says_text count text)
  keeps-text count (Err fault) context has = keeps-faults Good fault context has
  keeps-text count (Ok text) context has =
      record { effect = tt; context = registered Good holders.Nil _ closed.nil (dropped Good count context has) }

  keeps-says : (constants : Pool) (count : ℕ) → Keeps Good (says constants count)
  keeps-says constants count context has =
      keeps-either Good (count == 0) (faults faulty.ArgCount context)
      (says_text count (said_text_of constants context.store (arguments count context)) context)
      (keeps-faults Good faulty.ArgCount context has)
      (keeps-text count (said_text_of constants context.store (arguments count context)) context has)

  keeps-line : (count : ℕ) → Keeps Good (takes_line count)
  keeps-line count context has = keeps-counted (count == 0) (WantLine, context) context (record { effect = tt; context = has }) has

  keeps-io : (constants : Pool) (index count : ℕ) → Keeps Good (io_action constants index count)
  keeps-io constants index count context has =
      keeps-either Good (index == 0) (says constants count context) _ (keeps-says constants count context has)
      (keeps-either Good (index == 4) (takes_line count context) (faults faulty.NoBuiltin context) (keeps-line count context has)
      (keeps-faults Good faulty.NoBuiltin context has))

  -- ---- savepoints

  keeps-saved : Keeps Good saves
  keeps-saved context has =
      keeps-answers Good holders.Nil 0 closed.nil (with_store (saved context.store) context)
      (stored Good (saved context.store) context (good-saved Good context.store has.store) has)

  keeps-undone : Keeps Good undoes
  keeps-undone context has =
      keeps-answers Good (truth_value_of (is_held context.store.marks)) 0 (good-truth Good closed (is_held context.store.marks))
      (with_store (undone context.store) context)
      (stored Good (undone context.store) context (good-undone Good context.store has.store) has)

  -- ---- saved states

  -- whatever is asked for by the name of a file
  keeps-named : (effect : List ℕ → Effect) → ((name : List ℕ) → IsGoodEffect Good (effect name)) → (name : Result (List ℕ) Fault)
      → Keeps Good (asks_by_name effect name)
  keeps-named effect good (Ok name) context has = record { effect = good name; context = has }
  keeps-named effect good (Err fault) context has = keeps-faults Good fault context has

  keeps-file : (effect : List ℕ → Effect) → ((name : List ℕ) → IsGoodEffect Good (effect name)) → (constants : Pool) (count : ℕ)
      → Keeps Good (asks_of_file effect constants count)
  keeps-file effect good constants count context has =
      keeps-counted (count == 1) (pops (asks_of effect constants) context) context
      (keeps-pops Good (asks_of effect constants)
      (λ value is context has. keeps-named effect good (file_name_of constants context.store value) context has) context has) has

  keeps-restarted : (count : ℕ) → Keeps Good (restarts count)
  keeps-restarted count context has = keeps-counted (count == 0) (Restart, context) context (record { effect = tt; context = has }) has

  keeps-state : (constants : Pool) (index count : ℕ) → Keeps Good (state_action constants index count)
  keeps-state constants index count context has =
      keeps-either Good (index == save_function) (asks_of_file Save constants count context) _
      (keeps-file Save (λ name. tt) constants count context has)
      (keeps-either Good (index == restore_function) (asks_of_file Restore constants count context) _
      (keeps-file Restore (λ name. tt) constants count context has)
      (keeps-either Good (index == restart_function) (restarts count context) (faults faulty.NoBuiltin context)
      (keeps-restarted count context has) (keeps-faults Good faulty.NoBuiltin context has)))

  -- ---- all of the general set

  keeps-savepoints : (constants : Pool) (index count : ℕ) → Keeps Good (savepoint_action constants index count)
  keeps-savepoints constants index count context has =
      keeps-either Good (index == savepoint_function) (unless_argued count (saves context) context) _
      (keeps-counted (count == 0) (saves context) context (keeps-saved context has) has)
      (keeps-either Good (index == undo_function) (unless_argued count (undoes context) context) _
      (keeps-counted (count == 0) (undoes context) context (keeps-undone context has) has)
      (keeps-state constants index count context has))

  keeps-gen : (constants : Pool) → HasGoodConstants Good constants → (builtin : Option PureBuiltin) (index count : ℕ)
      → Keeps Good (gen_by constants builtin index count)
  keeps-gen constants lists None index count context has = keeps-savepoints constants index count context has
  keeps-gen constants lists (Some builtin) index count context has =
      keeps-makes Good closed (pure_builtin_of constants context.store index (arguments count context))
      (λ value context. answers value count context) (λ value good. keeps-answers Good value count good) context
      (pure_builtin_of-good Good constants context.store index (arguments count context) closed lists has.store
      (good-arguments Good count context has)) has

  -- ---- the machine's own set

  good-say : (say : Option ℕ) → IsGoodSay Good say → Good (say_value say)
  good-say None good = closed.nil
  good-say (Some method) good = good

  keeps-say-changed : (say : Option ℕ) → IsGoodSay Good say → Keeps Good (changes_say say)
  keeps-say-changed say good context has =
      keeps-answers Good (say_value context.say) 0 (good-say context.say has.say) (record context { say = say })
      (said-by Good say context good has)

  keeps-say-set : KeepsWith Good sets_say
  keeps-say-set (holders.Func method) good context has = keeps-say-changed (Some method) good context has
  keeps-say-set holders.Nil good context has = keeps-say-changed None tt context has
  keeps-say-set _ good context has = keeps-faults Good faulty.Kind context has

  keeps-vm : (index count : ℕ) → Keeps Good (vm_action index count)
  keeps-vm index count context has =
      keeps-either Good (index == 1) (takes_say count context) (faults faulty.NoBuiltin context)
      (keeps-counted (count == 1) (pops sets_say context) context (keeps-pops Good sets_say keeps-say-set context has) has)
      (keeps-faults Good faulty.NoBuiltin context has)

  -- ---- all sets

  pub keeps-builtin : (constants : Pool) → HasGoodConstants Good constants → (set : Option SetKind) (index count : ℕ)
      → Keeps Good (set_action constants set index count)
  keeps-builtin constants lists None index count context has = keeps-faults Good faulty.NoBuiltin context has
  keeps-builtin constants lists (Some Io) index count context has = keeps-io constants index count context has
  keeps-builtin constants lists (Some Gen) index count context has = keeps-gen constants lists (pure_at index) index count context has
  keeps-builtin constants lists (Some Vm) index count context has = keeps-vm index count context has
