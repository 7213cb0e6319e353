-- What is answered of the file that an argument names.
use Rattle.std.specs.Prelude.{ℕ, List, Result, Ok, Err}
use Rattle.t3_holder.specs.FileName.{IsFileName}
use Rattle.t3_pools.specs.Pool.{Pool}
use Rattle.t3_frame_instructions.specs.declared.context.Core.{Core}
use Rattle.t3_frame_instructions.specs.declared.effect.Quiet.{Quiet}
use Rattle.t3_frame_instructions.specs.Effect.{Effect}
use Rattle.t3_frame_instructions.specs.Acting.{HasAction, HasDone}
use Rattle.t3_object_instructions.specs.SavedStates.{asks_of_file}

-- whatever is asked for of a file, it is asked for of this one, which has a good name; or this is asked for in its place
abbrev pub HasNamed : Pool → ℕ → Core → Result (List ℕ) Quiet → Core → Type 0
HasNamed constants count old (Ok name) new =
    ((effect : List ℕ → Effect) → HasAction (asks_of_file effect constants count) old (effect name) new) × IsFileName name
HasNamed constants count old (Err quiet) new = (effect : List ℕ → Effect) → HasDone (asks_of_file effect constants count) old quiet new
