-- What holds of a state all of whose values have a property, and of the inputs that keep it so.
use Rattle.std.specs.Prelude.{ℕ}
use Rattle.std.specs.List.{AllByRecursion}
use Rattle.std.specs.Str.{IsUtf8}
use Rattle.t3_holder.specs.declared.holder.Holder.{Holder}
use Rattle.t3_store.specs.Value.{Objects}
use Rattle.t3_store.specs.Invariant.{HoldsOfEach}
use Rattle.t3_snapshot.specs.State.{Spells}
use Rattle.t3_snapshot.specs.Good.{HasGoodParts}
use Rattle.t3_load.specs.Loading.{ProgramValue}
use Rattle.t3_good_values.specs.Stores.{IsGoodStore}
use Rattle.t3_good_instructions.specs.Contexts.{IsGoodFrame, IsGoodSay}
use Rattle.t3_interp.specs.declared.event.Input.{Input}
use Rattle.t3_interp.specs.declared.event.Input.TheVariants as inputs
use Rattle.t3_interp.specs.Machine.{State}

pub record IsGoodState (Good : Holder → Type 0) (state : State) : Type 0 where
  pub frames : AllByRecursion (IsGoodFrame Good) state.frames
  pub register : Good state.register
  pub store : IsGoodStore Good state.store
  pub say : IsGoodSay Good state.say

-- a line is UTF-8, and the objects of a saved state have it
abbrev pub IsGoodInput : (Holder → Type 0) → ProgramValue → Input → Type 0
IsGoodInput Good program (inputs.Line text) = IsUtf8 text
IsGoodInput Good program (inputs.File bytes) =
    (state : Objects) (next : ℕ) → Spells state next program.fingerprint bytes → HoldsOfEach (HasGoodParts Good) state
IsGoodInput Good program _ = Unit {0}
