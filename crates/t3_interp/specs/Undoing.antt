-- What an undo gives back, by the steps of a run.
use Rattle.std.specs.Prelude.{◌≡◌, ℕ, zero, suc, true, List, [], ◌∷◌, drop, Ok}
use Rattle.t3_methods.specs.declared.instr.Instr.TheVariants.{Make}
use Rattle.t3_methods.specs.declared.instr.MakeCode.{MakeCode}
use Rattle.t3_methods.specs.Answers.{FindsInstr}
use Rattle.t3_frames.specs.Frame.{FrameValue}
use Rattle.t3_load.specs.Loading.{ProgramValue}
use Rattle.t3_object_instructions.specs.Savepoints.{savepoint_function, undo_function}
use Rattle.t3_object_instructions.specs.Steady.{calls_bare}
use Rattle.t3_interp.specs.declared.event.Input.{Input}
use Rattle.t3_interp.specs.Machine.{State}
use Rattle.t3_interp.specs.Step.{After, Steps, StepsBy}

-- the instruction at the newest frame's place calls this function of the general set, without arguments
abbrev pub IsAtCall : ℕ → ProgramValue → List FrameValue → Type 0
IsAtCall wanted program [] = ⊥
IsAtCall wanted program (frame ∷ older) =
    (code : MakeCode) × (size : ℕ) × FindsInstr program.pools.code frame.place (Ok (Make code, size)) × (calls_bare wanted program code ≡ true)

-- a step makes a savepoint
pub record MakesSavepoint (program : ProgramValue) (state : State) (after : After) : Type 0 where
  pub calls : IsAtCall savepoint_function program state.frames
  pub steps : Steps program state after

-- a step undoes to the newest savepoint
pub record MakesUndo (program : ProgramValue) (state : State) (after : After) : Type 0 where
  pub calls : IsAtCall undo_function program state.frames
  pub steps : Steps program state after

-- a step, or an input that finishes an instruction, and neither savepoint() nor undo() is called
pub record MovesOn (program : ProgramValue) (state later : State) : Type 0 where
  pub input : Input
  pub after : After
  pub moves : StepsBy program input state after
  pub state_is : after.state ≡ later
  pub saves_not : ¬ IsAtCall savepoint_function program state.frames
  pub undoes_not : ¬ IsAtCall undo_function program state.frames

-- so many of them, one after the other
unfoldable pub MovesOnTo : ProgramValue → ℕ → State → State → Type 0
MovesOnTo program zero state later = later ≡ state
MovesOnTo program (suc count) state later = (next : State) × MovesOn program state next × MovesOnTo program count next later

-- what an undo leaves: the persistent objects are exactly those of the first state, so those that were made since are gone; and all else
-- is as it was before the undo
pub record IsTakenBack (first later undone : State) : Type 0 where
  pub objects : undone.store.persistent ≡ first.store.persistent
  pub transient : undone.store.transient ≡ later.store.transient
  pub next : undone.store.next ≡ later.store.next
  pub next_transient : undone.store.next_transient ≡ later.store.next_transient
  pub older : drop 1 undone.frames ≡ drop 1 later.frames
  pub say : undone.say ≡ later.say
