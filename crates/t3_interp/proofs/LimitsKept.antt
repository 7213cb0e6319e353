-- No step, and no input that finishes an instruction, changes the limits of the objects.
use Rattle.std.proofs.Common.{◌≡◌, ℕ, zero, suc, Bool, true, false, if◌then◌else◌, List, [], ◌∷◌, refl, sym, ap, is_some, ◌∙◌}
use Rattle.t3_undo.specs.Objects.{adjust}
use Rattle.t3_undo.specs.declared.cell.Cell.{Cell}
use Rattle.t3_holder.specs.declared.holder.Holder.{Holder}
use Rattle.t3_store.specs.Value.{Value, holder_at, without_cell}
use Rattle.t3_store.specs.Store.{StoreValue, value_at, is_persistent, changed_in, noted, with_object, with_value, set_cell, taken}
use Rattle.t3_store.specs.declared.limits.StoreLimits.{StoreLimits}
use Rattle.t3_methods.specs.declared.instr.Instr.{Instr}
use Rattle.t3_methods.specs.declared.instr.Instr.TheVariants as of
use Rattle.t3_methods.specs.declared.instr.MakeCode.{MakeCode}
use Rattle.t3_frames.specs.Frame.{FrameValue}
use Rattle.t3_load.specs.Loading.{ProgramValue}
use Rattle.t3_object_instructions.specs.Savepoints.{savepoint_function, undo_function}
use Rattle.t3_object_instructions.specs.Steady.{calls_bare}
use Rattle.t3_interp.specs.declared.event.Input.{Input}
use Rattle.t3_interp.specs.declared.event.Input.TheVariants as inputs
use Rattle.t3_interp.specs.declared.event.Event.TheVariants.{Went}
use Rattle.t3_interp.specs.Machine.{State}
use Rattle.t3_interp.specs.Instructions.{action_of}
use Rattle.t3_interp.specs.Step.{After, Goes, StepsBy}
use Rattle.t3_interp.proofs.Keeping.{AreKept, Keeps}
use Rattle.t3_interp.proofs.InstructionsKeep.{keeps-instruction}
use Rattle.t3_interp.proofs.StepsKeep.{AreCarriedOut, moves-keep}
use Rattle.t3_interp.proofs.SavepointCalls.{other-make, calls-bare}

-- the store has these limits
abbrev pub HasLimits : StoreLimits → StoreValue → Type 0
HasLimits limits store = store.limits ≡ limits

limits-kept : (limits : StoreLimits) → AreKept (HasLimits limits)
limits-kept limits = record { made = makes; set = sets; taken = takes; replaced = λ objects next store has. has }
  where
    makes : (value : Value) (transient : Bool) (store : StoreValue) → HasLimits limits store → HasLimits limits (with_object value transient store)
    makes value true store has = has
    makes value false store has = has

    notes : (number : ℕ) (cell : Cell) (store : StoreValue) → HasLimits limits store → HasLimits limits (noted number cell store)
    notes number cell store has = by (is_persistent store number)
      where
        by : (old : Bool) → HasLimits limits (if old then record store { marks = changed_in store.limits.records number cell store.marks } else store)
        by true = has
        by false = has

    puts : (number : ℕ) (change : Value → Value) (store : StoreValue) → HasLimits limits store → HasLimits limits (with_value number change store)
    puts number change store has = by (is_persistent store number)
      where
        by : (old : Bool) → HasLimits limits (if old then record store { persistent = adjust store.persistent number change }
            else record store { transient = adjust store.transient number change })
        by true = has
        by false = has

    sets : (number : ℕ) (cell : Cell) (value : Holder) (store : StoreValue) → HasLimits limits store
        → HasLimits limits (set_cell number cell value store)
    sets number cell value store has = puts number _ (noted number cell store) (notes number cell store has)

    takes : (number : ℕ) (cell : Cell) (store : StoreValue) → HasLimits limits store → HasLimits limits (taken number cell store)
    takes number cell store has = by (is_some (holder_at (value_at store number) cell))
      where
        by : (there : Bool) → HasLimits limits (if there then with_value number (without_cell cell) (noted number cell store) else store)
        by true = puts number _ (noted number cell store) (notes number cell store has)
        by false = has

-- ---- by each instruction, savepoint() and undo() too

make-keeps : (limits : StoreLimits) (program : ProgramValue) (code : MakeCode) → Keeps (HasLimits limits) (action_of program (of.Make code))
make-keeps limits program code context has =
    by (calls_bare savepoint_function program code) (calls_bare undo_function program code) refl refl
  where
    not_so : {b : Bool} → b ≡ false → b ≡ true → ⊥
    not_so is so = let clash : false ≡ true = sym is ∙ so in absurd cc

    by : (a b : Bool) → calls_bare savepoint_function program code ≡ a → calls_bare undo_function program code ≡ b
        → HasLimits limits (action_of program (of.Make code) context).1.store
    by true b saves undoes =
        ap (λ action. action.1.store.limits) (calls-bare savepoint_function program code context.frame context saves).acts ∙ has
    by false true saves undoes =
        ap (λ action. action.1.store.limits) (calls-bare undo_function program code context.frame context undoes).acts ∙ has
    by false false saves undoes =
        keeps-instruction (HasLimits limits) (limits-kept limits) program (of.Make code)
        (other-make program code (not_so saves) (not_so undoes)) context has

each-keeps : (limits : StoreLimits) (program : ProgramValue) (instr : Instr) → Keeps (HasLimits limits) (action_of program instr)
each-keeps limits program (of.Make code) = make-keeps limits program code
each-keeps limits program instr = keeps-instruction (HasLimits limits) (limits-kept limits) program instr tt

all-carried : (limits : StoreLimits) (program : ProgramValue) (frames : List FrameValue) → AreCarriedOut (HasLimits limits) program frames
all-carried limits program [] = tt
all-carried limits program (frame ∷ older) = λ found finds. each-keeps limits program found.0

-- ---- by what comes of an input, and by steps

pub limits-stay : (limits : StoreLimits) (program : ProgramValue) (input : Input) (state : State) (after : After)
    → StepsBy program input state after → state.store.limits ≡ limits → after.state.store.limits ≡ limits
limits-stay limits program input state after moves =
    moves-keep (HasLimits limits) (limits-kept limits) program input state after moves (all-carried limits program state.frames)

pub limits-gone : (limits : StoreLimits) (program : ProgramValue) (made : ℕ) (state : State) (after : After) → Goes program made state after
    → state.store.limits ≡ limits → after.state.store.limits ≡ limits
unfolding Goes
limits-gone limits program zero state after is has = ap (λ (a : After). a.state.store.limits) is ∙ has
limits-gone limits program (suc made) state after (before, goes, steps) has =
    limits-stay limits program inputs.Go before after steps
    (limits-gone limits program made state (record { state = before; event = Went }) goes has)
