-- What is made of a run keeps that all of its values can be saved.
use Rattle.std.proofs.Common.{◌≡◌, ℕ, ◌-◌, Bool, true, false, List, Option, Some, None, refl, sym, subst, arith}
use Rattle.std.specs.FinMap.{get}
use Rattle.std.specs.Str.{IsUtf8}
use Rattle.t3_load.specs.Loading.{ProgramValue}
use Rattle.t3_frames.specs.Frame.{FrameValue}
use Rattle.t3_store.specs.declared.admit.Admit.{Admit}
use Rattle.t3_store.specs.declared.admit.Admit.TheVariants as admits
use Rattle.t3_interp.specs.Machine.{State}
use Rattle.t3_interp.specs.Wanting.{IsNamed}
use Rattle.t3_store.specs.Value.{Value, Objects}
use Rattle.t3_store.specs.Store.{AreBelow}
use Rattle.t3_snapshot.specs.Layout.{IsGoodHolder}
use Rattle.t3_snapshot.specs.Good.{AreNumbered}
use Rattle.t3_snapshot.proofs.SoundGood.{sound_good}
use Rattle.t3_interp.specs.declared.event.Event.{Event}
use Rattle.t3_interp.specs.declared.event.Input.{Input}
use Rattle.t3_interp.specs.declared.event.Input.TheVariants as inputs
use Rattle.t3_interp.specs.declared.event.Want.{Want}
use Rattle.t3_interp.specs.declared.event.Want.TheVariants as wants
use Rattle.t3_interp.specs.declared.running.Running.{Running}
use Rattle.t3_interp.specs.Step.{StepsBy, IsWanted, after_admit}
use Rattle.t3_interp.specs.View.{state_of, comes_to}
use Rattle.t3_interp.specs.Good.{IsGoodInput}
use Rattle.t3_interp.specs.Inner.Acting.{IsGoodRun, HasGone, Tells}
use Rattle.t3_interp.proofs.GoodSteps.{good-steps, good-by}
use Rattle.t3_interp.proofs.LimitsKept.{limits-stay, limits-gone}

-- by steps
pub good-gone : (program : ProgramValue) (old new : Running) → HasGone program old new → IsGoodRun program old → IsGoodRun program new
good-gone program old new gone good = record {
  static = good.static;
  state = good-steps IsGoodHolder program good.static (new.steps - old.steps) (state_of old) (comes_to new) gone.goes good.state;
  limits = limits-gone program.limits program (new.steps - old.steps) (state_of old) (comes_to new) gone.goes good.limits;
}

-- ---- by an input that is wanted

line_utf8 : (want : Want) (text : List ℕ) → IsWanted want (inputs.Line text) → IsUtf8 text
line_utf8 wants.Line text wanted = wanted
line_utf8 wants.Go text wanted = absurd wanted
line_utf8 wants.Stored text wanted = absurd wanted
line_utf8 wants.File text wanted = absurd wanted
line_utf8 wants.Nothing text wanted = absurd wanted

good-wanted : (program : ProgramValue) (want : Want) (input : Input) → IsWanted want input → IsGoodInput IsGoodHolder program input
good-wanted program want (inputs.Line text) wanted = line_utf8 want text wanted
good-wanted program want (inputs.File bytes) wanted = λ state next spells. (sound_good state next spells.sound).0.parts
good-wanted program want inputs.Go wanted = tt
good-wanted program want inputs.EndOfInput wanted = tt
good-wanted program want inputs.Stored wanted = tt
good-wanted program want inputs.NoFile wanted = tt

pub good-moved : (program : ProgramValue) (want : Want) (input : Input) (old new : Running) → IsWanted want input
    → StepsBy program input (state_of old) (comes_to new) → IsGoodRun program old → IsGoodRun program new
good-moved program want input old new wanted moves good = record {
  static = good.static;
  state = good-by IsGoodHolder program good.static input (state_of old) (comes_to new) moves (good-wanted program want input wanted) good.state;
  limits = limits-stay program.limits program input (state_of old) (comes_to new) moves good.limits;
}

-- what tells something names a file well
pub tells_named : (running : Running) (told : Bool) → Tells running told → IsNamed running.event
tells_named running true tells = tells.1
tells_named running false tells = subst IsNamed (sym tells.0) tt

-- a run is as good when what it tells was handed out
pub good-untold : (program : ProgramValue) (running : Running) (event : Event) → IsGoodRun program running
    → IsGoodRun program (record running { event = event })
good-untold program running event good = record { static = good.static; state = good.state; limits = good.limits }

-- and when a step was counted
pub good-counted : (program : ProgramValue) (running : Running) (steps : ℕ) → IsGoodRun program running
    → IsGoodRun program (record running { steps = steps })
good-counted program running steps good = record {
  static = good.static;
  state = record { frames = good.state.frames; register = good.state.register; store = good.state.store; say = good.state.say };
  limits = good.limits;
}

-- ---- a state that was read

-- what it takes the place of is told by no frame and by nothing that is wanted
pub admit_elsewhere : (program : ProgramValue) (admit : Admit) (objects : Objects) (next : ℕ) (frame : FrameValue) (older : List FrameValue)
    (state : State) (frames : List FrameValue) (wants : Want)
    → after_admit program admit objects next frame older (record state { frames = frames; wants = wants })
    ≡ after_admit program admit objects next frame older state
admit_elsewhere program admits.Fits objects next frame older state frames wants = refl
admit_elsewhere program admits.Clash objects next frame older state frames wants = refl
admit_elsewhere program admits.Full objects next frame older state frames wants = refl

-- its objects are below its next number
pub below_next : (objects : Objects) (next : ℕ) → AreNumbered next objects → AreBelow next objects
below_next objects next numbered number far = by (get objects number) refl
  where
    by : (found : Option Value) → get objects number ≡ found → found ≡ None
    by None is = refl
    by (Some value) is = let near = (numbered number value is).1 in absurd (omega (arith, far, near))
