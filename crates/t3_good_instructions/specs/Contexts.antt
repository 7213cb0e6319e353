-- What holds of a program, and of all that an instruction sees, leaves and asks for, for a property of holders that all values of a run
-- have.
use Rattle.std.specs.Prelude.{◌≡◌, ◌+◌, ◌<◌, ◌≤◌, ◌^◌, ℕ, Option, Some, None}
use Rattle.std.specs.List.{AllByRecursion}
use Rattle.std.specs.FinMap.{get}
use Rattle.t3_holder.specs.declared.holder.Holder.{Holder}
use Rattle.t3_holder.specs.declared.holder.Holder.TheVariants as holders
use Rattle.t3_methods.specs.declared.instr.Instr.TheVariants as of
use Rattle.t3_methods.specs.declared.instr.PushCode.{PushCode}
use Rattle.t3_methods.specs.declared.instr.MakeCode.TheVariants as make
use Rattle.t3_methods.specs.Answers.{Stands}
use Rattle.t3_frames.specs.declared.call.Call.{Call}
use Rattle.t3_frames.specs.Frame.{FrameValue}
use Rattle.t3_load.specs.Loading.{ProgramValue}
use Rattle.t3_frame_instructions.specs.Effect.{Effect}
use Rattle.t3_frame_instructions.specs.Effect as effects
use Rattle.t3_frame_instructions.specs.Context.{Context, Action}
use Rattle.t3_frame_instructions.specs.Pushing.{pushed_value}
use Rattle.t3_snapshot.specs.Good.{AreGoodObjects}
use Rattle.t3_good_values.specs.Values.{IsClosed, HasGoodConstants}
use Rattle.t3_good_values.specs.Stores.{IsGoodStore, ArePassing}

-- what the code of a program pushes and says has it, and its constants and objects do
pub record IsGoodProgram (Good : Holder → Type 0) (program : ProgramValue) : Type 0 where
  pub closed : IsClosed Good
  pub constants : HasGoodConstants Good program.pools.constants
  -- no byte of code stands at 2^31 - 1 or beyond
  pub within : (address : ℕ) → 2 ^ 31 ≤ address + 1 → get program.pools.code address ≡ None
  pub pushed : (address size : ℕ) (code : PushCode) → Stands program.pools.code address (of.Push code) size → Good (pushed_value code)
  pub said : (address size text : ℕ) → Stands program.pools.code address (of.Make (make.Say text)) size → Good (holders.Text text)
  pub first : AreGoodObjects Good program.next program.first
  pub passing : ArePassing Good program.next (2 ^ 31) program.passing
  pub next : (0 < program.next) × (program.next ≤ 2 ^ 31)

-- an object that a constructor gives, if it is one's frame or call
abbrev pub IsGoodGift : (Holder → Type 0) → Option ℕ → Type 0
IsGoodGift Good None = Unit {0}
IsGoodGift Good (Some number) = Good (holders.Obj number)

pub record IsGoodFrame (Good : Holder → Type 0) (frame : FrameValue) : Type 0 where
  pub arguments : AllByRecursion Good frame.arguments
  pub locals : AllByRecursion Good frame.locals
  pub operands : AllByRecursion Good frame.operands
  pub this : Good frame.this
  pub gives : IsGoodGift Good frame.gives
  -- how many arguments it was given is an integer, and so is an offset within its method
  pub given : frame.given < 2 ^ 31
  pub method : frame.method < 2 ^ 31

-- the function by which values are said, if there is one
abbrev pub IsGoodSay : (Holder → Type 0) → Option ℕ → Type 0
IsGoodSay Good None = Unit {0}
IsGoodSay Good (Some method) = Good (holders.Func method)

-- what an instruction sees and leaves
pub record IsGoodContext (Good : Holder → Type 0) (context : Context) : Type 0 where
  pub frame : IsGoodFrame Good context.frame
  pub next : context.frame.next < 2 ^ 31
  pub register : Good context.register
  pub store : IsGoodStore Good context.store
  pub say : IsGoodSay Good context.say

-- an argument that is no operand, if there is one
abbrev pub IsGoodLaid : (Holder → Type 0) → Option Holder → Type 0
IsGoodLaid Good None = Unit {0}
IsGoodLaid Good (Some value) = Good value

pub record IsGoodCall (Good : Holder → Type 0) (call : Call) : Type 0 where
  pub laid : IsGoodLaid Good call.laid
  pub this : Good call.this
  pub gives : IsGoodGift Good call.gives
  pub count : call.count < 2 ^ 16

-- what an instruction asks for
abbrev pub IsGoodEffect : (Holder → Type 0) → Effect → Type 0
IsGoodEffect Good (effects.Call call) = IsGoodCall Good call
IsGoodEffect Good (effects.Throw object) = Good (holders.Obj object)
IsGoodEffect Good _ = Unit {0}

pub record IsGoodAction (Good : Holder → Type 0) (action : Action) : Type 0 where
  pub effect : IsGoodEffect Good action.0
  pub context : IsGoodContext Good action.1
