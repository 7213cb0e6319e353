-- For other crates too: each instruction that calls, returns or evaluates leaves all good.
use Rattle.std.proofs.Common.{ℕ, ◌<◌, ◌^◌, Option, None, arith}
use Rattle.t3_holder.specs.declared.holder.Holder.{Holder}
use Rattle.t3_holder.specs.declared.holder.Holder.TheVariants as holders
use Rattle.t3_methods.specs.declared.instr.Instr.TheVariants as of
use Rattle.t3_methods.specs.declared.instr.CallCode.{CallCode}
use Rattle.t3_methods.specs.declared.instr.CallCode.TheVariants as call
use Rattle.t3_methods.specs.Answers.{Stands}
use Rattle.t3_ops.specs.declared.fault.Fault.TheVariants as faulty
use Rattle.t3_frames.specs.Frame.{function}
use Rattle.t3_load.specs.Loading.{ProgramValue}
use Rattle.t3_frame_instructions.specs.Context.{Context, Action, calls, returns, pops}
use Rattle.t3_object_instructions.specs.Evaluating.{by_property, evaluates, delegates}
use Rattle.t3_object_instructions.specs.Instructions.{calls_pointer, call_action}
use Rattle.t3_good_instructions.specs.Contexts.{IsGoodProgram, IsGoodContext, IsGoodAction}
use Rattle.t3_good_instructions.proofs.Actions.{Keeps, KeepsWith, keeps-faults, keeps-calls, keeps-returns, keeps-pops}
use Rattle.t3_good_instructions.proofs.Evaluating.{keeps-evaluated, keeps-by-property, keeps-delegated, keeps-inherited}

-- a count in a byte is one of two bytes
pub byte : {n : ℕ} → n < 2 ^ 8 → n < 2 ^ 16
byte few = omega arith

module _ (Good : Holder → Type 0) (program : ProgramValue) (good : IsGoodProgram Good program) where
  object : (number : ℕ) → (0 < number) × (number < 2 ^ 32) → Good (holders.Obj number)
  object number fits = good.closed.object number fits.0 fits.1

  keeps-function : (method count : ℕ) → count < 2 ^ 16 → Keeps Good (calls (function method count))
  keeps-function method count few context has =
      keeps-calls Good (function method count) (record { laid = tt; this = good.closed.nil; gives = tt; count = few }) context has

  keeps-pointer : (count : ℕ) → count < 2 ^ 16 → KeepsWith Good (calls_pointer count)
  keeps-pointer count few (holders.Func method) is context has = keeps-function method count few context has
  keeps-pointer count few _ is context has = keeps-faults Good faulty.Kind context has

  keeps-popped : (property count : ℕ) → count < 2 ^ 16 → Keeps Good (pops (evaluates program property count))
  keeps-popped property count few =
      keeps-pops Good (evaluates program property count) (keeps-evaluated Good program good property count few)

  pub keeps-call : (address size : ℕ) (code : CallCode) → Stands program.pools.code address (of.Call code) size
      → Keeps Good (call_action program code)
  keeps-call address size call.Retval stands context has = keeps-pops Good returns (keeps-returns Good) context has
  keeps-call address size call.Retnil stands context has = keeps-returns Good holders.Nil good.closed.nil context has
  keeps-call address size call.Rettrue stands context has = keeps-returns Good holders.True good.closed.true context has
  keeps-call address size call.Ret stands context has = keeps-returns Good context.register has.register context has
  keeps-call address size (call.Getprop p) stands context has = keeps-popped p 0 (omega arith) context has
  keeps-call address size (call.Callprop count p) stands context has = keeps-popped p count (byte stands.operands.0.fits) context has
  keeps-call address size (call.Ptrcallprop count) stands context has =
      keeps-pops Good (by_property (λ p. pops (evaluates program p count)))
      (keeps-by-property Good program good (λ p. pops (evaluates program p count))
      (λ p can. keeps-popped p count (byte stands.operands.0.fits))) context has
  keeps-call address size (call.Getpropself p) stands context has =
      keeps-evaluated Good program good p 0 (omega arith) context.frame.this has.frame.this context has
  keeps-call address size (call.Callpropself count p) stands context has =
      keeps-evaluated Good program good p count (byte stands.operands.0.fits) context.frame.this has.frame.this context has
  keeps-call address size (call.Ptrcallpropself count) stands context has =
      keeps-pops Good (by_property (λ p. evaluates program p count context.frame.this))
      (keeps-by-property Good program good (λ p. evaluates program p count context.frame.this)
      (λ p can. keeps-evaluated Good program good p count (byte stands.operands.0.fits) context.frame.this has.frame.this)) context has
  keeps-call address size (call.Objgetprop n p) stands context has =
      keeps-evaluated Good program good p 0 (omega arith) (holders.Obj n) (object n stands.operands.0.fits) context has
  keeps-call address size (call.Objcallprop count n p) stands context has =
      keeps-evaluated Good program good p count (byte stands.operands.0.fits) (holders.Obj n) (object n stands.operands.1.0.fits)
      context has
  keeps-call address size (call.Inherit count p) stands context has =
      keeps-inherited Good program good p count (byte stands.operands.0.fits) context has
  keeps-call address size (call.Expinherit count p n) stands context has =
      keeps-delegated Good program good p count (holders.Obj n) (byte stands.operands.0.fits) context has
  keeps-call address size (call.Delegate count p) stands context has =
      keeps-pops Good (delegates p count) (λ value is. keeps-delegated Good program good p count value (byte stands.operands.0.fits))
      context has
  keeps-call address size (call.Call count address_of) stands context has =
      keeps-function address_of count (byte stands.operands.0.fits) context has
  keeps-call address size (call.Ptrcall count) stands context has =
      keeps-pops Good (calls_pointer count) (keeps-pointer count (byte stands.operands.0.fits)) context has
