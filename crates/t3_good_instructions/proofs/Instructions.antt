-- For other crates too: each instruction that says, throws, makes or calls a built-in function leaves all good.
use Rattle.std.proofs.Common.{ℕ, ◌<◌, ◌^◌, false, true, Option, Some, None, is_some, option_map}
use Rattle.std.specs.List.{slice_get}
use Rattle.t3_holder.specs.declared.holder.Holder.{Holder}
use Rattle.t3_holder.specs.declared.holder.Holder.TheVariants as holders
use Rattle.t3_methods.specs.declared.instr.Instr.TheVariants as of
use Rattle.t3_methods.specs.declared.instr.PushCode.{PushCode}
use Rattle.t3_methods.specs.declared.instr.MakeCode.{MakeCode}
use Rattle.t3_methods.specs.declared.instr.MakeCode.TheVariants as make
use Rattle.t3_methods.specs.Answers.{Stands}
use Rattle.t3_ops.specs.declared.fault.Fault.TheVariants as faulty
use Rattle.t3_ops.specs.Indexing.{index_of}
use Rattle.t3_store.specs.Store.{value_at}
use Rattle.t3_load.specs.Loading.{ProgramValue}
use Rattle.t3_frame_instructions.specs.Effect.{Throw}
use Rattle.t3_frame_instructions.specs.Context.{Context, Action, faults}
use Rattle.t3_frame_instructions.specs.Pushing.{pushed_value, push_action}
use Rattle.t3_object_instructions.specs.Saying.{saying}
use Rattle.t3_object_instructions.specs.Setting.{indexes}
use Rattle.t3_object_instructions.specs.Creating.{creation}
use Rattle.t3_object_instructions.specs.Exceptions.{throws}
use Rattle.t3_object_instructions.specs.Builtins.{builtin_action}
use Rattle.t3_object_instructions.specs.Instructions.{make_action}
use Rattle.t3_good_instructions.specs.Contexts.{IsGoodProgram, IsGoodContext, IsGoodAction}
use Rattle.t3_good_values.proofs.Indexing.{index_of-good}
use Rattle.t3_good_instructions.proofs.Actions.{Keeps, KeepsWith, KeepsWithTwo, keeps-faults, keeps-gives, keeps-either, keeps-pushes, keeps-pops, keeps-two}
use Rattle.t3_good_instructions.proofs.Creating.{keeps-creation}
use Rattle.t3_good_instructions.proofs.Evaluating.{keeps-said}
use Rattle.t3_good_instructions.proofs.Calling.{byte}
use Rattle.t3_good_instructions.proofs.Builtins.{keeps-builtin}

module _ (Good : Holder → Type 0) (program : ProgramValue) (good : IsGoodProgram Good program) where
  pub keeps-push : (address size : ℕ) (code : PushCode) → Stands program.pools.code address (of.Push code) size
      → Keeps Good (push_action code)
  keeps-push address size code stands context has =
      keeps-pushes Good (pushed_value code) (good.pushed address size code stands) context has

  keeps-thrown : KeepsWith Good throws
  keeps-thrown (holders.Obj number) is context has =
      keeps-either Good (is_some (value_at context.store number)) (Throw number, context) (faults faulty.Stale context)
      (record { effect = is; context = has }) (keeps-faults Good faulty.Stale context has)
  keeps-thrown _ is context has = keeps-faults Good faulty.NotObject context has

  keeps-indexed : KeepsWithTwo Good (indexes program.pools.constants)
  keeps-indexed index container by of context has =
      keeps-gives Good (index_of program.pools.constants context.store container index)
      (index_of-good Good program.pools.constants context.store container index good.closed good.constants has.store of) context has

  keeps-new : (count index : ℕ) → count < 2 ^ 16 → Keeps Good (creation program false count index)
  keeps-new count index few =
      keeps-creation Good program good false count (option_map (λ entry. entry.kind) (slice_get program.kinds index)) few

  keeps-new-transient : (count index : ℕ) → count < 2 ^ 16 → Keeps Good (creation program true count index)
  keeps-new-transient count index few =
      keeps-creation Good program good true count (option_map (λ entry. entry.kind) (slice_get program.kinds index)) few

  keeps-built-in : (set index count : ℕ) → Keeps Good (builtin_action program set index count)
  keeps-built-in set index count =
      keeps-builtin Good good.closed program.pools.constants good.constants (slice_get program.sets set) index count

  pub keeps-make : (address size : ℕ) (code : MakeCode) → Stands program.pools.code address (of.Make code) size
      → Keeps Good (make_action program code)
  keeps-make address size (make.Say text) stands context has =
      keeps-said Good program good (holders.Text text) (good.said address size text stands) context has
  keeps-make address size make.Sayval stands context has = keeps-pops Good saying (keeps-said Good program good) context has
  keeps-make address size make.Throw stands context has = keeps-pops Good throws keeps-thrown context has
  keeps-make address size (make.New1 count index) stands context has = keeps-new count index (byte stands.operands.0.fits) context has
  keeps-make address size (make.New2 count index) stands context has = keeps-new count index stands.operands.0.fits context has
  keeps-make address size (make.Trnew1 count index) stands context has =
      keeps-new-transient count index (byte stands.operands.0.fits) context has
  keeps-make address size (make.Trnew2 count index) stands context has = keeps-new-transient count index stands.operands.0.fits context has
  keeps-make address size make.Index stands context has = keeps-two Good (indexes program.pools.constants) keeps-indexed context has
  keeps-make address size (make.Builtina count index) stands context has = keeps-built-in 0 index count context has
  keeps-make address size (make.Builtinb count index) stands context has = keeps-built-in 1 index count context has
  keeps-make address size (make.Builtinc count index) stands context has = keeps-built-in 2 index count context has
  keeps-make address size (make.Builtind count index) stands context has = keeps-built-in 3 index count context has
  keeps-make address size (make.Builtin1 count index set) stands context has = keeps-built-in set index count context has
