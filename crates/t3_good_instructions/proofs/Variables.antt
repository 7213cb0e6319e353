-- For other crates too: each instruction that sets a variable, a property or an element leaves all good.
use Rattle.std.proofs.Common.{ℕ, ◌+◌, ◌<◌, ◌^◌, ℤ, pos, negsuc, Option, Some, None, Result, Ok, Err, arith}
use Rattle.std.specs.Prelude.{FitsSigned}
use Rattle.std.specs.Int.{w8, w32}
use Rattle.std.specs.List.{slice_get}
use Rattle.t3_holder.specs.declared.holder.Holder.{Holder}
use Rattle.t3_holder.specs.declared.holder.Holder.TheVariants as holders
use Rattle.t3_pools.specs.Pool.{PoolsValue}
use Rattle.t3_methods.specs.declared.instr.Instr.TheVariants as of
use Rattle.t3_methods.specs.declared.instr.LocalCode.{LocalCode}
use Rattle.t3_methods.specs.declared.instr.LocalCode.TheVariants as local
use Rattle.t3_methods.specs.Answers.{Stands}
use Rattle.t3_ops.specs.declared.fault.Fault.{Fault}
use Rattle.t3_ops.specs.declared.arithmetic.ArithOp.TheVariants as ops
use Rattle.t3_ops.specs.Adding.{sum_of}
use Rattle.t3_frames.specs.Frame.{with_local, with_argument}
use Rattle.t3_load.specs.Loading.{ProgramValue}
use Rattle.t3_frame_instructions.specs.declared.effect.CodeWhy.TheVariants.{Local}
use Rattle.t3_frame_instructions.specs.Context.{Context, Action, with_frame, pops}
use Rattle.t3_frame_instructions.specs.Computing.{computed_of}
use Rattle.t3_frame_instructions.specs.Variables.{sets_local, sets_argument, becomes, by_local, changes, adds_number, subtracts, becomes_sum, adds_to_local}
use Rattle.t3_object_instructions.specs.Evaluating.{by_property}
use Rattle.t3_object_instructions.specs.Setting.{sets_popped, sets_popped_item}
use Rattle.t3_object_instructions.specs.Instructions.{local_action}
use Rattle.t3_good_values.specs.Values.{IsClosed, HasGoodConstants, IsGoodResult}
use Rattle.t3_good_values.proofs.Sums.{sum_of-good}
use Rattle.t3_good_instructions.specs.Contexts.{IsGoodProgram, IsGoodContext, IsGoodAction}
use Rattle.t3_good_instructions.proofs.Holders.{IsGoodIfAny, good-set, good-slice_get}
use Rattle.t3_good_instructions.proofs.Actions.{Keeps, KeepsWith, framed, keeps-goes-on, keeps-faults, keeps-stops, keeps-pops, keeps-two}
use Rattle.t3_good_instructions.proofs.Making.{good-computed, keeps-makes}
use Rattle.t3_good_instructions.proofs.Frames.{number-fits}
use Rattle.t3_good_instructions.proofs.Evaluating.{keeps-by-property}
use Rattle.t3_good_instructions.proofs.Setting.{keeps-set-popped, keeps-item-popped}

byte-fits : (z : ℤ) → FitsSigned w8 z → FitsSigned w32 z
byte-fits z fits = record { sfits = omega arith }

module _ (Good : Holder → Type 0) where
  keeps-local-set : (n : ℕ) → KeepsWith Good (sets_local n)
  keeps-local-set n value good context has =
      keeps-goes-on Good (with_frame (with_local n value context.frame) context)
      (framed Good (with_local n value context.frame) context (record {
        arguments = has.frame.arguments;
        locals = good-set Good context.frame.locals n value good has.frame.locals;
        operands = has.frame.operands;
        this = has.frame.this;
        gives = has.frame.gives;
        given = has.frame.given;
        method = has.frame.method;
      }) has.next has)

  keeps-argument-set : (n : ℕ) → KeepsWith Good (sets_argument n)
  keeps-argument-set n value good context has =
      keeps-goes-on Good (with_frame (with_argument n value context.frame) context)
      (framed Good (with_argument n value context.frame) context (record {
        arguments = good-set Good context.frame.arguments n value good has.frame.arguments;
        locals = has.frame.locals;
        operands = has.frame.operands;
        this = has.frame.this;
        gives = has.frame.gives;
        given = has.frame.given;
        method = has.frame.method;
      }) has.next has)

  keeps-local-popped : (n : ℕ) → Keeps Good (pops (sets_local n))
  keeps-local-popped n = keeps-pops Good (sets_local n) (keeps-local-set n)

  keeps-argument-popped : (n : ℕ) → Keeps Good (pops (sets_argument n))
  keeps-argument-popped n = keeps-pops Good (sets_argument n) (keeps-argument-set n)

  keeps-become : (n : ℕ) (value : Result Holder Fault) → IsGoodResult Good value → Keeps Good (becomes n value)
  keeps-become n (Ok value) good context has = keeps-local-set n value good context has
  keeps-become n (Err fault) good context has = keeps-faults Good fault context has

  keeps-by-local : (act : Holder → Context → Action) → KeepsWith Good act → (value : Option Holder) → IsGoodIfAny Good value
      → Keeps Good (by_local act value)
  keeps-by-local act keeps (Some value) good context has = keeps value good context has
  keeps-by-local act keeps None good context has = keeps-stops Good Local context has

  keeps-changes : (n : ℕ) (act : Holder → Context → Action) → KeepsWith Good act → Keeps Good (changes n act)
  keeps-changes n act keeps context has =
      keeps-by-local act keeps (slice_get context.frame.locals n) (good-slice_get Good context.frame.locals n has.frame.locals) context has

module _ (Good : Holder → Type 0) (closed : IsClosed Good) where
  keeps-number-added : (n : ℕ) (number : ℤ) → FitsSigned w32 number → Keeps Good (adds_number n number)
  keeps-number-added n number fits =
      keeps-changes Good n (λ x context. becomes n (computed_of ops.Add (holders.Int number) x) context)
      (λ x good. keeps-become Good n (computed_of ops.Add (holders.Int number) x)
      (good-computed Good closed ops.Add (holders.Int number) x (closed.integer number fits) good))

  keeps-subtracted : (n : ℕ) → KeepsWith Good (subtracts n)
  keeps-subtracted n y also =
      keeps-changes Good n (λ x context. becomes n (computed_of ops.Sub x y) context)
      (λ x good. keeps-become Good n (computed_of ops.Sub x y) (good-computed Good closed ops.Sub x y good also))

  keeps-local-added : (pools : PoolsValue) → HasGoodConstants Good pools.constants → (n : ℕ)
      → KeepsWith Good (adds_to_local pools.constants n)
  keeps-local-added pools lists n y also =
      keeps-changes Good n (becomes_sum pools.constants n y)
      (λ x good context has. keeps-makes Good closed (sum_of pools.constants context.store x y) (sets_local n) (keeps-local-set Good n)
      context (sum_of-good Good pools.constants context.store x y closed lists has.store good also) has)

-- ---- the instructions

module _ (Good : Holder → Type 0) (program : ProgramValue) (good : IsGoodProgram Good program) where
  keeps-cleared : (n : ℕ) → Keeps Good (sets_local n holders.Nil)
  keeps-cleared n = keeps-local-set Good n holders.Nil good.closed.nil

  keeps-numbered : (n number : ℕ) → number < 2 → Keeps Good (sets_local n (holders.Int (pos number)))
  keeps-numbered n number few =
      keeps-local-set Good n (holders.Int (pos number)) (good.closed.integer (pos number) (number-fits number (omega arith)))

  pub keeps-variable-set : (address size : ℕ) (code : LocalCode) → Stands program.pools.code address (of.Local code) size
      → Keeps Good (local_action program.pools code)
  keeps-variable-set address size (local.Inclcl n) stands context has =
      keeps-number-added Good good.closed n (pos 1) (number-fits 1 (omega arith)) context has
  keeps-variable-set address size (local.Declcl n) stands context has =
      keeps-number-added Good good.closed n (negsuc 0) (record { sfits = omega arith }) context has
  keeps-variable-set address size (local.Addilcl1 n z) stands context has =
      keeps-number-added Good good.closed n z (byte-fits z stands.operands.1.0.fits) context has
  keeps-variable-set address size (local.Addilcl4 n z) stands context has =
      keeps-number-added Good good.closed n z stands.operands.1.0.fits context has
  keeps-variable-set address size (local.Addtolcl n) stands context has =
      keeps-pops Good (adds_to_local program.pools.constants n) (keeps-local-added Good good.closed program.pools good.constants n)
      context has
  keeps-variable-set address size (local.Subfromlcl n) stands context has =
      keeps-pops Good (subtracts n) (keeps-subtracted Good good.closed n) context has
  keeps-variable-set address size (local.Zerolcl1 n) stands context has = keeps-numbered n 0 (omega arith) context has
  keeps-variable-set address size (local.Zerolcl2 n) stands context has = keeps-numbered n 0 (omega arith) context has
  keeps-variable-set address size (local.Nillcl1 n) stands context has = keeps-cleared n context has
  keeps-variable-set address size (local.Nillcl2 n) stands context has = keeps-cleared n context has
  keeps-variable-set address size (local.Onelcl1 n) stands context has = keeps-numbered n 1 (omega arith) context has
  keeps-variable-set address size (local.Onelcl2 n) stands context has = keeps-numbered n 1 (omega arith) context has
  keeps-variable-set address size (local.Setlcl1 n) stands context has = keeps-local-popped Good n context has
  keeps-variable-set address size (local.Setlcl2 n) stands context has = keeps-local-popped Good n context has
  keeps-variable-set address size (local.Setarg1 n) stands context has = keeps-argument-popped Good n context has
  keeps-variable-set address size (local.Setarg2 n) stands context has = keeps-argument-popped Good n context has
  keeps-variable-set address size (local.Setprop p) stands context has =
      keeps-pops Good (sets_popped p) (λ object of. keeps-set-popped Good p object stands.operands.0.fits) context has
  keeps-variable-set address size local.Ptrsetprop stands context has =
      keeps-pops Good (by_property (λ p. pops (sets_popped p)))
      (keeps-by-property Good program good (λ p. pops (sets_popped p))
      (λ p can. keeps-pops Good (sets_popped p) (λ object of. keeps-set-popped Good p object can))) context has
  keeps-variable-set address size (local.Setpropself p) stands context has =
      keeps-set-popped Good p context.frame.this stands.operands.0.fits context has
  keeps-variable-set address size (local.Objsetprop n p) stands context has =
      keeps-set-popped Good p (holders.Obj n) stands.operands.1.0.fits context has
  keeps-variable-set address size local.Setind stands context has =
      keeps-two Good (sets_popped_item program.pools.constants) (keeps-item-popped Good good.closed program.pools.constants good.constants)
      context has
  keeps-variable-set address size local.Nop stands context has = keeps-goes-on Good context has
