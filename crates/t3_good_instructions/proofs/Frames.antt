-- For other crates too: each instruction that pushes, moves, computes or jumps leaves all good.
use Rattle.std.proofs.Common.{ℕ, ◌+◌, ◌<◌, ◌^◌, ℤ, pos, negsuc, ◌-ℤ◌, nat_lt, Bool, true, false, List, [], ◌∷◌, drop, Option, Some, None, Result, Ok, Err, arith, rules}
use Rattle.std.specs.Prelude.{FitsSigned}
use Rattle.std.specs.Int.{w32}
use Rattle.std.specs.List.{AllByRecursion, slice_get}
use Rattle.std.proofs.lemmas.Int.{ints}
use Rattle.t3_holder.specs.declared.holder.Holder.{Holder}
use Rattle.t3_holder.specs.declared.holder.Holder.TheVariants as holders
use Rattle.t3_pools.specs.Pool.{PoolsValue}
use Rattle.t3_methods.specs.declared.instr.StackCode.{StackCode}
use Rattle.t3_methods.specs.declared.instr.StackCode.TheVariants as stack
use Rattle.t3_methods.specs.declared.instr.MathCode.{MathCode}
use Rattle.t3_methods.specs.declared.instr.MathCode.TheVariants as math
use Rattle.t3_methods.specs.declared.instr.JumpCode.{JumpCode}
use Rattle.t3_methods.specs.declared.instr.JumpCode.TheVariants as jump
use Rattle.t3_ops.specs.declared.fault.Fault.{Fault}
use Rattle.t3_ops.specs.declared.fault.Fault.TheVariants as faulty
use Rattle.t3_ops.specs.declared.arithmetic.ArithOp.{ArithOp}
use Rattle.t3_ops.specs.declared.arithmetic.ArithOp.TheVariants as ops
use Rattle.t3_ops.specs.Values.{integer}
use Rattle.t3_ops.specs.Truth.{truth_of}
use Rattle.t3_ops.specs.Adding.{sum_of}
use Rattle.t3_frame_instructions.specs.declared.effect.CodeWhy.{CodeWhy}
use Rattle.t3_frame_instructions.specs.declared.effect.CodeWhy.TheVariants.{Operand, Underflow, Local, Argument}
use Rattle.t3_frame_instructions.specs.Context.{Context, Action, faults, jumps, pops, pops_two}
use Rattle.t3_frame_instructions.specs.Making.{puts}
use Rattle.t3_frame_instructions.specs.declared.relation.Relation.{Relation}
use Rattle.t3_frame_instructions.specs.declared.relation.Relation.TheVariants as relations
use Rattle.t3_frame_instructions.specs.Relations.{related_of, agrees, truth_value_of, turn_limit}
use Rattle.t3_frame_instructions.specs.Pushing.{pushes_or, dup_on, swaps, drops, stack_action}
use Rattle.t3_frame_instructions.specs.Computing.{computes_with, computes, computed_of, adds, tells, tells_truth, math_action, result_of}
use Rattle.t3_frame_instructions.specs.Jumping.{Chosen, chosen_of, goes_by, switches, jumps_if, jumps_where, jumps_by, jumps_by_truth, keeps_if, keeps_on, goes_back, leaves_subroutine, enters_subroutine, return_offset, target_of, target_from_of, jump_action}
use Rattle.t3_good_values.specs.Values.{IsClosed, HasGoodConstants}
use Rattle.t3_good_values.proofs.Sums.{sum_of-good}
use Rattle.t3_good_instructions.specs.Contexts.{IsGoodContext, IsGoodAction}
use Rattle.t3_good_instructions.proofs.Holders.{IsGoodIfAny, good-drop, good-slice_get}
use Rattle.t3_good_instructions.proofs.Actions.{Keeps, KeepsWith, KeepsWithTwo, keeps-goes, keeps-goes-on, keeps-jumps, keeps-jumps-on, keeps-faults, keeps-stops, keeps-puts, keeps-gives, keeps-either, keeps-room, keeps-pushes, keeps-pops, keeps-two}
use Rattle.t3_good_instructions.proofs.Making.{good-truth, good-told, good-computed, keeps-makes}

-- numbers below 2^31, and what is left of one by another, are integers
pub number-fits : (n : ℕ) → n < 2 ^ 31 → FitsSigned w32 (pos n)
number-fits n few = record { sfits = few }

difference-fits : (m n : ℕ) → m < 2 ^ 31 → n < 2 ^ 31 → FitsSigned w32 (pos m -ℤ pos n)
difference-fits m n few also = search (rules, ints)

module _ (Good : Holder → Type 0) (closed : IsClosed Good) where
  -- ---- moving

  keeps-variable : (why : CodeWhy) (value : Option Holder) → IsGoodIfAny Good value → Keeps Good (pushes_or why value)
  keeps-variable why (Some value) good context has = keeps-pushes Good value good context has
  keeps-variable why None good context has = keeps-stops Good why context has

  keeps-local : (n : ℕ) (context : Context) → IsGoodContext Good context
      → IsGoodAction Good (pushes_or Local (slice_get context.frame.locals n) context)
  keeps-local n context has =
      keeps-variable Local (slice_get context.frame.locals n) (good-slice_get Good context.frame.locals n has.frame.locals) context has

  keeps-argument : (n : ℕ) (context : Context) → IsGoodContext Good context
      → IsGoodAction Good (pushes_or Argument (slice_get context.frame.arguments n) context)
  keeps-argument n context has =
      keeps-variable Argument (slice_get context.frame.arguments n) (good-slice_get Good context.frame.arguments n has.frame.arguments)
      context has

  keeps-dup : (operands : List Holder) → AllByRecursion Good operands → Keeps Good (dup_on operands)
  keeps-dup (value ∷ rest) good context has = keeps-pushes Good value good.0 context has
  keeps-dup [] good context has = keeps-stops Good Underflow context has

  keeps-swap : KeepsWithTwo Good swaps
  keeps-swap upper lower good also context has =
      keeps-goes Good (lower ∷ upper ∷ context.frame.operands) context (also, (good, has.frame.operands)) has

  pub keeps-stack : (code : StackCode) → Keeps Good (stack_action code)
  keeps-stack (stack.Getlcl1 n) context has = keeps-local n context has
  keeps-stack (stack.Getlcl2 n) context has = keeps-local n context has
  keeps-stack (stack.Getarg1 n) context has = keeps-argument n context has
  keeps-stack (stack.Getarg2 n) context has = keeps-argument n context has
  keeps-stack stack.Pushself context has = keeps-pushes Good context.frame.this has.frame.this context has
  keeps-stack stack.Getargc context has =
      keeps-pushes Good (holders.Int (pos context.frame.given)) (closed.integer _ (number-fits context.frame.given has.frame.given))
      context has
  keeps-stack stack.Dup context has = keeps-dup context.frame.operands has.frame.operands context has
  keeps-stack stack.Disc context has = keeps-pops Good drops (λ value good context has. keeps-goes-on Good context has) context has
  keeps-stack (stack.Disc1 count) context has =
      keeps-goes Good (drop count context.frame.operands) context (good-drop Good count context.frame.operands has.frame.operands) has
  keeps-stack stack.Getr0 context has = keeps-pushes Good context.register has.register context has
  keeps-stack stack.Swap context has = keeps-two Good swaps keeps-swap context has

  -- ---- jumping

  keeps-jumped : (is : Bool) (distance : ℤ) → Keeps Good (jumps_if is distance)
  keeps-jumped true distance context has = keeps-jumps-on Good (target_of distance context) context has
  keeps-jumped false distance context has = keeps-goes-on Good context has

  keeps-where : (where_to : Result Bool Fault) (distance : ℤ) → Keeps Good (jumps_where where_to distance)
  keeps-where (Ok is) distance context has = keeps-jumped is distance context has
  keeps-where (Err fault) distance context has = keeps-faults Good fault context has

  keeps-chosen : (chosen : Chosen) → Keeps Good (goes_by chosen)
  keeps-chosen (Ok (Some found)) context has = keeps-jumps-on Good (target_from_of found.0 found.1) context has
  keeps-chosen (Ok None) context has = keeps-stops Good Operand context has
  keeps-chosen (Err fault) context has = keeps-faults Good fault context has

  keeps-top : (wanted : Bool) (distance : ℤ) (operands : List Holder) → AllByRecursion Good operands
      → Keeps Good (keeps_on wanted distance operands)
  keeps-top wanted distance [] good context has = keeps-stops Good Underflow context has
  keeps-top wanted distance (value ∷ rest) good context has = by (agrees wanted (truth_of value))
    where
      by : (is : Bool) → IsGoodAction Good (keeps_if is distance value rest context)
      by true = keeps-jumps Good (target_of distance context) (value ∷ rest) context good has
      by false = keeps-goes Good rest context good.1 has

  keeps-entered : (distance : ℤ) → Keeps Good (enters_subroutine distance)
  keeps-entered distance context has =
      keeps-room Good _ context (keeps-jumps Good (target_of distance context) (return_offset context ∷ context.frame.operands) context
      (closed.integer _ (difference-fits context.frame.next context.frame.method has.next has.frame.method), has.frame.operands) has) has

  keeps-back : (offset : Option ℤ) → Keeps Good (goes_back offset)
  keeps-back (Some (pos offset)) context has =
      keeps-either Good (nat_lt offset (2 ^ 16)) (jumps (target_from_of context.frame.method (pos offset)) context.frame.operands context)
      (faults faulty.Kind context) (keeps-jumps-on Good (target_from_of context.frame.method (pos offset)) context has)
      (keeps-faults Good faulty.Kind context has)
  keeps-back (Some (negsuc n)) context has = keeps-faults Good faulty.Kind context has
  keeps-back None context has = keeps-faults Good faulty.Kind context has

  keeps-left : (value : Option Holder) → Keeps Good (leaves_subroutine value)
  keeps-left (Some value) context has = keeps-back (integer value) context has
  keeps-left None context has = keeps-stops Good Local context has

  module _ (pools : PoolsValue) where
    keeps-related : (relation : Relation) (distance : ℤ) → Keeps Good (pops_two (jumps_by pools.constants relation distance))
    keeps-related relation distance =
        keeps-two Good (jumps_by pools.constants relation distance)
        (λ y x good also context has. keeps-where (related_of pools.constants context.store relation x y) distance context has)

    keeps-truth : (wanted : Bool) (distance : ℤ) → Keeps Good (pops (jumps_by_truth wanted distance))
    keeps-truth wanted distance =
        keeps-pops Good (jumps_by_truth wanted distance)
        (λ value good context has. keeps-jumped (agrees wanted (truth_of value)) distance context has)

    pub keeps-jump : (code : JumpCode) → Keeps Good (jump_action pools code)
    keeps-jump (jump.Switch count at) context has =
        keeps-pops Good (switches pools count at)
        (λ value good context has. keeps-chosen (chosen_of pools context.store value at count turn_limit) context has) context has
    keeps-jump (jump.Jmp distance) context has = keeps-jumps-on Good (target_of distance context) context has
    keeps-jump (jump.Jt distance) context has = keeps-truth true distance context has
    keeps-jump (jump.Jf distance) context has = keeps-truth false distance context has
    keeps-jump (jump.Je distance) context has = keeps-related relations.Equal distance context has
    keeps-jump (jump.Jne distance) context has = keeps-related relations.Unequal distance context has
    keeps-jump (jump.Jgt distance) context has = keeps-related relations.Greater distance context has
    keeps-jump (jump.Jge distance) context has = keeps-related relations.AtLeast distance context has
    keeps-jump (jump.Jlt distance) context has = keeps-related relations.Less distance context has
    keeps-jump (jump.Jle distance) context has = keeps-related relations.AtMost distance context has
    keeps-jump (jump.Jst distance) context has = keeps-top true distance context.frame.operands has.frame.operands context has
    keeps-jump (jump.Jsf distance) context has = keeps-top false distance context.frame.operands has.frame.operands context has
    keeps-jump (jump.Ljsr distance) context has = keeps-entered distance context has
    keeps-jump (jump.Lret n) context has = keeps-left (slice_get context.frame.locals n) context has

    -- ---- computing

    keeps-one : (op : ArithOp) (number : ℤ) → FitsSigned w32 number → Keeps Good (pops (computes_with op number))
    keeps-one op number fits =
        keeps-pops Good (computes_with op number)
        (λ x good context has. keeps-gives Good (computed_of op (holders.Int number) x)
        (good-computed Good closed op (holders.Int number) x (closed.integer number fits) good) context has)

    keeps-both : (op : ArithOp) → Keeps Good (pops_two (computes op))
    keeps-both op =
        keeps-two Good (computes op)
        (λ y x good also context has. keeps-gives Good (computed_of op x y) (good-computed Good closed op x y also good) context has)

    keeps-told : (relation : Relation) → Keeps Good (pops_two (tells pools.constants relation))
    keeps-told relation =
        keeps-two Good (tells pools.constants relation)
        (λ y x good also context has. keeps-gives Good (result_of truth_value_of (related_of pools.constants context.store relation x y))
        (good-told Good closed (related_of pools.constants context.store relation x y)) context has)

    keeps-truth-told : (wanted : Bool) → Keeps Good (pops (tells_truth wanted))
    keeps-truth-told wanted =
        keeps-pops Good (tells_truth wanted)
        (λ x good context has. keeps-puts Good (truth_value_of (agrees wanted (truth_of x)))
        (good-truth Good closed (agrees wanted (truth_of x))) context has)

    keeps-added : HasGoodConstants Good pools.constants → KeepsWithTwo Good (adds pools.constants)
    keeps-added lists y x good also context has =
        keeps-makes Good closed (sum_of pools.constants context.store x y) puts (keeps-puts Good) context
        (sum_of-good Good pools.constants context.store x y closed lists has.store also good) has

    pub keeps-math : HasGoodConstants Good pools.constants → (code : MathCode) → Keeps Good (math_action pools code)
    keeps-math lists math.Neg context has = keeps-one ops.Sub (pos 0) (record { sfits = omega arith }) context has
    keeps-math lists math.Bnot context has = keeps-one ops.Sub (negsuc 0) (record { sfits = omega arith }) context has
    keeps-math lists math.Add context has = keeps-two Good (adds pools.constants) (keeps-added lists) context has
    keeps-math lists math.Sub context has = keeps-both ops.Sub context has
    keeps-math lists math.Mul context has = keeps-both ops.Mul context has
    keeps-math lists math.Band context has = keeps-both ops.And context has
    keeps-math lists math.Bor context has = keeps-both ops.Or context has
    keeps-math lists math.Shl context has = keeps-both ops.Shl context has
    keeps-math lists math.Ashr context has = keeps-both ops.Ashr context has
    keeps-math lists math.Xor context has = keeps-both ops.Xor context has
    keeps-math lists math.Div context has = keeps-both ops.Div context has
    keeps-math lists math.Mod context has = keeps-both ops.Mod context has
    keeps-math lists math.Not context has = keeps-truth-told false context has
    keeps-math lists math.Boolize context has = keeps-truth-told true context has
    keeps-math lists math.Inc context has = keeps-one ops.Add (pos 1) (record { sfits = omega arith }) context has
    keeps-math lists math.Dec context has = keeps-one ops.Add (negsuc 0) (record { sfits = omega arith }) context has
    keeps-math lists math.Lshr context has = keeps-both ops.Lshr context has
    keeps-math lists math.Eq context has = keeps-told relations.Equal context has
    keeps-math lists math.Ne context has = keeps-told relations.Unequal context has
    keeps-math lists math.Lt context has = keeps-told relations.Less context has
    keeps-math lists math.Le context has = keeps-told relations.AtMost context has
    keeps-math lists math.Gt context has = keeps-told relations.Greater context has
    keeps-math lists math.Ge context has = keeps-told relations.AtLeast context has
