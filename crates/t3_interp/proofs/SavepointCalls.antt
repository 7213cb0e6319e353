-- Instructions that call savepoint() or undo(), and those that don't.
use Rattle.std.proofs.Common.{◌≡◌, ℕ, ◌==◌, ◌-◌, ◌&&◌, ◌||◌, rules, Bool, true, false, if◌then◌else◌, length, Option, Some, None, refl, ap, arith, ◌∙◌}
use Rattle.std.specs.List.{slice_get}
use Rattle.std.proofs.lemmas.Bool.{le-ltb}
use Rattle.t3_methods.specs.declared.instr.Instr.TheVariants as of
use Rattle.t3_methods.specs.declared.instr.MakeCode.{MakeCode}
use Rattle.t3_methods.specs.declared.instr.MakeCode.TheVariants as make
use Rattle.t3_methods.specs.declared.decoded.Slot.TheVariants.{NoSlot}
use Rattle.t3_methods.specs.InstructionTable.{row_of}
use Rattle.t3_ops.specs.Builtins.{pure_at}
use Rattle.t3_frames.specs.Frame.{FrameValue}
use Rattle.t3_load.specs.Loading.{ProgramValue}
use Rattle.t3_load.specs.declared.sets.SetKind.{SetKind}
use Rattle.t3_load.specs.declared.sets.SetKind.TheVariants.{Gen, Io, Vm}
use Rattle.t3_frame_instructions.specs.declared.effect.CodeWhy.TheVariants as why
use Rattle.t3_frame_instructions.specs.Context.{Context}
use Rattle.t3_object_instructions.specs.Savepoints.{savepoint_function, undo_function}
use Rattle.t3_object_instructions.specs.Steady.{is_bare_call, calls_bare, is_steady_make}
use Rattle.t3_object_instructions.specs.Builtins.{gen_by, set_action}
use Rattle.t3_object_instructions.specs.Instructions.{make_action}
use Rattle.t3_interp.specs.Step.{lack_of}

-- what is called neither as savepoint() nor as undo()
pub other-make : (program : ProgramValue) (code : MakeCode) → (calls_bare savepoint_function program code ≡ true → ⊥)
    → (calls_bare undo_function program code ≡ true → ⊥) → is_steady_make program code ≡ false
other-make program code not_saved not_undone =
    by (calls_bare savepoint_function program code) (calls_bare undo_function program code) not_saved not_undone
  where
    by : (a b : Bool) → (a ≡ true → ⊥) → (b ≡ true → ⊥) → a || b ≡ false
    by true b first second = absurd (first refl)
    by false true first second = absurd (second refl)
    by false false first second = refl

pub record IsBare (wanted : ℕ) (set : Option SetKind) (index count : ℕ) : Type 0 where
  pub general : set ≡ Some Gen
  pub index_is : index ≡ wanted
  pub bare : count ≡ 0

bare-is : (wanted : ℕ) (set : Option SetKind) (index count : ℕ) → is_bare_call wanted set index count ≡ true → IsBare wanted set index count
bare-is wanted (Some Gen) index count is = by (index == wanted) (count == 0) refl refl is
  where
    by : (a b : Bool) → (index == wanted) ≡ a → (count == 0) ≡ b → a && b ≡ true → IsBare wanted (Some Gen) index count
    by true true same none is = record { general = refl; index_is = search rules; bare = search rules }
    by true false same none is = absurd cc
    by false b same none is = absurd cc
bare-is wanted (Some Io) index count is = absurd cc
bare-is wanted (Some Vm) index count is = absurd cc
bare-is wanted None index count is = absurd cc

-- what such an instruction does, and that it lacks nothing
pub record IsCalled (wanted : ℕ) (program : ProgramValue) (code : MakeCode) (frame : FrameValue) (context : Context) : Type 0 where
  pub acts : make_action program code context ≡ gen_by program.pools.constants (pure_at wanted) wanted 0 context
  pub lacks : lack_of (row_of (of.Make code)).takes (row_of (of.Make code)).slot frame ≡ None

called : (wanted : ℕ) (program : ProgramValue) (code : MakeCode) (frame : FrameValue) (context : Context) (set : Option SetKind) (index count : ℕ)
    → make_action program code context ≡ set_action program.pools.constants set index count context
    → (row_of (of.Make code)).takes ≡ count → (row_of (of.Make code)).slot ≡ NoSlot → is_bare_call wanted set index count ≡ true
    → IsCalled wanted program code frame context
called wanted program code frame context set index count acts takes slot is =
    let bare = bare-is wanted set index count is in
    let constants = program.pools.constants in
    record {
      acts =
          acts
          ∙ (λ i. set_action constants (bare.general i) (bare.index_is i) (bare.bare i) context);
      lacks =
          (λ i. lack_of ((takes ∙ bare.bare) i) (slot i) frame)
          ∙ ap (λ b. if b then Some why.Underflow else None) (le-ltb (length frame.operands) 0 (omega arith));
    }

pub calls-bare : (wanted : ℕ) (program : ProgramValue) (code : MakeCode) (frame : FrameValue) (context : Context)
    → calls_bare wanted program code ≡ true → IsCalled wanted program code frame context
calls-bare wanted program (make.Builtina count index) frame context is =
    called wanted program _ frame context (slice_get program.sets 0) index count refl refl refl is
calls-bare wanted program (make.Builtinb count index) frame context is =
    called wanted program _ frame context (slice_get program.sets 1) index count refl refl refl is
calls-bare wanted program (make.Builtinc count index) frame context is =
    called wanted program _ frame context (slice_get program.sets 2) index count refl refl refl is
calls-bare wanted program (make.Builtind count index) frame context is =
    called wanted program _ frame context (slice_get program.sets 3) index count refl refl refl is
calls-bare wanted program (make.Builtin1 count index set) frame context is =
    called wanted program _ frame context (slice_get program.sets set) index count refl refl refl is
calls-bare wanted program _ frame context is = absurd cc
