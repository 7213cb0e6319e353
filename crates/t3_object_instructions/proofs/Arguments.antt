-- What is answered of arguments that were turned over is answered of the operands as they were.
use Rattle.std.proofs.Common.{◌≡◌, List, Option, Some, None, Result, Ok, Err, IfOk, refl, sym, ap, subst, ◌∙◌, ℕ, zero, suc, Bool, true, false, ◌==◌, if◌then◌else◌, take, reverse, rules}
use Rattle.t3_holder.specs.declared.holder.Holder.{Holder}
use Rattle.t3_holder.specs.declared.no_memory.NoMemory.{NoMemory}
use Rattle.t3_frames.specs.Frame.{FramesValue, of_newest, with_operands, turned}
use Rattle.t3_store.specs.Store.{StoreValue}
use Rattle.t3_store.specs.Value.{Value}
use Rattle.t3_pools.specs.Pool.{Pool}
use Rattle.t3_ops.specs.declared.fault.Fault.TheVariants.{ArgCount}
use Rattle.t3_ops.specs.declared.fault.Fault.{Fault as FaultName}
use Rattle.t3_ops.specs.declared.builtins.PureBuiltin.{PureBuiltin}
use Rattle.t3_ops.specs.Builtins.{pure_builtin_of}
use Rattle.t3_ops.specs.Saying.{said_text_of}
use Rattle.std.proofs.lemmas.List.{reverse-reverse}
use Rattle.t3_frame_instructions.specs.declared.context.Core.{Core}
use Rattle.t3_frame_instructions.specs.declared.effect.Quiet.{Quiet}
use Rattle.t3_frame_instructions.specs.Effect.{Effect}
use Rattle.t3_frame_instructions.specs.Context.{Context, Action, leaving, with_store, answers, faults}
use Rattle.t3_frame_instructions.specs.Making.{made_with, makes, takes_made}
use Rattle.t3_frame_instructions.specs.Acting.{context_of, Leaves, HasAction, HasDone}
use Rattle.t3_object_instructions.specs.Creating.{arguments, created_with, creates}
use Rattle.t3_kinds.specs.declared.methods.Methods.{Methods}
use Rattle.t3_kinds.specs.Changes.{Deed, changed}
use Rattle.t3_kinds.specs.Methods.{listed_deed}
use Rattle.t3_frame_instructions.specs.Relations.{turn_limit}
use Rattle.t3_object_instructions.specs.Builtins.{gen_by, says, says_text}
use Rattle.t3_object_instructions.specs.Listed.{answers_changed, deed_action}
use Rattle.t3_object_instructions.proofs.Evaluating.{as_well}
use Rattle.t3_object_instructions.proofs.Turning.{drop-turned, take-turned}

-- what an operation comes to
abbrev pub Outcome : Type 0
Outcome = Result (Option (Holder × StoreValue)) FaultName

-- it is answered, and so many operands go
abbrev pub answered : ℕ → Outcome → Context → Action
answered count outcome context = takes_made outcome (λ value context. answers value count context) context

-- the operands of a context, turned over
abbrev pub turned_context : ℕ → Context → Context
turned_context count context = leaving (turned count context.frame.operands) context

-- an action does the same, but for the order of operands that it drops, or that nobody sees any more
pub record IsTurned (count : ℕ) (action : Context → Action) (context : Context) : Type 0 where
  pub asks : (action (turned_context count context)).0 ≡ (action context).0
  pub leaves : (left : Context) → Leaves (action context).0 (action (turned_context count context)).1 left
      → Leaves (action context).0 (action context).1 left

-- after an answer they are dropped
answer-turned : (count : ℕ) (value : Holder) (store : StoreValue) (context : Context)
    → (answers value count (with_store store (turned_context count context))).1 ≡ (answers value count (with_store store context)).1
answer-turned count value store context =
    ap (λ (operands : List Holder). leaving operands (record (with_store store context) { register = value }))
    (drop-turned count context.frame.operands)

same-answered : (count : ℕ) (outcome : Outcome) (context : Context) → IsTurned count (answered count outcome) context
same-answered count (Err fault) context = record { asks = refl; leaves = λ left is. is }
same-answered count (Ok None) context = record { asks = refl; leaves = λ left is. is }
same-answered count (Ok (Some made)) context =
    record { asks = refl; leaves = λ left is. is ∙ answer-turned count made.0 made.1 context }

-- an answer of turned operands
abbrev pub turned_core : ℕ → Core → Core
turned_core count core =
    record core { frames = of_newest (with_operands (turned count core.frames.newest.operands)) core.frames }

pub turned-answer : (act done : Context → Action) (count : ℕ) (old new : Core) (effect : Effect) → IsTurned count done (context_of old)
    → act (context_of old) ≡ done (context_of old) → HasAction done (turned_core count old) effect new → HasAction act old effect new
turned-answer act done count old new effect same is has =
    let context : Context = context_of old in
    let asks : (done context).0 ≡ effect = sym same.asks ∙ has.asks in
    let leaves = subst (λ (e : Effect). Leaves e (done (turned_context count context)).1 (context_of new)) (sym asks) has.leaves in
    record {
      asks = ap (λ (a : Action). a.0) is ∙ asks;
      leaves =
          subst (λ (w : Context). Leaves effect w (context_of new)) (sym (ap (λ (a : Action). a.1) is))
          (subst (λ (e : Effect). Leaves e (done context).1 (context_of new)) asks (same.leaves (context_of new) leaves));
      older = has.older;
      writes = has.writes;
      savepoints = has.savepoints;
    }

-- a creation of turned operands: by the frames as they are then, and by what is to be made
pub turned-creation : (act : Context → Action) (transient : Bool) (count : ℕ) (value wanted : Result Value FaultName) (old new : Core)
    (frames : FramesValue) (r : Result Quiet NoMemory)
    → frames ≡ of_newest (with_operands (turned count old.frames.newest.operands)) old.frames
    → act (context_of old) ≡ creates transient count wanted (context_of old) → value ≡ wanted
    → IfOk r (λ effect. HasDone (creates transient count value) (record old { frames = frames }) effect new)
    → IfOk r (λ effect. HasDone act old effect new)
turned-creation act transient count value wanted old new frames (Ok effect) turned-is acts same has =
    turned-answer act (answered count (created_with transient wanted old.store.store)) count old new _
    (same-answered count (created_with transient wanted old.store.store) (context_of old)) acts
    (as_well (creates transient count wanted) (answered count (created_with transient wanted old.store.store)) (turned_core count old) _ new refl
    (subst (λ (v : Result Value FaultName). HasDone (creates transient count v) (turned_core count old) effect new) same
    (subst (λ (f : FramesValue). HasDone (creates transient count value) (record old { frames = f }) effect new) turned-is has)))
turned-creation act transient count value wanted old new frames (Err refusal) turned-is acts same has = tt

-- ---- built-in functions

-- what a function of the general set is given arguments that were turned over
pub turned-pure : (constants : Pool) (builtin : PureBuiltin) (index count : ℕ) (found : Option PureBuiltin) (old new : Core)
    (frames : FramesValue) (r : Result Quiet NoMemory) → found ≡ Some builtin
    → frames ≡ of_newest (with_operands (turned count old.frames.newest.operands)) old.frames
    → IfOk r (λ effect. HasDone (λ context. makes (pure_builtin_of constants context.store index (reverse (arguments count context)))
    (λ value context. answers value count context) context) (record old { frames = frames }) effect new)
    → IfOk r (λ effect. HasDone (gen_by constants found index count) old effect new)
turned-pure constants builtin index count found old new frames (Ok effect) is turned-is has =
    let context : Context = context_of old in
    let operands = old.frames.newest.operands in
    let outcome : Outcome = made_with (pure_builtin_of constants old.store.store index (take count operands)) old.store.store in
    let args : reverse (take count (turned count operands)) ≡ take count operands =
    ap reverse (take-turned count operands) ∙ reverse-reverse (take count operands) in
    turned-answer (gen_by constants found index count) (answered count outcome) count old new _ (same-answered count outcome context)
    (ap (λ f. gen_by constants f index count context) is)
    (as_well
    (λ context. makes (pure_builtin_of constants context.store index (reverse (arguments count context)))
    (λ value context. answers value count context) context)
    (answered count outcome) (turned_core count old) _ new
    (ap (λ (xs : List Holder). answered count (made_with (pure_builtin_of constants old.store.store index xs) old.store.store)
    (turned_context count context)) args)
    (subst (λ (f : FramesValue). HasDone
    (λ context. makes (pure_builtin_of constants context.store index (reverse (arguments count context)))
    (λ value context. answers value count context) context)
    (record old { frames = f }) effect new) turned-is has))
turned-pure constants builtin index count found old new frames (Err refusal) is turned-is has = tt

-- ---- methods of metaclasses

same-deed : (count : ℕ) (wanted : Result (Deed × ℕ) FaultName) (context : Context) → IsTurned count (deed_action wanted count) context
same-deed count (Err fault) context = record { asks = refl; leaves = λ left is. is }
same-deed count (Ok done) context =
    record { asks = asks (changed done.0.changes context.store); leaves = leaves (changed done.0.changes context.store) }
  where
    asks : (r : Bool × StoreValue)
        → (answers_changed done.0.answer count r (turned_context count context)).0 ≡ (answers_changed done.0.answer count r context).0
    asks (true, store) = refl
    asks (false, store) = refl

    leaves : (r : Bool × StoreValue) (left : Context)
        → Leaves (answers_changed done.0.answer count r context).0 (answers_changed done.0.answer count r (turned_context count context)).1 left
        → Leaves (answers_changed done.0.answer count r context).0 (answers_changed done.0.answer count r context).1 left
    leaves (true, store) left is = is ∙ answer-turned count done.0.answer store context
    leaves (false, store) left is = is

-- what a method is given arguments that were turned over
pub turned-deed : (constants : Pool) (kind : Methods) (index : ℕ) (this : Holder) (count : ℕ) (old new : Core) (frames : FramesValue)
    (r : Result Quiet NoMemory)
    → frames ≡ of_newest (with_operands (turned count old.frames.newest.operands)) old.frames
    → IfOk r (λ effect. HasDone (λ context. deed_action
    (listed_deed constants context.store turn_limit kind index this (reverse (arguments count context))) count context)
    (record old { frames = frames }) effect new)
    → IfOk r (λ effect. HasDone (λ context. deed_action
    (listed_deed constants context.store turn_limit kind index this (arguments count context)) count context) old effect new)
turned-deed constants kind index this count old new frames (Ok effect) turned-is has =
    let context : Context = context_of old in
    let operands = old.frames.newest.operands in
    let wanted : List Holder → Result (Deed × ℕ) FaultName = λ args. listed_deed constants old.store.store turn_limit kind index this args in
    let args : reverse (take count (turned count operands)) ≡ take count operands =
    ap reverse (take-turned count operands) ∙ reverse-reverse (take count operands) in
    turned-answer
    (λ context. deed_action (listed_deed constants context.store turn_limit kind index this (arguments count context)) count context)
    (deed_action (wanted (take count operands)) count) count old new _ (same-deed count (wanted (take count operands)) context) refl
    (as_well
    (λ context. deed_action (listed_deed constants context.store turn_limit kind index this (reverse (arguments count context))) count context)
    (deed_action (wanted (take count operands)) count) (turned_core count old) _ new
    (ap (λ (xs : List Holder). deed_action (wanted xs) count (turned_context count context)) args)
    (subst (λ (f : FramesValue). HasDone (λ context. deed_action
    (listed_deed constants context.store turn_limit kind index this (reverse (arguments count context))) count context)
    (record old { frames = f }) effect new) turned-is has))
turned-deed constants kind index this count old new frames (Err refusal) turned-is has = tt

-- ---- saying

says-some : (constants : Pool) (count : ℕ) (context : Context) → (count ≡ 0 → ⊥)
    → says constants count context ≡ says_text count (said_text_of constants context.store (arguments count context)) context
says-some constants zero context some = absurd (some refl)
says-some constants (suc n) context some =
    let other : (suc n == 0) ≡ false = search rules in
    ap (λ b. if b then faults ArgCount context
    else says_text (suc n) (said_text_of constants context.store (arguments (suc n) context)) context) other

-- what is said of these arguments, of which there are some
pub texts_said : (constants : Pool) (count : ℕ) (old : Core) (args : List Holder) (text : Result (List ℕ) FaultName) → (count ≡ 0 → ⊥)
    → args ≡ take count old.frames.newest.operands → text ≡ said_text_of constants old.store.store args
    → says constants count (context_of old) ≡ says_text count text (context_of old)
texts_said constants count old args text some are is =
    says-some constants count (context_of old) some
    ∙ ap (λ (xs : List Holder). says_text count (said_text_of constants old.store.store xs) (context_of old)) (sym are)
    ∙ ap (λ (t : Result (List ℕ) FaultName). says_text count t (context_of old)) (sym is)
