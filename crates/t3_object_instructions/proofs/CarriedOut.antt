-- What a method of a metaclass comes to, once it was carried out.
use Rattle.std.proofs.Common.{◌≡◌, ℕ, ◌+◌, ◌<◌, Result, Ok, Err, refl, sym, ap, subst, ◌∙◌, arith}
use Rattle.t3_holder.specs.declared.holder.Holder.{Holder}
use Rattle.t3_store.specs.Store.{StoreValue}
use Rattle.t3_ops.specs.declared.fault.Fault.{Fault as FaultName}
use Rattle.t3_ops.specs.declared.outcome.OpRefusal.{OpRefusal}
use Rattle.t3_ops.specs.declared.outcome.OpRefusal.TheVariants as refusals
use Rattle.t3_kinds.specs.Changes.{Deed, HasDone as HasMethodDone}
use Rattle.t3_frames.specs.Frame.{FramesValue, all_values}
use Rattle.t3_frame_instructions.specs.declared.context.Core.{Core}
use Rattle.t3_frame_instructions.specs.Effect.{Effect, Fault, StoreFull}
use Rattle.t3_frame_instructions.specs.Context.{Context, Action, faults, fills, answers, with_store}
use Rattle.t3_frame_instructions.specs.Acting.{context_of, Leaves, HasAction}
use Rattle.t3_frame_instructions.proofs.Made.{stored}
use Rattle.t3_object_instructions.specs.Listed.{answers_changed, deed_action}

-- ---- what a deed comes to

module _ (wanted : Result (Deed × ℕ) FaultName) (count : ℕ) (context : Context) (left : StoreValue) (turns : ℕ) where
  -- its answer is given
  pub deed-answers : (value : Holder) → HasMethodDone wanted context.store (Ok value) left turns
      → deed_action wanted count context ≡ answers value count (with_store left context)
  deed-answers value has = by wanted has
    where
      by : (w : Result (Deed × ℕ) FaultName) → HasMethodDone w context.store (Ok value) left turns
          → deed_action w count context ≡ answers value count (with_store left context)
      by (Ok done) has =
          ap (λ r. answers_changed done.0.answer count r context) has.0.1
          ∙ ap (λ v. answers v count (with_store left context)) (sym has.0.0)
      by (Err fault) has = absurd has

  -- the store has no room
  pub deed-fills : HasMethodDone wanted context.store (Err refusals.Full) left turns
      → deed_action wanted count context ≡ fills (with_store left context)
  deed-fills has = by wanted has
    where
      by : (w : Result (Deed × ℕ) FaultName) → HasMethodDone w context.store (Err refusals.Full) left turns
          → deed_action w count context ≡ fills (with_store left context)
      by (Ok done) has = ap (λ r. answers_changed done.0.answer count r context) has.0
      by (Err fault) has = absurd has

  -- it is a fault, and nothing has changed
  pub deed-faults : (fault : FaultName) → HasMethodDone wanted context.store (Err (refusals.Fault fault)) left turns
      → (deed_action wanted count context ≡ faults fault context) × (left ≡ context.store)
  deed-faults fault has = by wanted has
    where
      by : (w : Result (Deed × ℕ) FaultName) → HasMethodDone w context.store (Err (refusals.Fault fault)) left turns
          → (deed_action w count context ≡ faults fault context) × (left ≡ context.store)
      by (Ok done) has = absurd has.0
      by (Err told) has = (ap (λ f. faults f context) (sym has.0), has.1)

-- ---- by what a core is left as

-- the objects alone have changed, by few writes
pub record ChangesObjects (old new : Core) : Type 0 where
  pub frames : new.frames ≡ old.frames
  pub register : new.register ≡ old.register
  pub say : new.say ≡ old.say
  pub writes : new.store.writes < old.store.writes + 131072
  pub savepoints : new.store.savepoints ≡ old.store.savepoints

seen : (old new : Core) → ChangesObjects old new → with_store new.store.store (context_of old) ≡ context_of new
seen old new changes = sym (λ i. record {
  frame = (changes.frames i).newest;
  others = all_values (changes.frames i).older;
  register = changes.register i;
  store = new.store.store;
  say = changes.say i;
})

module _ (action : Context → Action) (wanted : Result (Deed × ℕ) FaultName) (count : ℕ) (old between : Core) (turns : ℕ)
    (is : action (context_of old) ≡ deed_action wanted count (context_of old)) (changes : ChangesObjects old between) where
  -- an action is done that only asks for something
  asked : (effect : Effect) (act : Context → Action) → ((context : Context) → act context ≡ (effect, context))
      → action (context_of old) ≡ act (context_of between) → Leaves effect (context_of between) (context_of between)
      → HasAction action old effect between
  asked effect act asks same leaves =
      let few = changes.writes in
      let savepoints = changes.savepoints in
      stored action act old between between effect same (ap (λ (f : FramesValue). f.older) changes.frames)
      (record {
        asks = ap (λ (a : Action). a.0) (asks (context_of between));
        leaves = subst (λ (w : Context). Leaves effect w (context_of between)) (sym (ap (λ (a : Action). a.1) (asks (context_of between)))) leaves;
        older = refl;
        writes = omega arith;
        savepoints = omega arith;
      })
      few (omega (arith, savepoints))

  pub asks-fault : (refusal : OpRefusal) (fault : FaultName) → refusal ≡ refusals.Fault fault
      → HasMethodDone wanted old.store.store (Err refusal) between.store.store turns → HasAction action old (Fault fault) between
  asks-fault refusal fault named has =
      let told = deed-faults wanted count (context_of old) between.store.store turns fault
      (subst (λ r. HasMethodDone wanted old.store.store (Err r) between.store.store turns) named has) in
      asked (Fault fault) (faults fault) (λ context. refl)
      (is ∙ told.0 ∙ ap (λ s. faults fault (with_store s (context_of old))) (sym told.1) ∙ ap (faults fault) (seen old between changes)) refl

  pub asks-end : (refusal : OpRefusal) → refusal ≡ refusals.Full
      → HasMethodDone wanted old.store.store (Err refusal) between.store.store turns → HasAction action old StoreFull between
  asks-end refusal named has =
      let told = deed-fills wanted count (context_of old) between.store.store turns
      (subst (λ r. HasMethodDone wanted old.store.store (Err r) between.store.store turns) named has) in
      asked StoreFull fills (λ context. refl) (is ∙ told ∙ ap fills (seen old between changes)) refl

  pub gives-answer : (value : Holder) (new : Core) (effect : Effect) → HasMethodDone wanted old.store.store (Ok value) between.store.store turns
      → HasAction (answers value count) between effect new → new.store ≡ between.store → HasAction action old effect new
  gives-answer value new effect has rest same =
      let told = deed-answers wanted count (context_of old) between.store.store turns value has in
      let few = changes.writes in
      let savepoints = changes.savepoints in
      let writes_kept : new.store.writes ≡ between.store.writes = λ i. (same i).writes in
      let savepoints_kept : new.store.savepoints ≡ between.store.savepoints = λ i. (same i).savepoints in
      stored action (answers value count) old between new effect (is ∙ told ∙ ap (answers value count) (seen old between changes))
      (ap (λ (f : FramesValue). f.older) changes.frames) rest (omega (arith, few, writes_kept)) (omega (arith, savepoints, savepoints_kept))
