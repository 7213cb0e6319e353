-- What is left where an object was to be made.
use Rattle.std.proofs.Common.{◌≡◌, ◌+◌, ◌≤◌, ◌<◌, [], Option, Some, None, Result, Ok, Err, refl, sym, ap, subst, ◌∙◌, arith}
use Rattle.t3_holder.specs.declared.holder.Holder.{Holder}
use Rattle.t3_frames.specs.Frame.{FramesValue, all_values}
use Rattle.t3_store.specs.Store.{StoreValue}
use Rattle.t3_ops.specs.declared.fault.Fault.{Fault as FaultName}
use Rattle.t3_ops.specs.declared.outcome.OpRefusal.{OpRefusal}
use Rattle.t3_ops.specs.declared.outcome.OpRefusal.TheVariants as refusals
use Rattle.t3_ops.specs.Making.{Made, made_in, made_or_full, carry_out_of, IsCarriedOut}
use Rattle.t3_frame_instructions.specs.declared.context.Core.{Core}
use Rattle.t3_frame_instructions.specs.Effect.{Effect, Fault, StoreFull}
use Rattle.t3_frame_instructions.specs.Context.{Context, Action, leaving, with_store}
use Rattle.t3_frame_instructions.specs.Making.{makes, made_with, takes_made}
use Rattle.t3_frame_instructions.specs.Acting.{context_of, Leaves, HasAction}

-- ---- what an operation comes to

or_value : Result (Holder × StoreValue) OpRefusal → Holder × StoreValue → Holder × StoreValue
or_value (Ok found) other = found
or_value (Err refusal) other = other

same_Ok : (x y : Holder × StoreValue) → ◌≡◌ {A = Result (Holder × StoreValue) OpRefusal} (Ok x) (Ok y) → x ≡ y
unfolding or_value
same_Ok x y is = ap (λ r. or_value r x) is

or_fault : Result (Holder × StoreValue) OpRefusal → FaultName → FaultName
or_fault (Err (refusals.Fault found)) other = found
or_fault (Err refusals.Full) other = other
or_fault (Err refusals.NoMemory) other = other
or_fault (Ok found) other = other

same_fault : (f g : FaultName) → ◌≡◌ {A = Result (Holder × StoreValue) OpRefusal} (Err (refusals.Fault f)) (Err (refusals.Fault g)) → f ≡ g
unfolding or_fault
same_fault f g is = ap (λ r. or_fault r f) is

made-ok : (wanted : Result Made FaultName) (store : StoreValue) (made : Holder × StoreValue) → carry_out_of wanted store ≡ Ok made
    → made_with wanted store ≡ Ok (Some made)
made-ok (Err fault) store made is = absurd cc
made-ok (Ok what) store made is = by (made_in what store) is
  where
    by : (o : Option (Holder × StoreValue)) → made_or_full o ≡ Ok made
        → ◌≡◌ {A = Result (Option (Holder × StoreValue)) FaultName} (Ok o) (Ok (Some made))
    by None e = absurd cc
    by (Some found) e = ap (λ (p : Holder × StoreValue). Ok (Some p)) (same_Ok found made e)

made-fault : (wanted : Result Made FaultName) (store : StoreValue) (fault : FaultName) → carry_out_of wanted store ≡ Err (refusals.Fault fault)
    → made_with wanted store ≡ Err fault
made-fault (Err found) store fault is = ap Err (same_fault found fault is)
made-fault (Ok what) store fault is = by (made_in what store) is
  where
    by : (o : Option (Holder × StoreValue)) → made_or_full o ≡ Err (refusals.Fault fault)
        → ◌≡◌ {A = Result (Option (Holder × StoreValue)) FaultName} (Ok o) (Err fault)
    by None e = absurd cc
    by (Some found) e = absurd cc

made-full : (wanted : Result Made FaultName) (store : StoreValue) → carry_out_of wanted store ≡ Err refusals.Full
    → made_with wanted store ≡ Ok None
made-full (Err found) store is = absurd cc
made-full (Ok what) store is = by (made_in what store) is
  where
    by : (o : Option (Holder × StoreValue)) → made_or_full o ≡ Err refusals.Full
        → ◌≡◌ {A = Result (Option (Holder × StoreValue)) FaultName} (Ok o) (Ok None)
    by None e = refl
    by (Some found) e = absurd cc

-- ---- what a core is left as

-- nothing but the objects has changed, by no write and no savepoint
pub record KeepsFrames (old new : Core) : Type 0 where
  pub frames : new.frames ≡ old.frames
  pub register : new.register ≡ old.register
  pub say : new.say ≡ old.say
  pub writes : new.store.writes ≡ old.store.writes
  pub savepoints : new.store.savepoints ≡ old.store.savepoints

-- what is seen then is what was seen, with the objects as they are
seen : (old new : Core) → KeepsFrames old new → context_of new ≡ with_store new.store.store (context_of old)
seen old new keeps =
    λ i. record {
      frame = (keeps.frames i).newest;
      others = all_values (keeps.frames i).older;
      register = keeps.register i;
      store = new.store.store;
      say = keeps.say i;
    }

-- the same where the objects haven't changed either
seen-same : (old new : Core) → KeepsFrames old new → new.store.store ≡ old.store.store → context_of new ≡ context_of old
seen-same old new keeps same = seen old new keeps ∙ ap (λ s. with_store s (context_of old)) same

-- an action is done by what it comes to, where all that there is to see has stayed
ended : (action : Context → Action) (old new : Core) (effect : Effect) → action (context_of old) ≡ (effect, context_of old)
    → Leaves effect (context_of old) (context_of new) → KeepsFrames old new → HasAction action old effect new
ended action old new effect is leaves keeps =
    let writes = keeps.writes in
    let savepoints = keeps.savepoints in
    record {
      asks = ap (λ (a : Action). a.0) is;
      leaves = subst (λ (w : Context). Leaves effect w (context_of new)) (sym (ap (λ (a : Action). a.1) is)) leaves;
      older = ap (λ (f : FramesValue). f.older) keeps.frames;
      writes = omega (arith, writes);
      savepoints = omega (arith, savepoints);
    }

-- the fault is asked for
pub carried-fault : (action : Context → Action) (wanted : Result Made FaultName) (act : Holder → Context → Action) (old new : Core)
    (refusal : OpRefusal) (fault : FaultName) → action (context_of old) ≡ makes wanted act (context_of old) → refusal ≡ refusals.Fault fault
    → IsCarriedOut wanted old.store.store (Err refusal) new.store.store → KeepsFrames old new → HasAction action old (Fault fault) new
carried-fault action wanted act old new refusal fault is named carried keeps =
    let told = subst (λ r. IsCarriedOut wanted old.store.store (Err r) new.store.store) named carried in
    ended action old new (Fault fault) (is ∙ ap (λ made. takes_made made act (context_of old)) (made-fault wanted old.store.store fault told.0))
    (ap (leaving []) (seen-same old new keeps told.1)) keeps

-- the run ends, since there is no room
pub carried-full : (action : Context → Action) (wanted : Result Made FaultName) (act : Holder → Context → Action) (old new : Core)
    (refusal : OpRefusal) → action (context_of old) ≡ makes wanted act (context_of old) → refusal ≡ refusals.Full
    → IsCarriedOut wanted old.store.store (Err refusal) new.store.store → KeepsFrames old new → HasAction action old StoreFull new
carried-full action wanted act old new refusal is named carried keeps =
    let told = subst (λ r. IsCarriedOut wanted old.store.store (Err r) new.store.store) named carried in
    ended action old new StoreFull (is ∙ ap (λ made. takes_made made act (context_of old)) (made-full wanted old.store.store told.0)) (ap (leaving []) (seen-same old new keeps told.1)) keeps

-- the rest goes on with the value
pub carried-ok : (action : Context → Action) (wanted : Result Made FaultName) (act : Holder → Context → Action) (old between new : Core)
    (value : Holder) (effect : Effect) → action (context_of old) ≡ makes wanted act (context_of old)
    → IsCarriedOut wanted old.store.store (Ok value) between.store.store → KeepsFrames old between → HasAction (act value) between effect new
    → HasAction action old effect new
carried-ok action wanted act old between new value effect is carried keeps rest =
    let same : action (context_of old) ≡ act value (context_of between) =
    is ∙ ap (λ made. takes_made made act (context_of old)) (made-ok wanted old.store.store (value, between.store.store) carried)
    ∙ ap (act value) (sym (seen old between keeps)) in
    let before = keeps.writes in
    let marks = keeps.savepoints in
    let writes = rest.writes in
    let savepoints = rest.savepoints in
    record {
      asks = ap (λ (a : Action). a.0) same ∙ rest.asks;
      leaves = subst (λ (w : Context). Leaves effect w (context_of new)) (sym (ap (λ (a : Action). a.1) same)) rest.leaves;
      older = rest.older ∙ ap (λ (f : FramesValue). f.older) keeps.frames;
      writes = omega (arith, writes, before);
      savepoints = omega (arith, savepoints, marks);
    }

-- ---- what is done once the objects have changed

-- an action is done by what it comes to then, where there were few writes
pub stored : (action act : Context → Action) (old between new : Core) (effect : Effect)
    → action (context_of old) ≡ act (context_of between) → between.frames.older ≡ old.frames.older → HasAction act between effect new
    → new.store.writes < old.store.writes + 131072 → new.store.savepoints ≤ old.store.savepoints + 1 → HasAction action old effect new
stored action act old between new effect is older rest writes savepoints = record {
  asks = ap (λ (a : Action). a.0) is ∙ rest.asks;
  leaves = subst (λ (w : Context). Leaves effect w (context_of new)) (sym (ap (λ (a : Action). a.1) is)) rest.leaves;
  older = rest.older ∙ older;
  writes = writes;
  savepoints = savepoints;
}
