-- A state that is saved is taken, where it fits, by each state of the same program that waits for a file.
use Rattle.std.proofs.Common.{◌≡◌, ◌≢◌, ◌+◌, ◌≤◌, ℕ, List, [], ◌∷◌, Option, Some, None, refl, sym, ap, subst, ◌∙◌, arith}
use Rattle.std.specs.FinMap.{get}
use Rattle.t3_holder.specs.declared.holder.Holder.{Holder}
use Rattle.t3_holder.specs.declared.holder.Holder.TheVariants.{Nil}
use Rattle.t3_store.specs.Value.{Value, Objects, units_in, HasFittingLength}
use Rattle.t3_store.specs.Distinct.{HasDistinctEntries}
use Rattle.t3_store.specs.Whole.{IsWhole, supers_in}
use Rattle.t3_store.specs.Store.{StoreValue, AreLimits, objects_in, either, value_at, admit_of, replaced}
use Rattle.t3_store.specs.declared.admit.Admit.TheVariants.{Fits}
use Rattle.t3_store.specs.Invariant.{HoldsOfEach}
use Rattle.t3_snapshot.specs.Good.{HasGoodParts}
use Rattle.t3_snapshot.specs.Layout.{IsGoodHolder}
use Rattle.t3_snapshot.specs.Read.{IsRead}
use Rattle.t3_snapshot.specs.State.{One, IsSoundState, Spells, trimmed}
use Rattle.t3_snapshot.proofs.Answers.{one_read}
use Rattle.t3_snapshot.proofs.GoodObjects.{good_savable}
use Rattle.t3_snapshot.proofs.OneState.{one_state}
use Rattle.t3_snapshot.proofs.Savable.{savable_sound}
use Rattle.t3_snapshot.proofs.Sizes.{read_back}
use Rattle.t3_load.specs.Loading.{ProgramValue}
use Rattle.t3_good_values.specs.Stores.{IsGoodStore}
use Rattle.t3_good_instructions.specs.Contexts.{IsGoodProgram}
use Rattle.t3_frames.specs.Frame.{FrameValue}
use Rattle.t3_interp.specs.declared.event.Event.{Event}
use Rattle.t3_interp.specs.declared.event.Event.TheVariants.{Went, WantPut}
use Rattle.t3_interp.specs.declared.event.Input.{Input}
use Rattle.t3_interp.specs.declared.event.Input.TheVariants.{Go, Line, EndOfInput, Stored, File, NoFile}
use Rattle.t3_interp.specs.Machine.{State}
use Rattle.t3_interp.specs.Good.{IsGoodInput, IsGoodState}
use Rattle.t3_interp.specs.Step.{After, after_admit, after_file, answered, finished, state_bytes, IsStateFile, ReadsState, StepsBy, TakesFile}
use Rattle.t3_interp.specs.Wanting.{HasFrame, WantsOn, AnswersOn}
use Rattle.t3_interp.proofs.GoodSaved.{good-trimmed}
use Rattle.t3_interp.proofs.Runs.{wants_on, input_answers}

-- what a store tells of all of its objects, of the persistent ones
pub record IsToldOf (s : StoreValue) : Type 0 where
  pub limits : AreLimits s.limits
  pub objects : objects_in s ≤ s.limits.objects
  pub units : units_in s.persistent ≤ s.limits.units
  pub fitting : (number : ℕ) (value : Value) → value_at s number ≡ Some value → HasFittingLength value
  pub distinct : (number : ℕ) (value : Value) → value_at s number ≡ Some value → HasDistinctEntries value
  pub whole : IsWhole (supers_in s.persistent)

pub sound-saved : (s : StoreValue) → IsGoodStore IsGoodHolder s → IsToldOf s → IsSoundState (trimmed s.persistent) s.next
sound-saved s good told =
    let live : (number : ℕ) (value : Value) → get s.persistent number ≡ Some value → value_at s number ≡ Some value =
    λ number value there. ap (λ o. either o (get s.transient number)) there in
    savable_sound s.next s.persistent
    (good_savable s.persistent s.next good.persistent good.next.1 told.whole (omega (arith, told.objects, told.limits.objects))
    (omega (arith, told.units, told.limits.units))
    (λ number value there.
    (told.fitting number value (live number value there), told.distinct number value (live number value there))))

module _ (of program : ProgramValue) (same : program.fingerprint ≡ of.fingerprint) (stored : StoreValue)
    (sound : IsSoundState (trimmed stored.persistent) stored.next) (bytes : List ℕ) (is : bytes ≡ state_bytes of stored)
    (file : IsStateFile of.fingerprint bytes) where
  spells : Spells (trimmed stored.persistent) stored.next program.fingerprint bytes
  spells =
      subst (λ (f : List ℕ). Spells (trimmed stored.persistent) stored.next f bytes) (sym same)
      (subst (Spells (trimmed stored.persistent) stored.next of.fingerprint) (sym is)
      (read_back One (trimmed stored.persistent) stored.next of.fingerprint file.long sound))

  is-read : (read : Option (Objects × ℕ)) → ReadsState program.fingerprint bytes read → IsRead program.fingerprint bytes read
  is-read (Some read) reads = reads.1
  is-read None reads = reads (subst (λ (f : List ℕ). IsStateFile f bytes) (sym same) file)

  pub taken : (state : State) (frame : FrameValue) (older : List FrameValue) (after : After) → state.frames ≡ frame ∷ older
      → admit_of (trimmed stored.persistent) state.store ≡ Fits → TakesFile program bytes state.frames state after
      → after ≡ answered Nil frame older (record state { store = replaced (trimmed stored.persistent) stored.next state.store })
  taken state frame older after frames fits takes = by (subst (λ (all : List FrameValue). TakesFile program bytes all state after) frames takes)
    where
      by : TakesFile program bytes (frame ∷ older) state after
          → after ≡ answered Nil frame older (record state { store = replaced (trimmed stored.persistent) stored.next state.store })
      by (read, reads, comes) =
          comes
          ∙ ap (λ (r : Option (Objects × ℕ)). after_file program r frame older state)
          (one_read program.fingerprint bytes read (Some (trimmed stored.persistent, stored.next)) (is-read read reads) spells)
          ∙ ap (λ a. after_admit program a (trimmed stored.persistent) stored.next frame older state) fits

  pub good-file : (Good : Holder → Type 0) → IsGoodProgram Good of → (state : State) → state.store ≡ stored → IsGoodState Good state
      → IsGoodInput Good program (File bytes)
  good-file Good static state same good objects next other =
      let store : IsGoodStore Good stored = subst (IsGoodStore Good) same good.store in
      let one = one_state (trimmed stored.persistent) objects stored.next next program.fingerprint bytes spells other in
      subst (λ (o : Objects). HoldsOfEach (HasGoodParts Good) o) one.0
      (good-trimmed Good static.closed.nil stored.persistent store.persistent.parts)

-- ---- what is put

-- where nothing waits, an input tells nothing
told-nothing : (program : ProgramValue) (input : Input) (state : State) (after : After) → state.frames ≡ [] → input ≢ Go
    → StepsBy program input state after → after.event ≡ Went
told-nothing program Go state after none other by = absurd (other refl)
told-nothing program (Line text) state after none other by =
    ap (λ (a : After). a.event) (by ∙ ap (λ (fs : List FrameValue). finished program (Line text) fs state) none)
told-nothing program EndOfInput state after none other by =
    ap (λ (a : After). a.event) (by ∙ ap (λ (fs : List FrameValue). finished program EndOfInput fs state) none)
told-nothing program Stored state after none other by =
    ap (λ (a : After). a.event) (by ∙ ap (λ (fs : List FrameValue). finished program Stored fs state) none)
told-nothing program NoFile state after none other by =
    ap (λ (a : After). a.event) (by ∙ ap (λ (fs : List FrameValue). finished program NoFile fs state) none)
told-nothing program (File bytes) state after none other by =
    ap (λ (a : After). a.event) (subst (λ (fs : List FrameValue). TakesFile program bytes fs state after) none by)

-- and what finishes an instruction puts nothing
by-input : (program : ProgramValue) (input : Input) (frames : List FrameValue) (state : State) (after : After) (name stored : List ℕ)
    → state.frames ≡ frames → input ≢ Go → StepsBy program input state after → after.event ≢ WantPut name stored
by-input program input [] state after name stored framed other by is =
    let clash : Went ≡ WantPut name stored = sym (told-nothing program input state after framed other by) ∙ is in absurd cc
by-input program input (frame ∷ older) state after name stored framed other by is =
    let has : HasFrame state.frames = subst HasFrame (sym framed) tt in
    subst (λ (e : Event). AnswersOn state.steps e after.state) is (input_answers program input state after has other by)

pub put-is : (program : ProgramValue) (input : Input) (state : State) (after : After) (name stored : List ℕ) → StepsBy program input state after
    → after.event ≡ WantPut name stored → stored ≡ state_bytes program after.state.store
put-is program Go state after name stored by is =
    (subst (λ (e : Event). WantsOn program (state.steps + 1) e after.state) is (wants_on program state after by)).3
put-is program input state after name stored by is =
    absurd (by-input program input state.frames state after name stored refl (λ e. absurd cc) by is)
