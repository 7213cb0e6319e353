use Rattle.std.proofs.Common.{ℕ, ◌∷◌, Option, Some, subst, sym, ◌∙◌}
use Rattle.t3_store.specs.Value.{Objects}
use Rattle.t3_store.specs.Store.{admit_of}
use Rattle.t3_load.specs.Loading.{ProgramValue}
use Rattle.t3_interp.specs.declared.running.Stage.{Stage}
use Rattle.t3_interp.specs.declared.event.Want.TheVariants.{Go}
use Rattle.t3_interp.specs.Step.{ReadsState, TakesFile}
use Rattle.t3_interp.specs.View.{state_of, comes_to, frames_at}
use Rattle.t3_interp.proofs.GoodRuns.{below_next, admit_elsewhere}
use Rattle.t3_interp.proofs.running.Running.take_file.Goals as goal

pub replace-requires-clause-below : goal.replace-requires-clause-below
replace-requires-clause-below c =
    let read = subst (λ (read : Option (Objects × ℕ)). ReadsState c.program.inside.fingerprint c.args.bytes.now read) c.in-Some.is c.in_ok-state.ensures in
    below_next c.in-Some.state c.in-Some.next (c.good_objects_can_be_saved.ensures.restored c.in-Some.state c.in-Some.next read.1.sound).0.numbered

pub returns-in_ok-replace-in-Some-clause-after : goal.returns-in_ok-replace-in-Some-clause-after
returns-in_ok-replace-in-Some-clause-after c =
    let program = c.args.program.now in
    let old = c.args.self.now in
    let newest = old.core.frames.newest in
    let older = old.core.frames.older in
    let read =
    subst (λ (p : ProgramValue). ReadsState p.fingerprint c.args.bytes.now (Some (c.in-Some.state, c.in-Some.next))) c.program.view_is
    (subst (λ (read : Option (Objects × ℕ)). ReadsState c.program.inside.fingerprint c.args.bytes.now read) c.in-Some.is c.in_ok-state.ensures) in
    let objects = c.in-Some.state in
    let is =
    c.in_ok-replace-in-Some.ensures.after
    ∙ admit_elsewhere program (admit_of objects old.core.store.store) objects c.in-Some.next newest older (state_of old) (newest ∷ older) Go in
    subst (λ (stage : Stage). TakesFile program c.args.bytes.now (frames_at stage newest older) (state_of old) (comes_to c.replace.new.self))
    (sym c.requires.stage) (Some (objects, c.in-Some.next), read, is)
