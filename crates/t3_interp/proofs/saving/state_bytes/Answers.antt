use Rattle.std.proofs.Common.{sym, subst}
use Rattle.t3_store.specs.Value.{Objects}
use Rattle.t3_snapshot.specs.State.{IsSoundState, trimmed}
use Rattle.t3_interp.proofs.saving.state_bytes.Goals as goal

-- what is known of the store's objects makes them a state
pub encode_objects-requires : goal.encode_objects-requires
encode_objects-requires c =
    let store = c.args.store.now.store in
    let told = c.persistent_objects-objects.ensures in
    let saved =
    c.good_objects_can_be_saved.ensures.saved store.persistent store.next c.requires c.next.ensures.numbers.next.1 told.whole told.few told.few_units
    (λ number value there. (told.fitting number value there, told.distinct number value there)) in
    let sound = c.savable_objects.ensures store.persistent store.next saved in
    subst (λ n. IsSoundState (trimmed c.persistent_objects-objects.result) n) (sym c.next.ensures.next)
    (subst (λ (s : Objects). IsSoundState (trimmed s) store.next) (sym told.objects) sound)
