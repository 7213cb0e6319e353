use Rattle.std.proofs.Common.{subst, arith}
use Rattle.t3_snapshot.specs.State.{IsSoundState, trimmed}
use Rattle.t3_interp.specs.declared.machine.Whole.{Whole}
use Rattle.t3_interp.specs.Machine.{MachineValue}
use Rattle.t3_interp.proofs.SavedTaken.{IsToldOf, sound-saved}
use Rattle.t3_interp.proofs.machine.Machine.can_be_saved.Goals as goal

pub returns : goal.returns
returns c =
    let told : IsToldOf c.deref.result.now.running.core.store.store =
    record {
      limits = c.objects.ensures.limits;
      objects = omega (arith, c.objects.ensures.bound, c.objects.ensures.objects);
      units = c.units.ensures.persistent;
      fitting = c.units.ensures.fitting;
      distinct = c.units.ensures.distinct;
      whole = c.units.ensures.whole;
    } in
    subst (λ (m : MachineValue). IsSoundState (trimmed m.state.store.persistent) m.state.store.next) c.self.view_is
    (sound-saved c.self.inside.whole.value.running.core.store.store c.self.invariant.2.state.store
    (subst (λ (w : Whole). IsToldOf w.running.core.store.store) c.deref.ensures told))
