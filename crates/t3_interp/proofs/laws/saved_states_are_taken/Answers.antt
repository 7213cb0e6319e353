use Rattle.std.proofs.Common.{ℕ, List, refl, subst}
use Rattle.t3_interp.specs.Step.{IsStateFile}
use Rattle.t3_interp.proofs.SavedTaken.{taken, good-file, put-is}
use Rattle.t3_interp.proofs.laws.saved_states_are_taken.Goals as goal

state-file : (g : _) (c : goal.After-is_state_file g) → IsStateFile c.args.machine.now.program.fingerprint c.args.bytes.now
state-file g c = subst (λ (f : List ℕ). IsStateFile f c.args.bytes.now) c.fingerprint.ensures c.is_state_file.ensures

pub returns-clause-put : goal.returns-clause-put
returns-clause-put g c = put-is

pub returns-clause-taken : goal.returns-clause-taken
returns-clause-taken g c program state frame older after same =
    taken c.args.machine.now.program program same c.args.machine.now.state.store c.can_be_saved.ensures c.args.bytes.now c.requires
    (state-file g c) state frame older after

pub returns-clause-good : goal.returns-clause-good
returns-clause-good g c program same static good =
    good-file c.args.machine.now.program program same c.args.machine.now.state.store c.can_be_saved.ensures c.args.bytes.now c.requires
    (state-file g c) g.G.HolderProperty.good static c.args.machine.now.state refl good
