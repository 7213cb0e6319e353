use Rattle.std.proofs.Common.{List, Result, Ok, Err, ℕ, subst}
use Rattle.t3_frame_instructions.specs.declared.effect.Quiet.{Quiet}
use Rattle.t3_frame_instructions.specs.Effect.{Save}
use Rattle.t3_object_instructions.specs.Inner.Naming.{HasNamed}
use Rattle.t3_object_instructions.proofs.saved_states.save.Goals as goal

pub returns-in-Ok-clause-done : goal.returns-in-Ok-clause-done
returns-in-Ok-clause-done c =
    (subst (λ (named : Result (List ℕ) Quiet). HasNamed c.args.pools.now.constants c.args.count c.args.core.now named c.name_popped.new.core)
    c.in-Ok.is c.in_ok-name.ensures).0 Save

pub returns-in-Err-clause-done : goal.returns-in-Err-clause-done
returns-in-Err-clause-done c =
    subst (λ (named : Result (List ℕ) Quiet). HasNamed c.args.pools.now.constants c.args.count c.args.core.now named c.name_popped.new.core)
    c.in-Err.is c.in_ok-name.ensures Save
