use Rattle.std.proofs.Common.{ap, sym}
use Rattle.t3_frame_instructions.specs.Acting.{context_of}
use Rattle.t3_object_instructions.specs.Creating.{tads_creation}
use Rattle.t3_object_instructions.proofs.Evaluating.{as_well_ok}
use Rattle.t3_object_instructions.proofs.create.create_instance.Goals as goal

pub returns-in-Ok : goal.returns-in-Ok
returns-in-Ok c =
    as_well_ok _ _ _ _ _
    (ap (λ supers. tads_creation c.args.program.now c.args.transient 0 c.args.count supers (context_of c.args.core.now)) (sym c.in-Ok.ensures.0))
    c.create_of_class.ensures
