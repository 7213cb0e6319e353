use Rattle.std.proofs.Common.{◌∙◌, ap, sym}
use Rattle.t3_frame_instructions.specs.Acting.{context_of}
use Rattle.t3_kinds.specs.Search.{found_value}
use Rattle.t3_object_instructions.proofs.Evaluating.{as_well, evaluates_found, evaluates_asked}
use Rattle.t3_object_instructions.proofs.evaluate.evaluate_object.Goals as goal

pub returns-in-Some : goal.returns-in-Some
returns-in-Some c =
    as_well _ _ _ _ _
    (evaluates_found c.args.program.now c.args.property c.args.count c.args.number (context_of c.args.core.now) _
    (sym c.in_ok-found.ensures ∙ ap found_value c.in-Some.is)) c.give_found.ensures

pub returns-in_ok-ask_object-in-None : goal.returns-in_ok-ask_object-in-None
returns-in_ok-ask_object-in-None c =
    as_well _ _ _ _ _
    (evaluates_asked c.args.program.now c.args.property c.args.count c.args.number (context_of c.args.core.now)
    (sym c.in_ok-found.ensures ∙ ap found_value c.in-None.is)) c.in_ok-ask_object-in-None.ensures
