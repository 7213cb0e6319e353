use Rattle.std.proofs.Common.{Some, sym, ap, ◌∙◌}
use Rattle.t3_kinds.proofs.Clones.{same-object}
use Rattle.t3_kinds.proofs.tads.like.Goals as goal

pub returns : goal.returns
returns c =
    same-object c.args.object.now c.in_ok-from_slice.field-0.items c.is_class.result c.in_ok-props.props
    (c.requires ∙ ap Some (sym c.in_ok-from_slice.ensures.items)) c.is_class.ensures c.in_ok-props.ensures.props
