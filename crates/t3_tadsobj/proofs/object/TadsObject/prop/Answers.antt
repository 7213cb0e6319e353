use Rattle.std.proofs.Common.{◌∙◌, sym}
use Rattle.std.specs.FinMap.{get}
use Rattle.t3_tadsobj.specs.Object.{props_of}
use Rattle.t3_tadsobj.proofs.PropRows.{get-prop}
use Rattle.t3_tadsobj.proofs.object.TadsObject.prop.Goals as goal

pub returns : goal.returns
returns c =
    c.value_at.ensures ∙ sym (get-prop c.self.inside.props.entries c.args.number)
    ∙ λ i. get (props_of (c.self.view_is i).parts) c.args.number
