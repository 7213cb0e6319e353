use Rattle.std.proofs.Common.{◌+◌, ◌∙◌, ap, sym, length}
use Rattle.t3_store.proofs.MapValues.{len-from_entries}
use Rattle.t3_store.proofs.new_object.tads_units.Goals as goal

pub returns : goal.returns
returns c =
    (λ i. (c.len.ensures ∙ c.supers.inside.0.ok.0 ∙ ap length c.supers.view_is) i
    + (ap length c.items.ensures.items ∙ sym (len-from_entries c.args.props.now c.items.ensures.distinct)) i)
