use Rattle.std.proofs.Common.{◌++◌, ◌∙◌, ap}
use Rattle.std.specs.List.{flat_map}
use Rattle.t3_tadsobj.specs.declared.props.PropValue.{PropValue}
use Rattle.t3_snapshot.specs.State.{named_by}
use Rattle.t3_snapshot.proofs.Written.{on_ok}
use Rattle.t3_snapshot.proofs.Rising.{made_name}
use Rattle.t3_snapshot.proofs.named.note_made.Goals as goal

pub returns-in-Tads : goal.returns-in-Tads
returns-in-Tads c = on_ok c.note_props.result _ _ c.note_props.ensures
    (λ e. e ∙ ap (λ x. c.args.named.now.items ++ x)
    (ap (flat_map (λ (prop : PropValue). named_by prop.value)) c.items.ensures.items
    ∙ made_name c.args.what.now _ _ c.in-Tads.props c.in-Tads.is c.requires.rising))
