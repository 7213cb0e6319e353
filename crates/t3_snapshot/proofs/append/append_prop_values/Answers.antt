use Rattle.t3_tadsobj.specs.Props.{pair_of}
use Rattle.t3_snapshot.specs.Layout.{IsProp}
use Rattle.t3_snapshot.specs.State.{trimmed_prop}
use Rattle.t3_snapshot.proofs.Written.{each_at}
use Rattle.t3_snapshot.proofs.append.append_prop_values.Goals as goal

pub append_prop-requires : goal.append_prop-requires
append_prop-requires c =
    each_at (λ prop. IsProp (trimmed_prop c.args.state.now (pair_of prop))) c.args.props.now c.loop-prop.prop-index _ c.requires
    c.loop-prop-test.true
