use Rattle.std.proofs.Common.{◌≡◌, ◌++◌, take}
use Rattle.std.specs.List.{flat_map}
use Rattle.t3_tadsobj.specs.Props.{pair_of}
use Rattle.t3_snapshot.specs.Layout.{prop_text}
use Rattle.t3_snapshot.specs.State.{trimmed_prop}
use Rattle.t3_snapshot.proofs.append.append_prop_values.Given as goal

abbrev pub invariant-loop-prop : goal.invariant-loop-prop
invariant-loop-prop l =
    l.out.items ≡ l.fn.out.items ++ flat_map (λ prop. prop_text (trimmed_prop l.state (pair_of prop))) (take l.prop-index l.props)
