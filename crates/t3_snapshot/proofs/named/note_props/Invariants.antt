use Rattle.std.proofs.Common.{◌≡◌, ◌++◌, take}
use Rattle.std.specs.List.{flat_map}
use Rattle.t3_snapshot.specs.State.{named_by}
use Rattle.t3_snapshot.proofs.named.note_props.Given as goal

abbrev pub invariant-loop-prop : goal.invariant-loop-prop
invariant-loop-prop l = l.named.items ≡ l.fn.named.items ++ flat_map (λ prop. named_by prop.value) (take l.prop-index l.props)
