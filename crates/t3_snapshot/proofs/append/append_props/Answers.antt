use Rattle.std.proofs.Common.{sym, length, map, arith}
use Rattle.t3_tadsobj.specs.Props.{pair_of}
use Rattle.t3_snapshot.specs.Layout.{prop_text, counted_text, IsProp}
use Rattle.t3_snapshot.specs.State.{trimmed_prop}
use Rattle.t3_snapshot.proofs.Written.{counted_written, mapped_length, all_unmapped, texts_mapped}
use Rattle.t3_snapshot.proofs.append.append_props.Goals as goal

pub overflow_cast-props : goal.overflow_cast-props
overflow_cast-props c = omega (arith, c.requires.few, mapped_length pair_of (trimmed_prop c.args.state.now) c.args.props.now)

pub append_prop_values-requires : goal.append_prop_values-requires
append_prop_values-requires c = all_unmapped IsProp pair_of (trimmed_prop c.args.state.now) c.args.props.now c.requires.each

pub returns : goal.returns
unfolding counted_text
returns c =
    counted_written 2 prop_text (map (trimmed_prop c.args.state.now) (map pair_of c.args.props.now)) (length c.args.props.now) _ _ _ _
    (sym (mapped_length pair_of (trimmed_prop c.args.state.now) c.args.props.now)) c.u16_bytes.ensures
    c.in_ok-extend_from_slice.ensures.items
    c.in_ok-append_prop_values.ensures (texts_mapped prop_text pair_of (trimmed_prop c.args.state.now) c.args.props.now)
