use Rattle.std.proofs.Common.{sym, length, map}
use Rattle.std.proofs.lemmas.List.{length-map}
use Rattle.std.proofs.lemmas.List.Folds.{flat_map-map}
use Rattle.t3_snapshot.specs.Layout.{holder_text, counted_text}
use Rattle.t3_snapshot.specs.State.{trimmed_holder}
use Rattle.t3_snapshot.proofs.Written.{counted_written}
use Rattle.t3_snapshot.proofs.append.append_list.Goals as goal

pub returns : goal.returns
unfolding counted_text
returns c =
    counted_written 2 holder_text (map (trimmed_holder c.args.state.now) c.args.holders.now) (length c.args.holders.now) _ _ _ _
    (sym (length-map c.args.holders.now (trimmed_holder c.args.state.now))) c.u16_bytes.ensures c.in_ok-extend_from_slice.ensures.items
    c.in_ok-append_holders.ensures
    (sym (flat_map-map holder_text (trimmed_holder c.args.state.now) c.args.holders.now))
