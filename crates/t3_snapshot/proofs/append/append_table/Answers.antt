use Rattle.std.proofs.Common.{◌∙◌, sym, arith}
use Rattle.t3_snapshot.specs.Layout.{entry_text, counted_text}
use Rattle.t3_snapshot.specs.State.{trimmed_entries}
use Rattle.t3_snapshot.proofs.Written.{counted_written, kept_texts, kept_fit, kept_count}
use Rattle.t3_snapshot.proofs.append.append_table.Goals as goal

pub overflow_cast-count : goal.overflow_cast-count
overflow_cast-count c = omega (arith, c.requires.few, kept_count c.args.state.now c.args.pairs.now, c.count_kept-count.ensures)

pub append_entries-requires : goal.append_entries-requires
append_entries-requires c = kept_fit c.args.state.now c.args.pairs.now c.requires.each

pub returns : goal.returns
unfolding counted_text
returns c =
    counted_written 4 entry_text (trimmed_entries c.args.state.now c.args.pairs.now) c.count_kept-count.result _ _ _ _
    (c.count_kept-count.ensures ∙ sym (kept_count c.args.state.now c.args.pairs.now)) c.u32_bytes.ensures
    c.in_ok-extend_from_slice.ensures.items c.in_ok-append_entries.ensures
    (kept_texts c.args.state.now c.args.pairs.now)
