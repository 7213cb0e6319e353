use Rattle.std.proofs.Common.{IsTrue}
use Rattle.t3_snapshot.specs.Layout.{IsEntry}
use Rattle.t3_snapshot.specs.State.{keeps_key, trimmed_entry}
use Rattle.t3_snapshot.proofs.Written.{each_of}
use Rattle.t3_snapshot.proofs.append.append_entries.Goals as goal

pub append_kept-requires : goal.append_kept-requires
append_kept-requires c =
    each_of (λ pair. IsTrue (keeps_key c.args.state.now pair.key) → IsEntry (trimmed_entry c.args.state.now pair)) c.args.pairs.now
    c.loop-pair.pair-index _ c.requires c.loop-pair-test.true c.pair-item.is
