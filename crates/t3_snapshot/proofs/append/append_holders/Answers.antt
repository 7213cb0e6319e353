use Rattle.t3_snapshot.specs.Layout.{IsGoodHolder}
use Rattle.t3_snapshot.specs.State.{trimmed_holder}
use Rattle.t3_snapshot.proofs.Written.{each_index}
use Rattle.t3_snapshot.proofs.append.append_holders.Goals as goal

pub append_holder-requires : goal.append_holder-requires
append_holder-requires c =
    each_index IsGoodHolder (trimmed_holder c.args.state.now) c.args.holders.now c.loop-holder.holder-index _ c.requires
    c.loop-holder-test.true
