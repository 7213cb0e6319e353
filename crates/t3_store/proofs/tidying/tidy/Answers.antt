use Rattle.std.proofs.Common.{arith}
use Rattle.t3_store.proofs.NoGaps.{without-gaps}
use Rattle.t3_store.proofs.Purged.{purged, purged-few}
use Rattle.t3_store.proofs.tidying.tidy.Goals as goal

pub returns-clause-purged : goal.returns-clause-purged
returns-clause-purged c =
    purged c.args.record_limit c.args.journal.now.marks c.purge_serial.result c.args.number c.args.objects.now c.tidy.new.self
    c.args.journal.now.segments c.purge_serial.ensures c.requires.stamped c.tidy.ensures.tidied

pub returns-clause-bounded : goal.returns-clause-bounded
returns-clause-bounded c =
    purged-few c.args.record_limit c.args.journal.now.marks c.purge_serial.result c.args.number c.args.objects.now c.tidy.new.self
    c.args.journal.now.segments c.purge_serial.ensures c.requires.stamped
    (without-gaps c.args.journal.now.segments c.args.objects.now.objects c.args.number c.tidy.ensures.valid c.requires.gaps)
    (omega (arith, c.records-within.ensures.records, c.records-within.ensures.bound, c.requires.limit)) c.tidy.ensures.tidied c.requires.others
