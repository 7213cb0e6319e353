use Rattle.std.proofs.Common.{sym, subst}
use Rattle.t3_store.specs.Inner.Shapes.{AreWithin}
use Rattle.t3_store.proofs.entries.put_kept.Goals as goal

pub returns-clause-ticks : goal.returns-clause-ticks
returns-clause-ticks c bound all within =
    subst (AreWithin bound) (sym c.set_stamp.ensures.ticks) (c.put-changed.ensures.ticks bound all within)
