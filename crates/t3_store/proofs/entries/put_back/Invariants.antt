use Rattle.std.proofs.Common.{length}
use Rattle.t3_undo.specs.Journal.{newest_records}
use Rattle.t3_store.proofs.PuttingBack.{IsPutting}
use Rattle.t3_store.proofs.entries.put_back.Given as goal

abbrev pub invariant-loop-kept : goal.invariant-loop-kept
invariant-loop-kept l = IsPutting l.fn.record_limit l.oldest l.initial.entries.items l.entries.items l.initial.journal l.journal

abbrev pub decreases-loop-kept : goal.decreases-loop-kept
decreases-loop-kept l = length (newest_records l.journal.segments)
