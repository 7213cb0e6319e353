use Rattle.t3_tables.proofs.EntryOrder.{entries-last, entries-kept, entries-away, entries-back, entries-apart}
use Rattle.t3_tables.proofs.law.entry_order.Goals as goal

pub returns : goal.returns
returns c = record { last = entries-last; kept = entries-kept; away = entries-away; back = entries-back; default = entries-apart }
