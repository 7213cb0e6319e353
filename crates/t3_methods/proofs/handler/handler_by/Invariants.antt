use Rattle.std.proofs.Common.{◌≡◌, ◌+◌, ◌-◌, ◌*◌, None}
use Rattle.t3_methods.proofs.Tables.{Passed}
use Rattle.t3_methods.proofs.Handlers.{found_after}
use Rattle.t3_methods.proofs.handler.handler_by.Given as goal

-- so many entries stand, and the next would stand behind them
abbrev pub invariant-loop : goal.invariant-loop
invariant-loop l = record {
  next : l.next ≡ (l.table + 2) + 10 * l.counter;
  after : found_after l.count l.pools.code (l.table + 2) l.method l.place l.classes None
      ≡ found_after (l.count - l.counter) l.pools.code l.next l.method l.place l.classes l.handler;
  passed : Passed l.pools.code (l.table + 2) l.method l.place l.classes l.counter l.handler;
}
