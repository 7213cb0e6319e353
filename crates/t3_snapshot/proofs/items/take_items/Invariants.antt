use Rattle.std.proofs.Common.{◌≡◌, ◌-◌}
use Rattle.t3_snapshot.specs.Inner.Reading.{items_at}
use Rattle.t3_snapshot.proofs.Loop.{with_front}
use Rattle.t3_snapshot.proofs.items.take_items.Given as goal

abbrev pub invariant-loop : goal.invariant-loop
invariant-loop g l = with_front l.items.items (items_at g.I.Item.read (l.count - l.counter) l.rest) ≡ items_at g.I.Item.read l.count l.bytes
