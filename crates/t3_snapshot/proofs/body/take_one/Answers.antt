use Rattle.std.proofs.Common.{arith}
use Rattle.t3_snapshot.proofs.Leaves.{bytes_are}
use Rattle.t3_snapshot.proofs.Taking.{next_object, can_add}
use Rattle.t3_snapshot.proofs.body.take_one.Goals as goal

pub add-requires-clause-number : goal.add-requires-clause-number
add-requires-clause-number c =
    can_add _ _ _ _ c.requires (next_object _ _ _ _ _ (bytes_are c.args.bytes.now (λ i. omega (arith, c.type_inv.bytes i)))
    c.in_ok-object.ensures.value)

pub add-requires-clause-spellable : goal.add-requires-clause-spellable
add-requires-clause-spellable c =
    (next_object _ _ _ _ _ (bytes_are c.args.bytes.now (λ i. omega (arith, c.type_inv.bytes i))) c.in_ok-object.ensures.value).spellable
