use Rattle.std.proofs.Common.{arith, subst, ◌≡◌, Err}
use Rattle.t3_snapshot.specs.Inner.Body.{HasRead, TakesOne}
use Rattle.t3_snapshot.specs.declared.read_error.ReadError.{ReadError}
use Rattle.t3_snapshot.proofs.Leaves.{bytes_are}
use Rattle.t3_snapshot.proofs.Taking.{takes_more, stops, before, starts}
use Rattle.t3_snapshot.proofs.body.take_objects.Goals as goal

pub loop-items-init : goal.loop-items-init
loop-items-init c = (
  starts c.args.next c.args.bytes.now _ (bytes_are c.args.bytes.now (λ i. omega (arith, c.type_inv.bytes i))) c.new-builder.ensures,
  omega arith,
)

pub take_one-requires : goal.take_one-requires
take_one-requires c = before _ _ _ _ _ _ c.loop-items.invariant.0

pub loop-items-preserved : goal.loop-items-preserved
loop-items-preserved c =
    (takes_more _ _ _ _ _ _ _ _ c.in-Ok.ensures.0 _ c.loop-items.invariant.0 c.in-Ok.ensures.1 c.in-Ok.ensures.2, omega arith)

pub returns-in-Err-Misspelled : goal.returns-in-Err-Misspelled
returns-in-Err-Misspelled c = stops _ _ _ _ _ _ _ (omega arith) c.loop-items-test.true c.loop-items.invariant.0
    (subst (λ (e : ReadError). TakesOne c.loop-items.last c.args.next c.loop-items.rest.now c.loop-items.builder c.take_one.new.builder
    (Err e))
    c.in-Err-Misspelled.field-0-is c.in-Err-Misspelled.ensures)

pub returns : goal.returns
returns c =
    let all : c.loop-items.items ≡ c.args.due = omega (arith, c.loop-items.invariant.1) in (
      c.loop-items.last,
      subst (λ k. HasRead c.args.next c.args.bytes.now c.loop-items.builder c.loop-items.last k c.loop-items.rest.now) all
          c.loop-items.invariant.0.read,
    )
