use Rattle.std.proofs.Common.{◌+◌, ℕ, Bool, Ok, Err, drop, sym, ap, ◌∙◌, arith}
use Rattle.t3_ops.specs.Equality.{WalkResult}
use Rattle.t3_kinds.specs.ListMethods.{Found, found_after, found_from}
use Rattle.t3_kinds.specs.Inner.Selves.{elements_by}
use Rattle.t3_kinds.proofs.Finding.{found-at, found-past, get-before}
use Rattle.t3_kinds.proofs.lists.find.Goals as goal

pub returns-in-Ok-true : goal.returns-in-Ok-true
returns-in-Ok-true c =
    let at = c.loop-element in
    let constants = c.args.pools.now.constants in
    let s = c.args.store.now.store in
    let xs = elements_by constants c.args.elements.now in
    let rest : ℕ → Found = λ turns. found_from constants s turns c.args.value (at.index + 1 + 1) (drop (at.index + 1) xs) in
    sym at.invariant
    ∙ found-at constants s at.turns c.args.value (at.index + 1) xs at.index c.in-Some.element c.in-Some.ensures.element
    ∙ ap (λ (w : WalkResult). found_after w (at.index + 1) rest)
    (c.in-Ok-true.ensures ∙ ap (λ (b : Bool). Ok (b, c.equal.new.turns)) c.in-Ok-true.field-0-test)

pub loop-element-smaller : goal.loop-element-smaller
loop-element-smaller c =
    let xs = elements_by c.args.pools.now.constants c.args.elements.now in
    let within = get-before xs c.loop-element.index c.in-Some.element c.in-Some.ensures.element in
    omega (arith, within)

pub loop-element-preserved : goal.loop-element-preserved
loop-element-preserved c =
    let at = c.loop-element in
    let constants = c.args.pools.now.constants in
    let s = c.args.store.now.store in
    let xs = elements_by constants c.args.elements.now in
    let rest : ℕ → Found = λ turns. found_from constants s turns c.args.value (at.index + 1 + 1) (drop (at.index + 1) xs) in
    sym (found-at constants s at.turns c.args.value (at.index + 1) xs at.index c.in-Some.element c.in-Some.ensures.element
    ∙ ap (λ (w : WalkResult). found_after w (at.index + 1) rest)
    (c.in-Ok-false.ensures ∙ ap (λ (b : Bool). Ok (b, c.equal.new.turns)) c.in-Ok-false.field-0-test))
    ∙ at.invariant

pub returns-in-Err-Fault : goal.returns-in-Err-Fault
returns-in-Err-Fault c =
    let at = c.loop-element in
    let constants = c.args.pools.now.constants in
    let s = c.args.store.now.store in
    let xs = elements_by constants c.args.elements.now in
    let rest : ℕ → Found = λ turns. found_from constants s turns c.args.value (at.index + 1 + 1) (drop (at.index + 1) xs) in
    sym at.invariant
    ∙ found-at constants s at.turns c.args.value (at.index + 1) xs at.index c.in-Some.element c.in-Some.ensures.element
    ∙ ap (λ (w : WalkResult). found_after w (at.index + 1) rest) (rw c.in-Err-Fault.field-0-is at c.in-Err-Fault.ensures)
    ∙ ap Err (sym c.in-Err-Fault.fault-is)

pub returns : goal.returns
returns c =
    let at = c.loop-element in
    let xs = elements_by c.args.pools.now.constants c.args.elements.now in
    sym at.invariant
    ∙ found-past c.args.pools.now.constants c.args.store.now.store at.turns c.args.value (at.index + 1) xs at.index c.in_default.ensures.element
