use Rattle.std.proofs.Common.{◌≡◌, ◌+◌, ℕ, List, [], ◌∷◌, length, take, slice_index_or, sym, ap, subst, ◌∙◌, arith}
use Rattle.std.specs.FinMap.{get}
use Rattle.std.proofs.lemmas.List.{length-take-le, length-set, take_more_set, take_all}
use Rattle.t3_pools.specs.Pool.{HasBytes}
use Rattle.t3_pools.proofs.Standing.{stands_both, bytes_in-gap}
use Rattle.t3_pools.proofs.paged.PagedPool.fill_over.Goals as goal

pub returns-in-None-clause-fills : goal.returns-in-None-clause-fills
returns-in-None-clause-fills c =
    let window : List ℕ = c.loop-slot.window in
    let index : ℕ = c.loop-slot.slot-index in
    let long = length-set window index (slice_index_or window index 0) in
    let inside = c.loop-slot-test.true in
    let kept = c.loop-slot.auto.window in
    bytes_in-gap c.args.self.now.bytes _ c.args.address index (omega arith)
    (ap (λ a. get c.args.self.now.bytes a) (sym c.loop-slot.invariant.at) ∙ sym c.in-None.ensures.byte)

pub loop-slot-preserved : goal.loop-slot-preserved
loop-slot-preserved c =
    let pool = c.args.self.now.bytes in
    let window : List ℕ = c.loop-slot.window in
    let index : ℕ = c.loop-slot.slot-index in
    let inside = c.loop-slot-test.true in
    let kept = c.loop-slot.auto.window in
    let long = length-take-le index window (omega arith) in
    let at = c.loop-slot.invariant.at in
    let here : c.args.address + length (take index window) ≡ c.loop-slot.next = omega arith in
    let below = c.in-Some.ensures.bounded in
    record {
      at = omega arith;
      below = λ some. omega arith;
      stands = subst (λ (b : List ℕ). HasBytes pool c.args.address b) (sym (take_more_set window index c.in-Some.byte (omega arith)))
          (stands_both pool (take index window) (c.in-Some.byte ∷ []) c.args.address c.loop-slot.invariant.stands
          (ap (λ a. get pool a) here ∙ sym c.in-Some.ensures.byte, tt));
    }

pub returns-clause-fills : goal.returns-clause-fills
returns-clause-fills c =
    let past = c.loop-slot-test.false in
    let kept = c.loop-slot.auto.window in
    subst (λ (b : List ℕ). HasBytes c.args.self.now.bytes c.args.address b) (take_all c.loop-slot.slot-index c.loop-slot.window (omega arith))
    c.loop-slot.invariant.stands
