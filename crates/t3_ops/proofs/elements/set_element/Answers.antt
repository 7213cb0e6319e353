use Rattle.std.proofs.Common.{◌≡◌, suc, ◌≤◌, ◌+◌, ◌-◌, [], Bool, true, false, List, Some, refl, sym, ap, subst, ◌∙◌, arith}
use Rattle.std.proofs.lemmas.Result.{on_err_weaker}
use Rattle.t3_holder.specs.declared.holder.Holder.{Holder}
use Rattle.t3_holder.specs.declared.holder.Holder.TheVariants.{Nil}
use Rattle.t3_undo.specs.declared.cell.Cell.{Cell}
use Rattle.t3_undo.specs.declared.cell.Cell.TheVariants.{Elem}
use Rattle.t3_store.specs.Store.{StoreValue, CountedStore, value_at, set_cell, written}
use Rattle.t3_ops.specs.Elements.{after_writes, element_writes, nil_writes, IsFrontWritten}
use Rattle.t3_ops.specs.Inner.Outcomes.{IsWritten}
use Rattle.t3_ops.proofs.Appending.{if_ok, on_err, vector-present}
use Rattle.t3_ops.proofs.Writing.{writes-first, writes-last, after-some, after-none, after-end, last-write, nils-next, front-written, written-present, vector-next}
use Rattle.t3_ops.proofs.elements.set_element.Goals as goal

pub returns-then-index-length-clause-made : goal.returns-then-index-length-clause-made
returns-then-index-length-clause-made c =
    let n = c.args.object in
    let s = c.args.store.now.store in
    let cell = Elem c.args.index in
    let next = set_cell n cell c.args.value s in
    let from = c.requires.index.0 in
    let within = c.if-index-length.true in
    let below : c.args.index - 1 ≤ c.args.length = omega arith in
    let there = vector-present (value_at s n) c.args.length c.args.index c.requires.vector from within in
    let stored : c.overwrite.new.self.store ≡ next = ap (λ (t : CountedStore). t.store) c.overwrite.ensures in
    ap (λ (w : List (Cell × Holder)). after_writes n w s) (writes-last c.args.length c.args.index c.args.value below)
    ∙ after-some n cell c.args.value [] s next (written-present s n cell c.args.value there)
    ∙ after-end n next
    ∙ ap (λ (t : StoreValue). (true, t)) (sym stored)

pub loop-count-init : goal.loop-count-init
loop-count-init c =
    let n = c.args.object in
    let s = c.args.store.now.store in
    let long = c.args.length in
    let behind = c.if-index-length.false in
    let none : long - long ≡ 0 = omega arith in
    record {
      told = refl;
      nils = ap (λ k. after_writes n (nil_writes k (long + 1)) s) none ∙ after-end n s;
      vector = c.requires.vector;
      writes = omega arith;
      savepoints = refl;
      from = omega arith;
      to = omega arith;
    }

pub loop-count-preserved : goal.loop-count-preserved
loop-count-preserved c =
    let n = c.args.object in
    let s = c.loop-count.store.store in
    let next = c.write.new.store.store in
    let count = c.loop-count.count in
    let after = written n (Elem (count + 1)) Nil s in
    let some : after ≡ Some next = subst (λ (b : Bool). IsWritten s after b next) c.if-not-branch.false c.in_ok-write.ensures.written in
    let below = c.loop-count-test.true in
    let wrote = c.in_ok-write.ensures.writes in
    let saved = c.in_ok-write.ensures.savepoints in
    let before = c.loop-count.invariant.writes in
    let same = c.loop-count.invariant.savepoints in
    let from = c.loop-count.invariant.from in
    let to = c.loop-count.invariant.to in
    let long = c.args.length in
    let more : count + 1 - long ≡ suc (count - long) = omega arith in
    let at : count + 1 ≡ long + 1 + (count - long) = omega arith in
    let some-at = subst (λ k. written n (Elem k) Nil s ≡ Some next) at some in
    record {
      told = sym (after-some n (Elem (count + 1)) Nil (element_writes (count + 1) c.args.index c.args.value) s next some)
          ∙ ap (λ (w : List (Cell × Holder)). after_writes n w s) (sym (writes-first count c.args.index c.args.value below))
          ∙ c.loop-count.invariant.told;
      nils = ap (λ k. after_writes n (nil_writes k (long + 1)) c.args.store.now.store) more
          ∙ nils-next n (count - long) (long + 1) c.args.store.now.store s next c.loop-count.invariant.nils some-at;
      vector = vector-next s next n count Nil c.loop-count.invariant.vector some;
      writes = omega arith;
      savepoints = saved ∙ same;
      from = omega arith;
      to = omega arith;
    }

pub returns-then-not-branch-clause-made : goal.returns-then-not-branch-clause-made
returns-then-not-branch-clause-made c =
    let n = c.args.object in
    let s = c.loop-count.store.store in
    let next = c.write.new.store.store in
    let count = c.loop-count.count in
    let after = written n (Elem (count + 1)) Nil s in
    let none = subst (λ (b : Bool). IsWritten s after b next) c.if-not-branch.true c.in_ok-write.ensures.written in
    sym c.loop-count.invariant.told
    ∙ ap (λ (w : List (Cell × Holder)). after_writes n w s) (writes-first count c.args.index c.args.value c.loop-count-test.true)
    ∙ after-none n (Elem (count + 1)) Nil (element_writes (count + 1) c.args.index c.args.value) s none.0
    ∙ ap (λ (t : StoreValue). (false, t)) (sym none.1)

pub returns-clause-made : goal.returns-clause-made
returns-clause-made c =
    let n = c.args.object in
    let s = c.loop-count.store.store in
    let next = c.write-2.new.store.store in
    let after = written n (Elem c.args.index) c.args.value s in
    if_ok c.write-2.result (λ all. IsWritten s after all next)
    (λ all. after_writes n (element_writes c.args.length c.args.index c.args.value) c.args.store.now.store ≡ (all, next))
    (λ all is. sym c.loop-count.invariant.told
    ∙ ap (λ (w : List (Cell × Holder)). after_writes n w s)
    (writes-last c.loop-count.count c.args.index c.args.value c.loop-count-test.false)
    ∙ last-write n (Elem c.args.index) c.args.value s next all is)
    c.write-2.ensures.written

pub returns-clause-front : goal.returns-clause-front
returns-clause-front c =
    let n = c.args.object in
    let s = c.args.store.now.store in
    let made = c.loop-count.count - c.args.length in
    let writes = element_writes c.args.length c.args.index c.args.value in
    let from = c.loop-count.invariant.from in
    let to = c.loop-count.invariant.to in
    let past = c.loop-count-test.false in
    let within : made ≤ c.args.index - (c.args.length + 1) = omega arith in
    let front = front-written n made c.args.length c.args.index c.args.value s c.loop-count.store.store within
    c.loop-count.invariant.nils in
    on_err_weaker c.write-2.result (λ same. subst (λ t. IsFrontWritten n writes s t) (sym same) front) c.write-2.ensures.err

pub returns-in_err-write-clause-front : goal.returns-in_err-write-clause-front
returns-in_err-write-clause-front c =
    let n = c.args.object in
    let s = c.args.store.now.store in
    let made = c.loop-count.count - c.args.length in
    let writes = element_writes c.args.length c.args.index c.args.value in
    let from = c.loop-count.invariant.from in
    let to = c.loop-count.invariant.to in
    let within : made ≤ c.args.index - (c.args.length + 1) = omega arith in
    let front = front-written n made c.args.length c.args.index c.args.value s c.loop-count.store.store within
    c.loop-count.invariant.nils in
    on_err c.from_residual.result (subst (λ t. IsFrontWritten n writes s t) (sym c.in_err-write.ensures.err) front)
