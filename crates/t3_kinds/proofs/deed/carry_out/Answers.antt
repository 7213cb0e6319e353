use Rattle.std.proofs.Common.{◌≡◌, false, [], ◌∷◌, List, None, Err, length, length-append, append_assoc, sym, ap, subst, ◌∙◌, arith}
use Rattle.std.specs.Vec.Iter.{into_iter_items}
use Rattle.t3_store.specs.Store.{StoreValue}
use Rattle.t3_kinds.specs.declared.deed.Change as code
use Rattle.t3_kinds.specs.Changes.{changed, changed_by, AreSomeMade}
use Rattle.t3_kinds.specs.Inner.Deeds.{change_of, changes_of, CanAllBeDone}
use Rattle.t3_kinds.proofs.Changing.{one-made, one-full, some-made, can-next}
use Rattle.t3_kinds.proofs.deed.carry_out.Goals as goal

pub loop-change-preserved : goal.loop-change-preserved
loop-change-preserved c =
    let at = c.loop-change in
    let x = c.in-Some.change in
    let rest = into_iter_items c.next.new.self in
    let steps : into_iter_items at.change-iterator ≡ x ∷ rest = c.in-Some.ensures.steps.0 in
    let can : CanAllBeDone (changes_of (x ∷ rest)) at.store.store =
    subst (λ (xs : List code.Change). CanAllBeDone (changes_of xs) at.store.store) steps at.invariant.can in
    let more = length-append at.yielded (x ∷ []) in
    let wrote = c.in-Ok.ensures.writes in
    let before = at.invariant.writes in
    let short = ap length steps in
    let was = at.invariant.counted in
    let gone = c.in-Some.ensures.steps.1 in
    record {
      whole = append_assoc at.yielded (x ∷ []) rest ∙ rw (← steps) at.invariant.whole;
      made = one-made at.yielded x c.args.store.now.store at.store.store c.make.new.store.store at.invariant.made c.in-Ok.ensures.ok;
      can = can-next (change_of x) (changes_of rest) at.store.store c.make.new.store.store can c.in-Ok.ensures.ok;
      writes = omega (arith, more, wrote, before);
      savepoints = c.in-Ok.ensures.savepoints ∙ at.invariant.savepoints;
      counted = omega (arith, short, was, gone);
    }

pub returns-in-Err-Full-clause-done : goal.returns-in-Err-Full-clause-done
returns-in-Err-Full-clause-done c =
    let at = c.loop-change in
    let x = c.in-Some.change in
    let old = c.args.store.now.store in
    let rest = into_iter_items c.next.new.self in
    let steps : into_iter_items at.change-iterator ≡ x ∷ rest = c.in-Some.ensures.steps.0 in
    let whole = rw (← steps) at.invariant.whole ∙ c.into_iter-change-iterator.ensures.into_iter_gives.0 in
    let full : changed_by (change_of x) at.store.store ≡ None = c.make.ensures.full.0 (c.in-Err-Full.is ∙ ap Err c.in-Err-Full.field-0-is) in
    subst (λ (s : StoreValue). changed (changes_of c.args.deed.changes.items) old ≡ (false, s)) (sym c.in-Err-Full.ensures.err)
    (one-full c.args.deed.changes.items at.yielded rest x old at.store.store whole at.invariant.made full)

pub returns-in-Err-NoMemory-clause-done : goal.returns-in-Err-NoMemory-clause-done
returns-in-Err-NoMemory-clause-done c =
    let at = c.loop-change in
    let old = c.args.store.now.store in
    subst (λ (s : StoreValue). AreSomeMade (changes_of c.args.deed.changes.items) old s) (sym c.in-Err-NoMemory.ensures.err)
    (some-made c.args.deed.changes.items at.yielded (into_iter_items at.change-iterator) old at.store.store
    (at.invariant.whole ∙ c.into_iter-change-iterator.ensures.into_iter_gives.0) at.invariant.made)
