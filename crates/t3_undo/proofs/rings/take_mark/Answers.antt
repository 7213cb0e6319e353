use Rattle.std.proofs.Common.{◌≡◌, ◌∙◌, ap, sym, subst, List, [], length, take, drop, ◌-◌}
use Rattle.t3_undo.specs.Journal.{newest_next}
use Rattle.t3_undo.specs.Inner.Rings.{segments_of, AreCounted}
use Rattle.t3_undo.specs.declared.mark.Mark.{Mark}
use Rattle.t3_undo.proofs.LastItems.{none-is}
use Rattle.t3_undo.proofs.RingLists.{segments-last, segments-unheld, newest-bare, counted-ended, none-left}
use Rattle.t3_undo.proofs.rings.take_mark.Goals as goal
use Rattle.t3_undo.proofs.rings.take_mark.Goals.{In-Some, In-None}

bare : (c : In-Some) → c.in-Some.mark.count ≡ 0
bare c = none-left c.args.marks.now.items c.in-Some.mark c.args.records.now.items c.in-Some.ensures.value c.requires.counted
    c.requires.empty

left : (c : In-Some) → c.pop_back.new.self.items ≡ take (length c.args.marks.now.items - 1) c.args.marks.now.items
left c = λ i. (c.in-Some.ensures.items i).items

pub returns-in-Some-clause-next : goal.returns-in-Some-clause-next
returns-in-Some-clause-next c =
    sym (ap newest_next (segments-last c.args.marks.now.items c.in-Some.mark c.args.records.now.items c.in-Some.ensures.value))

pub returns-in-Some-clause-segments : goal.returns-in-Some-clause-segments
returns-in-Some-clause-segments c =
    ap (λ ms. segments_of ms c.args.records.now.items) (left c)
    ∙ sym (ap (drop 1) (newest-bare c.args.marks.now.items c.in-Some.mark c.args.records.now.items c.in-Some.ensures.value (bare c)))

pub returns-in-Some-clause-counted : goal.returns-in-Some-clause-counted
returns-in-Some-clause-counted c =
    let P : List Mark → Type 0 = λ ms. AreCounted ms c.args.records.now.items in
    subst P (sym (left c)) (counted-ended c.args.marks.now.items c.in-Some.mark c.args.records.now.items c.in-Some.ensures.value (bare c)
    c.requires.counted)

unheld : (c : In-None) → segments_of c.args.marks.now.items c.args.records.now.items ≡ []
unheld c = segments-unheld c.args.marks.now.items c.args.records.now.items c.in-None.ensures.value

same : (c : In-None) → c.pop_back.new.self.items ≡ c.args.marks.now.items
same c =
    let none = none-is c.args.marks.now.items c.in-None.ensures.value in
    (λ i. (c.in-None.ensures.items i).items) ∙ (λ i. take (length (none i) - 1) (none i)) ∙ sym none

pub returns-in-None-clause-next : goal.returns-in-None-clause-next
returns-in-None-clause-next c = sym (ap newest_next (unheld c))

pub returns-in-None-clause-segments : goal.returns-in-None-clause-segments
returns-in-None-clause-segments c =
    ap (λ ms. segments_of ms c.args.records.now.items) (same c) ∙ unheld c ∙ sym (ap (drop 1) (unheld c))

pub returns-in-None-clause-counted : goal.returns-in-None-clause-counted
returns-in-None-clause-counted c =
    let P : List Mark → Type 0 = λ ms. AreCounted ms c.args.records.now.items in subst P (sym (same c)) c.requires.counted
