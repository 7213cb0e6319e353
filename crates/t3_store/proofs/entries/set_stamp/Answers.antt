use Rattle.std.proofs.Common.{◌∙◌, ap, sym, None, IsTrue, true≢false}
use Rattle.std.specs.FinMap.{insert}
use Rattle.t3_store.specs.Inner.Shapes.{thing_of, places_of, tick_of, has_place_in}
use Rattle.t3_store.proofs.Rows.{entry-at, no-entry, get-at, get-nowhere, rising-at, by_number-changed, by_number-kept}
use Rattle.t3_store.proofs.entries.set_stamp.Goals as goal
use Rattle.t3_store.proofs.entries.set_stamp.Goals.{In_default}

pub set_stamp-requires : goal.set_stamp-requires
set_stamp-requires c =
    sym (ap (λ o. has_place_in o c.args.cell.now) (get-at places_of _ _ _ _
    (entry-at c.args.number c.args.entries.now.items _ _ c.in-Some.index _ c.deref.ensures.value c.index_of.ensures.index c.in-Some.is
    c.index_mut.ensures.value)))
    ∙ c.requires.place

pub returns-in-Some-clause-rising : goal.returns-in-Some-clause-rising
returns-in-Some-clause-rising c =
    rising-at _ _ _ _ c.set_stamp.new.self
    (entry-at c.args.number c.args.entries.now.items _ _ c.in-Some.index _ c.deref.ensures.value c.index_of.ensures.index c.in-Some.is
    c.index_mut.ensures.value)
    c.requires.rising

pub returns-in-Some-clause-things : goal.returns-in-Some-clause-things
returns-in-Some-clause-things c =
    by_number-kept thing_of _ _ _ _ c.set_stamp.new.self
    (entry-at c.args.number c.args.entries.now.items _ _ c.in-Some.index _ c.deref.ensures.value c.index_of.ensures.index c.in-Some.is
    c.index_mut.ensures.value)
    c.set_stamp.ensures.thing

pub returns-in-Some-clause-places : goal.returns-in-Some-clause-places
returns-in-Some-clause-places c =
    by_number-changed places_of (λ own. insert own c.args.cell.now c.args.stamp) _ _ _ _ c.set_stamp.new.self
    (entry-at c.args.number c.args.entries.now.items _ _ c.in-Some.index _ c.deref.ensures.value c.index_of.ensures.index c.in-Some.is
    c.index_mut.ensures.value)
    c.set_stamp.ensures.places

pub returns-in-Some-clause-ticks : goal.returns-in-Some-clause-ticks
returns-in-Some-clause-ticks c =
    by_number-kept tick_of _ _ _ _ c.set_stamp.new.self
    (entry-at c.args.number c.args.entries.now.items _ _ c.in-Some.index _ c.deref.ensures.value c.index_of.ensures.index c.in-Some.is
    c.index_mut.ensures.value)
    c.set_stamp.ensures.ticks

none : (c : In_default) → IsTrue (has_place_in None c.args.cell.now)
none c =
    sym (ap (λ o. has_place_in o c.args.cell.now) (get-nowhere places_of c.args.number c.args.entries.now.items
    (no-entry c.args.number c.args.entries.now.items _ _ c.deref.ensures.value c.index_of.ensures.index c.in_default.is)))
    ∙ c.requires.place

pub returns-in_default-clause-places : goal.returns-in_default-clause-places
returns-in_default-clause-places c = absurd (true≢false (sym (none c)))
