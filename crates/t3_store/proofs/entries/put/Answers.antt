use Rattle.std.proofs.Common.{◌∙◌, ap, sym, subst, refl, None, IsTrue, true≢false, arith}
use Rattle.t3_undo.specs.Content.{shown}
use Rattle.t3_undo.specs.Objects.{part_of, with_part}
use Rattle.t3_store.specs.Inner.Shapes.{thing_of, places_of, tick_of, has_place_in, AreWithin}
use Rattle.t3_store.specs.Inner.Entries.{ticks_in}
use Rattle.t3_store.proofs.Ticks.{within-adjust}
use Rattle.t3_store.proofs.Rows.{entry-at, no-entry, get-at, get-nowhere, rising-at, by_number-changed, by_number-kept}
use Rattle.t3_store.proofs.entries.put.Goals as goal
use Rattle.t3_store.proofs.entries.put.Goals.{In-None}

pub put-requires-clause-place : goal.put-requires-clause-place
put-requires-clause-place c =
    sym (ap (λ o. has_place_in o c.args.cell.now) (get-at places_of _ _ _ _
    (entry-at c.args.number c.args.entries.now.items _ _ c.in-Some.index _ c.deref.ensures.value c.index_of.ensures.index c.in-Some.is c.index_mut.ensures.value))) ∙ c.requires.place

pub returns-in-Some-clause-rising : goal.returns-in-Some-clause-rising
returns-in-Some-clause-rising c =
    rising-at _ _ _ _ c.put.new.self
    (entry-at c.args.number c.args.entries.now.items _ _ c.in-Some.index _ c.deref.ensures.value c.index_of.ensures.index c.in-Some.is c.index_mut.ensures.value)
    c.requires.rising

pub returns-in-Some-clause-things : goal.returns-in-Some-clause-things
returns-in-Some-clause-things c =
    by_number-changed thing_of (with_part c.args.cell.now (shown c.args.content)) _ _ _ _ c.put.new.self
    (entry-at c.args.number c.args.entries.now.items _ _ c.in-Some.index _ c.deref.ensures.value c.index_of.ensures.index c.in-Some.is c.index_mut.ensures.value)
    c.put.ensures.thing

pub returns-in-Some-clause-places : goal.returns-in-Some-clause-places
returns-in-Some-clause-places c =
    by_number-kept places_of _ _ _ _ c.put.new.self
    (entry-at c.args.number c.args.entries.now.items _ _ c.in-Some.index _ c.deref.ensures.value c.index_of.ensures.index c.in-Some.is c.index_mut.ensures.value)
    c.put.ensures.places

pub returns-in-Some-clause-old : goal.returns-in-Some-clause-old
returns-in-Some-clause-old c =
    c.put.ensures.old
    ∙ sym (ap (λ o. part_of o c.args.cell.now) (get-at thing_of _ _ _ _
    (entry-at c.args.number c.args.entries.now.items _ _ c.in-Some.index _ c.deref.ensures.value c.index_of.ensures.index c.in-Some.is c.index_mut.ensures.value)))

pub returns-in-Some-clause-ticks : goal.returns-in-Some-clause-ticks
returns-in-Some-clause-ticks c bound all content =
    let at = entry-at c.args.number c.args.entries.now.items _ _ c.in-Some.index _ c.deref.ensures.value c.index_of.ensures.index c.in-Some.is c.index_mut.ensures.value in
    let now = tick_of c.put.new.self in
    subst (AreWithin bound) (sym (by_number-changed tick_of (λ _. now) _ _ _ _ c.put.new.self at refl))
    (within-adjust bound (ticks_in c.args.entries.now.items) c.args.number (λ _. now) all
    (λ x e. c.put.ensures.ticks bound (all _ _ (get-at tick_of _ _ _ _ at)) content))

pub returns-in-Some-clause-below : goal.returns-in-Some-clause-below
returns-in-Some-clause-below c bound all =
    let at = entry-at c.args.number c.args.entries.now.items _ _ c.in-Some.index _ c.deref.ensures.value c.index_of.ensures.index c.in-Some.is c.index_mut.ensures.value in
    let own = all _ _ (get-at tick_of _ _ _ _ at) in
    omega (arith, own, c.put.ensures.below)

none : (c : In-None) → IsTrue (has_place_in None c.args.cell.now)
none c =
    sym (ap (λ o. has_place_in o c.args.cell.now) (get-nowhere places_of c.args.number c.args.entries.now.items
    (no-entry c.args.number c.args.entries.now.items _ _ c.deref.ensures.value c.index_of.ensures.index c.in-None.is))) ∙ c.requires.place

pub returns-in-None-clause-things : goal.returns-in-None-clause-things
returns-in-None-clause-things c = absurd (true≢false (sym (none c)))

pub returns-in-None-clause-old : goal.returns-in-None-clause-old
returns-in-None-clause-old c = absurd (true≢false (sym (none c)))

pub returns-in-None-clause-ticks : goal.returns-in-None-clause-ticks
returns-in-None-clause-ticks c bound all content = all

pub returns-in-None-clause-below : goal.returns-in-None-clause-below
returns-in-None-clause-below c bound all = absurd (true≢false (sym (none c)))
