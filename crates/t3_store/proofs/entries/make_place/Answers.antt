use Rattle.std.proofs.Common.{◌∙◌, ap, sym, refl, true≢false}
use Rattle.std.specs.Option.{option_map}
use Rattle.t3_store.specs.Value.{can_have_at}
use Rattle.t3_undo.specs.Content.{with_place}
use Rattle.t3_undo.proofs.SlotLists.{placed-made}
use Rattle.t3_store.proofs.MapValues.{get-values, found-value}
use Rattle.t3_store.specs.Inner.Shapes.{thing_of, places_of, tick_of, value_of, has_place_in}
use Rattle.t3_store.specs.Inner.Entries.{things_of, places_in}
use Rattle.t3_store.proofs.Outcomes.{OnOk-map, OnErr-map}
use Rattle.t3_store.proofs.Rows.{adjust-none, entry-at, no-entry, get-nowhere, get-at, get-changed, rising-at, by_number-changed, by_number-kept}
use Rattle.t3_store.proofs.entries.make_place.Goals as goal

pub returns-in-Some-clause-rising : goal.returns-in-Some-clause-rising
returns-in-Some-clause-rising c =
    rising-at _ _ _ _ c.make_place.new.self
    (entry-at c.args.number c.args.entries.now.items _ _ c.in-Some.index _ c.deref.ensures.value c.index_of.ensures.index c.in-Some.is c.index_mut.ensures.value)
    c.requires.rising

pub returns-in-Some-clause-things : goal.returns-in-Some-clause-things
returns-in-Some-clause-things c =
    by_number-kept thing_of _ _ _ _ c.make_place.new.self
    (entry-at c.args.number c.args.entries.now.items _ _ c.in-Some.index _ c.deref.ensures.value c.index_of.ensures.index c.in-Some.is c.index_mut.ensures.value)
    c.make_place.ensures.thing

pub returns-in-Some-clause-ok : goal.returns-in-Some-clause-ok
returns-in-Some-clause-ok c =
    OnOk-map c.make_place.result (λ e. by_number-changed places_of (λ own. with_place own c.args.cell) _ _ _ _ c.make_place.new.self
    (entry-at c.args.number c.args.entries.now.items _ _ c.in-Some.index _ c.deref.ensures.value c.index_of.ensures.index c.in-Some.is c.index_mut.ensures.value)
    e) c.make_place.ensures.ok

pub returns-in-Some-clause-err : goal.returns-in-Some-clause-err
returns-in-Some-clause-err c =
    OnErr-map c.make_place.result (λ e. by_number-kept places_of _ _ _ _ c.make_place.new.self
    (entry-at c.args.number c.args.entries.now.items _ _ c.in-Some.index _ c.deref.ensures.value c.index_of.ensures.index c.in-Some.is c.index_mut.ensures.value)
    e) c.make_place.ensures.err

pub returns-in-None-clause-ok : goal.returns-in-None-clause-ok
returns-in-None-clause-ok c =
    sym (adjust-none (places_in c.args.entries.now.items) c.args.number (λ own. with_place own c.args.cell)
    (get-nowhere places_of c.args.number c.args.entries.now.items
    (no-entry c.args.number c.args.entries.now.items _ _ c.deref.ensures.value c.index_of.ensures.index c.in-None.is)))

pub returns-in-Some-clause-placed : goal.returns-in-Some-clause-placed
returns-in-Some-clause-placed c =
    OnOk-map c.make_place.result (λ e. ap (λ o. has_place_in o c.args.cell) (get-changed places_of _ _ _ _ c.make_place.new.self
    (entry-at c.args.number c.args.entries.now.items _ _ c.in-Some.index _ c.deref.ensures.value c.index_of.ensures.index c.in-Some.is c.index_mut.ensures.value))
    ∙ placed-made _ _ c.args.cell c.args.cell e refl)
    c.make_place.ensures.ok

pub returns-in-None-clause-placed : goal.returns-in-None-clause-placed
returns-in-None-clause-placed c =
    let gone = get-values (things_of c.args.entries.now.items) c.args.number
    ∙ ap (option_map value_of) (get-nowhere thing_of c.args.number c.args.entries.now.items
    (no-entry c.args.number c.args.entries.now.items _ _ c.deref.ensures.value c.index_of.ensures.index c.in-None.is)) in
    absurd (true≢false (sym c.requires.can ∙ ap (λ o. can_have_at o c.args.cell) gone))

pub make_place-requires-clause-can : goal.make_place-requires-clause-can
make_place-requires-clause-can c =
    let at = entry-at c.args.number c.args.entries.now.items _ _ c.in-Some.index _ c.deref.ensures.value c.index_of.ensures.index c.in-Some.is c.index_mut.ensures.value in
    let value = found-value (things_of c.args.entries.now.items) c.args.number _ (sym (get-at thing_of _ _ _ _ at)) in
    ap (λ o. can_have_at o c.args.cell) value ∙ c.requires.can

pub make_place-requires-clause-valid : goal.make_place-requires-clause-valid
make_place-requires-clause-valid c =
    c.requires.valid c.args.number _ (get-at thing_of _ _ _ _
    (entry-at c.args.number c.args.entries.now.items _ _ c.in-Some.index _ c.deref.ensures.value c.index_of.ensures.index c.in-Some.is c.index_mut.ensures.value))

pub returns-in-Some-clause-ticks : goal.returns-in-Some-clause-ticks
returns-in-Some-clause-ticks c =
    by_number-kept tick_of _ _ _ _ c.make_place.new.self
    (entry-at c.args.number c.args.entries.now.items _ _ c.in-Some.index _ c.deref.ensures.value c.index_of.ensures.index c.in-Some.is c.index_mut.ensures.value)
    c.make_place.ensures.ticks
