use Rattle.std.proofs.Common.{◌∙◌, ap, sym, subst, ◌<◌, ◌≤◌, List, length}
use Rattle.std.specs.List.{AllWithin}
use Rattle.t3_store.specs.Inner.Shapes.{thing_of, places_of, tick_of}
use Rattle.t3_store.specs.Inner.Entries.{IsRising, things_of, places_in, ticks_in}
use Rattle.t3_store.specs.declared.entries.Entry.{Entry}
use Rattle.t3_store.proofs.RowEdits.{rising-take, by_number-cut}
use Rattle.t3_store.proofs.entries.cut.Goals as goal
use Rattle.t3_store.proofs.entries.cut.Goals.{After-truncate}

low : (c : After-truncate) → AllWithin (λ (e : Entry). e.number < c.args.next) c.args.entries.now.items 0 c.bound_of-bound.result
low c = subst (λ (xs : List Entry). AllWithin (λ e. e.number < c.args.next) xs 0 c.bound_of-bound.result) c.deref.ensures.value
    c.bound_of-bound.ensures.below

high : (c : After-truncate) → AllWithin (λ (e : Entry). c.args.next ≤ e.number) c.args.entries.now.items c.bound_of-bound.result
    (length c.args.entries.now.items)
high c = subst (λ (xs : List Entry). AllWithin (λ e. c.args.next ≤ e.number) xs c.bound_of-bound.result (length xs)) c.deref.ensures.value
    c.bound_of-bound.ensures.above

pub returns-clause-rising : goal.returns-clause-rising
returns-clause-rising c = subst IsRising (sym c.truncate.ensures.items) (rising-take c.args.entries.now.items c.bound_of-bound.result c.requires)

pub returns-clause-things : goal.returns-clause-things
returns-clause-things c =
    ap things_of c.truncate.ensures.items
    ∙ by_number-cut thing_of c.args.entries.now.items c.bound_of-bound.result c.args.next (low c) (high c)

pub returns-clause-places : goal.returns-clause-places
returns-clause-places c =
    ap places_in c.truncate.ensures.items
    ∙ by_number-cut places_of c.args.entries.now.items c.bound_of-bound.result c.args.next (low c) (high c)

pub returns-clause-ticks : goal.returns-clause-ticks
returns-clause-ticks c =
    ap ticks_in c.truncate.ensures.items
    ∙ by_number-cut tick_of c.args.entries.now.items c.bound_of-bound.result c.args.next (low c) (high c)
