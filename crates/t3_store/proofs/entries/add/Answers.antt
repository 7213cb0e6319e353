use Rattle.std.proofs.Common.{◌∙◌, ap, sym, subst, ◌<◌, ◌≤◌, List, length}
use Rattle.std.specs.List.{AllWithin}
use Rattle.t3_store.specs.Inner.Shapes.{thing_of, places_of, tick_of}
use Rattle.t3_store.specs.Inner.Entries.{IsRising, things_of, places_in, ticks_in}
use Rattle.t3_store.specs.declared.entries.Entry.{Entry}
use Rattle.t3_store.proofs.RowEdits.{by_number-add, rising-add}
use Rattle.t3_store.proofs.Rows.{none-of}
use Rattle.t3_store.proofs.entries.add.Goals as goal

pub returns-clause-rising : goal.returns-clause-rising
returns-clause-rising c =
    let es = c.args.entries.now.items in
    let same = c.deref.ensures.value in
    let i = c.bound_of-index.result in
    subst IsRising (sym c.in_ok-insert.ensures.items)
    (rising-add es i (record { number = c.args.number; object = c.args.object }) c.requires.rising
    (none-of thing_of es c.args.number c.requires.new)
    (subst (λ (xs : List Entry). AllWithin (λ e. e.number < c.args.number) xs 0 i) same c.bound_of-index.ensures.below)
    (subst (λ (xs : List Entry). AllWithin (λ e. c.args.number ≤ e.number) xs i (length xs)) same c.bound_of-index.ensures.above))

pub returns-clause-ok : goal.returns-clause-ok
returns-clause-ok c =
    ap things_of c.in_ok-insert.ensures.items
    ∙ by_number-add thing_of c.args.entries.now.items c.bound_of-index.result (record { number = c.args.number; object = c.args.object })
    (none-of thing_of c.args.entries.now.items c.args.number c.requires.new)

pub returns-clause-places : goal.returns-clause-places
returns-clause-places c =
    ap places_in c.in_ok-insert.ensures.items
    ∙ by_number-add places_of c.args.entries.now.items c.bound_of-index.result (record { number = c.args.number; object = c.args.object })
    (none-of thing_of c.args.entries.now.items c.args.number c.requires.new)

pub returns-clause-ticks : goal.returns-clause-ticks
returns-clause-ticks c =
    ap ticks_in c.in_ok-insert.ensures.items
    ∙ by_number-add tick_of c.args.entries.now.items c.bound_of-index.result (record { number = c.args.number; object = c.args.object })
    (none-of thing_of c.args.entries.now.items c.args.number c.requires.new)
