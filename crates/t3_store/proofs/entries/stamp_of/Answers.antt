use Rattle.std.proofs.Common.{◌∙◌, ap, sym, true≢false}
use Rattle.std.specs.Option.{option_map}
use Rattle.t3_store.specs.Inner.Shapes.{places_of, has_place_in, stamp_in}
use Rattle.t3_store.proofs.Rows.{read-found, get-by_number}
use Rattle.t3_store.proofs.entries.stamp_of.Goals as goal

pub stamp-requires : goal.stamp-requires
stamp-requires c =
    sym (ap (λ o. has_place_in o c.args.cell.now)
    (read-found places_of c.args.entries.now c.args.number c.in-Some.object.now c.in-Some.ensures))
    ∙ c.requires.place

pub returns-in-Some : goal.returns-in-Some
returns-in-Some c =
    ap (λ o. stamp_in o c.args.cell.now) (read-found places_of c.args.entries.now c.args.number c.in-Some.object.now c.in-Some.ensures)
    ∙ c.stamp.ensures

pub returns-in-None : goal.returns-in-None
returns-in-None c =
    absurd (true≢false (sym c.requires.place
    ∙ ap (λ o. has_place_in o c.args.cell.now)
    (get-by_number places_of c.args.entries.now c.args.number ∙ ap (option_map places_of) (sym c.in-None.ensures))))
