use Rattle.std.proofs.Common.{◌∙◌, ap, sym}
use Rattle.std.specs.FinMap.{insert}
use Rattle.t3_undo.specs.Content.{Parts, Places, with_place}
use Rattle.t3_undo.specs.Slots as slots
use Rattle.t3_undo.specs.declared.cell.Cell.TheVariants as cells
use Rattle.t3_tables.specs.Table.{parts_of, places_of, with_default}
use Rattle.t3_tables.proofs.Defaults.{place-default, place-other, apart-default, cell-entry}
use Rattle.t3_tables.proofs.TableLists.{table-place}
use Rattle.t3_tables.proofs.table.TableMetaclass.make_place.Goals as goal

pub invariant_of-self-in_default : goal.invariant_of-self-in_default
invariant_of-self-in_default c =
    table-place c.self.inside.slots c.make_place.new.self c.self.inside.next_tick c.self.invariant c.args.cell
    (cell-entry c.args.cell c.requires c.in_default.not-Default) c.make_place.ensures.parts c.in_ok-make_place-in_default.ensures.ok

pub returns-in-Default-clause-ok : goal.returns-in-Default-clause-ok
returns-in-Default-clause-ok c =
    ap places_of (sym c.self.view_is)
    ∙ place-default (slots.places_of c.self.inside.slots) c.self.inside.default_stamp
    ∙ ap (λ t. with_place (places_of t) cells.Default) c.self.view_is
    ∙ ap (with_place (places_of c.args.self.now)) (sym c.in-Default.is)

pub returns-in_ok-make_place-in_default : goal.returns-in_ok-make_place-in_default
returns-in_ok-make_place-in_default c = record {
  parts = ap (λ (p : Parts). with_default p c.self.inside.default) c.make_place.ensures.parts ∙ ap parts_of c.self.view_is;
  next = ap (λ t. t.next_tick) c.self.view_is;
  ok =
      ap (λ (p : Places). insert p cells.Default c.self.inside.default_stamp) c.in_ok-make_place-in_default.ensures.ok
      ∙ place-other (slots.places_of c.self.inside.slots) c.self.inside.default_stamp c.args.cell
      (apart-default c.args.cell c.in_default.not-Default)
      ∙ ap (λ t. with_place (places_of t) c.args.cell) c.self.view_is;
  err = tt;
}
