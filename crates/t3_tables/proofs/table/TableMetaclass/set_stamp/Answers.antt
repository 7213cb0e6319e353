use Rattle.std.proofs.Common.{◌∙◌, ap, sym}
use Rattle.std.specs.FinMap.{insert, contains_key}
use Rattle.t3_undo.specs.Content.{Parts, Places}
use Rattle.t3_undo.specs.Slots as slots
use Rattle.t3_undo.specs.declared.cell.Cell.TheVariants as cells
use Rattle.t3_tables.specs.Table.{parts_of, places_of, with_default}
use Rattle.t3_tables.proofs.Defaults.{placed-other, stamp-set, stamp-set_other, apart-default}
use Rattle.t3_tables.proofs.TableLists.{table-stamp}
use Rattle.t3_tables.proofs.table.TableMetaclass.set_stamp.Goals as goal

pub set_stamp-requires : goal.set_stamp-requires
set_stamp-requires c =
    placed-other (slots.places_of c.self.inside.slots) c.self.inside.default_stamp c.args.cell.now c.in_default.not-Default
    (ap (λ t. contains_key (places_of t) c.args.cell.now) c.self.view_is ∙ c.requires)

pub invariant_of-self-in_default : goal.invariant_of-self-in_default
invariant_of-self-in_default c =
    table-stamp c.self.inside.slots c.set_stamp.new.self c.self.inside.next_tick c.self.invariant c.args.cell.now c.args.stamp
    (placed-other (slots.places_of c.self.inside.slots) c.self.inside.default_stamp c.args.cell.now c.in_default.not-Default
    (ap (λ t. contains_key (places_of t) c.args.cell.now) c.self.view_is ∙ c.requires))
    c.set_stamp.ensures.parts c.set_stamp.ensures.places

pub returns-in-Default : goal.returns-in-Default
returns-in-Default c = record {
  parts = ap parts_of c.self.view_is;
  places =
      stamp-set (slots.places_of c.self.inside.slots) c.self.inside.default_stamp c.args.stamp
      ∙ ap (λ t. insert (places_of t) cells.Default c.args.stamp) c.self.view_is
      ∙ ap (λ cell. insert (places_of c.args.self.now) cell c.args.stamp) (sym c.in-Default.is);
  next = ap (λ t. t.next_tick) c.self.view_is;
}

pub returns-in_default : goal.returns-in_default
returns-in_default c = record {
  parts = ap (λ (p : Parts). with_default p c.self.inside.default) c.set_stamp.ensures.parts ∙ ap parts_of c.self.view_is;
  places =
      ap (λ (p : Places). insert p cells.Default c.self.inside.default_stamp) c.set_stamp.ensures.places
      ∙ stamp-set_other (slots.places_of c.self.inside.slots) c.self.inside.default_stamp c.args.cell.now c.args.stamp
      (apart-default c.args.cell.now c.in_default.not-Default)
      ∙ ap (λ t. insert (places_of t) c.args.cell.now c.args.stamp) c.self.view_is;
  next = ap (λ t. t.next_tick) c.self.view_is;
}
