use Rattle.std.proofs.Common.{◌∙◌, ap, sym}
use Rattle.std.specs.FinMap.{get, contains_key}
use Rattle.t3_undo.specs.Slots as slots
use Rattle.t3_undo.specs.declared.cell.Cell.TheVariants as cells
use Rattle.t3_tables.specs.Table.{places_of}
use Rattle.t3_tables.proofs.Defaults.{placed-other, stamp-default, stamp-other, apart-default}
use Rattle.t3_tables.proofs.table.TableMetaclass.stamp.Goals as goal

pub stamp-requires : goal.stamp-requires
stamp-requires c =
    placed-other (slots.places_of c.self.inside.slots) c.self.inside.default_stamp c.args.cell.now c.in_default.not-Default
    (ap (λ t. contains_key (places_of t) c.args.cell.now) c.self.view_is ∙ c.requires)

pub returns-in-Default : goal.returns-in-Default
returns-in-Default c =
    ap (get (places_of c.args.self.now)) c.in-Default.is
    ∙ ap (λ t. get (places_of t) cells.Default) (sym c.self.view_is)
    ∙ stamp-default (slots.places_of c.self.inside.slots) c.self.inside.default_stamp

pub returns-in_default : goal.returns-in_default
returns-in_default c =
    ap (λ t. get (places_of t) c.args.cell.now) (sym c.self.view_is)
    ∙ stamp-other (slots.places_of c.self.inside.slots) c.self.inside.default_stamp c.args.cell.now
    (apart-default c.args.cell.now c.in_default.not-Default)
    ∙ c.stamp.ensures
