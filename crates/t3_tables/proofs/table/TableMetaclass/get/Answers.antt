use Rattle.std.proofs.Common.{◌≡◌, ◌∙◌, ap, sym, false, is_some}
use Rattle.std.specs.FinMap.{get}
use Rattle.t3_undo.specs.Slots as slots
use Rattle.t3_undo.specs.declared.cell.Cell.TheVariants as cells
use Rattle.t3_undo.proofs.SlotLists.{same}
use Rattle.t3_tables.specs.Table.{parts_of, places_of}
use Rattle.t3_tables.proofs.Defaults.{get-default, get-other, stamp-default, stamp-other, apart-default, entry-cell}
use Rattle.t3_tables.proofs.table.TableMetaclass.get.Goals as goal

pub returns-in-Default-clause-content : goal.returns-in-Default-clause-content
returns-in-Default-clause-content c =
    sym (get-default (slots.parts_of c.self.inside.slots) c.self.inside.default)
    ∙ ap (λ t. get (parts_of t) cells.Default) c.self.view_is
    ∙ ap (get (parts_of c.args.self.now)) (sym c.in-Default.is)

pub returns-in-Default-clause-placed : goal.returns-in-Default-clause-placed
returns-in-Default-clause-placed c there =
    ap is_some (ap (get (places_of c.args.self.now)) c.in-Default.is
    ∙ ap (λ t. get (places_of t) cells.Default) (sym c.self.view_is)
    ∙ stamp-default (slots.places_of c.self.inside.slots) c.self.inside.default_stamp)

pub returns-in_default : goal.returns-in_default
returns-in_default c =
    let apart : same c.args.cell.now cells.Default ≡ false = apart-default c.args.cell.now c.in_default.not-Default in
    let there = sym (stamp-other (slots.places_of c.self.inside.slots) c.self.inside.default_stamp c.args.cell.now apart)
    ∙ ap (λ t. get (places_of t) c.args.cell.now) c.self.view_is in
    record {
      content =
          c.get.ensures.content
          ∙ sym (get-other (slots.parts_of c.self.inside.slots) c.self.inside.default c.args.cell.now apart)
          ∙ ap (λ t. get (parts_of t) c.args.cell.now) c.self.view_is;
      placed = λ some. ap is_some (sym there) ∙ c.get.ensures.placed some;
      formed = λ placed. c.get.ensures.formed (ap is_some there ∙ placed);
      only_table = λ some. entry-cell c.args.cell.now (c.self.invariant.only c.args.cell.now (c.get.ensures.placed some));
    }
