use Rattle.std.proofs.Common.{List, sym, subst}
use Rattle.t3_holder.specs.declared.holder.Holder.TheVariants as holders
use Rattle.t3_undo.specs.Slots.{parts_of, places_of}
use Rattle.t3_undo.specs.declared.cell.Cell.{Cell}
use Rattle.t3_undo.specs.declared.place.Place.{Place}
use Rattle.t3_tables.specs.Inner.Slots.{IsTable}
use Rattle.t3_tables.proofs.TableLists.{table-new}
use Rattle.t3_tables.proofs.table.Table.new.Goals as goal

pub invariant_of-result : goal.invariant_of-result
invariant_of-result c =
    let P : List (Cell × Place) → Type 0 = λ slots. IsTable slots 1 in
    subst P (sym c.new.ensures) table-new

pub returns : goal.returns
unfolding parts_of places_of
returns c = λ i. record {
  entries = parts_of (c.new.ensures i);
  places = places_of (c.new.ensures i);
  default = holders.Nil;
  default_stamp = 0;
  next_tick = 1;
}
