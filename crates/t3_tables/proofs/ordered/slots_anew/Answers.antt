use Rattle.std.proofs.Common.{List, sym, subst, map}
use Rattle.std.specs.List.{IsDistinct}
use Rattle.t3_undo.specs.Slots.{parts_of}
use Rattle.t3_holder.specs.declared.holder.Holder.{Holder}
use Rattle.t3_tables.specs.declared.pair.Pair.{Pair}
use Rattle.t3_tables.specs.Table.{pair_of}
use Rattle.t3_tables.proofs.OrderedEntries.{Place, same_key}
use Rattle.t3_tables.proofs.TableLists.{distinct-gathered}
use Rattle.t3_tables.proofs.ordered.slots_anew.Goals as goal

pub numbered_slots-requires : goal.numbered_slots-requires
numbered_slots-requires c =
    let P : List (Place × Holder) → Type 0 = λ es. IsDistinct same_key (map (λ (pair : Pair). pair.key) (map pair_of es)) in
    subst P (sym c.in_ok-by_tick.ensures) (distinct-gathered (parts_of c.args.slots.now))
