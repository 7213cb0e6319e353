use Rattle.std.proofs.Common.{sym, subst}
use Rattle.std.specs.FinMap.{len-empty}
use Rattle.t3_undo.specs.Cell.{cell_cmp}
use Rattle.t3_undo.specs.Present.{Present}
use Rattle.t3_undo.specs.Slots.{parts_of, places_of}
use Rattle.t3_tadsobj.specs.Inner.Entries.{parts_in, places_in, AreCounted}
use Rattle.t3_tadsobj.proofs.EntryLists.{Entries}
use Rattle.t3_tadsobj.proofs.object.TadsObject.of.Goals as goal

pub invariant_of-result : goal.invariant_of-result
unfolding parts_of
invariant_of-result c = subst (λ (es : Entries). AreCounted es 0) (sym c.new.ensures.empty) (sym (len-empty cell_cmp Present))

pub returns : goal.returns
unfolding parts_of places_of
returns c = λ i. record
    { parts = parts_in (c.new.ensures.empty i); places = places_in (c.new.ensures.empty i); supers = c.args.supers; class = c.args.class }
