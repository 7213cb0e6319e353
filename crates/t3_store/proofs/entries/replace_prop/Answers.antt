use Rattle.std.proofs.Common.{◌∙◌, ap, sym}
use Rattle.t3_undo.specs.Content.{shown}
use Rattle.t3_undo.specs.Objects.{part_of, with_part}
use Rattle.t3_undo.specs.declared.cell.Cell.TheVariants as cells
use Rattle.t3_undo.specs.declared.content.Content.TheVariants as contents
use Rattle.t3_store.specs.Value.{holder_at}
use Rattle.t3_store.specs.Inner.Shapes.{thing_of, places_of, tick_of, has_place_in}
use Rattle.t3_store.specs.Inner.Entries.{things_of}
use Rattle.t3_store.proofs.MapValues.{found-value, no-value}
use Rattle.t3_store.proofs.Rows.{entry-at, no-entry, get-at, get-nowhere, rising-at, by_number-changed, by_number-kept}
use Rattle.t3_store.proofs.entries.replace_prop.Goals as goal
use Rattle.t3_store.proofs.entries.replace_prop.Goals.{In-None}

pub returns-in-Some : goal.returns-in-Some
returns-in-Some c =
    let at = entry-at c.args.number c.args.entries.now.items _ _ c.in-Some.index _ c.deref.ensures.value c.index_of.ensures.index c.in-Some.is c.index_mut.ensures.value in
    let cell = cells.Prop c.args.property in
    let now = c.replace_prop.new.self in
    record {
      rising = rising-at _ _ _ _ now at c.requires;
      old = λ some. c.replace_prop.ensures.old some ∙ sym (ap (λ o. part_of o cell) (get-at thing_of _ _ _ _ at));
      placed = λ some. ap (λ o. has_place_in o cell) (get-at places_of _ _ _ _ at) ∙ c.replace_prop.ensures.placed some;
      formed = c.replace_prop.ensures.formed;
      value = c.replace_prop.ensures.value
          ∙ ap (λ o. holder_at o cell) (found-value (things_of c.args.entries.now.items) c.args.number _ (sym (get-at thing_of _ _ _ _ at)));
      set = λ some. by_number-changed thing_of (with_part cell (shown (contents.Held c.args.value))) _ _ _ _ now at (c.replace_prop.ensures.set some);
      kept = λ none. by_number-kept thing_of _ _ _ _ now at (c.replace_prop.ensures.kept none);
      places = by_number-kept places_of _ _ _ _ now at c.replace_prop.ensures.places;
      ticks = by_number-kept tick_of _ _ _ _ now at c.replace_prop.ensures.ticks;
    }

pub returns-in-None-clause-value : goal.returns-in-None-clause-value
returns-in-None-clause-value c =
    ap (λ o. holder_at o (cells.Prop c.args.property)) (no-value (things_of c.args.entries.now.items) c.args.number
    (sym (get-nowhere thing_of c.args.number c.args.entries.now.items
    (no-entry c.args.number c.args.entries.now.items _ _ c.deref.ensures.value c.index_of.ensures.index c.in-None.is))))
