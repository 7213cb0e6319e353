use Rattle.std.proofs.Common.{◌≡◌, ◌∙◌, List, ℕ, ◌+◌, ap, sym, subst, length, map, arith}
use Rattle.std.specs.FinMap.{entries, insert}
use Rattle.t3_holder.specs.declared.holder.Holder.{Holder}
use Rattle.t3_undo.specs.Content.{places_for}
use Rattle.t3_undo.specs.Slots as slots
use Rattle.t3_undo.specs.declared.cell.Cell.{Cell}
use Rattle.t3_undo.specs.declared.cell.Cell.TheVariants as cells
use Rattle.t3_undo.specs.declared.place.Place.{Place}
use Rattle.t3_tables.specs.Table.{TableValue, parts_of, entries_of, pair_of, ordered, with_default, numbered, filled}
use Rattle.t3_tables.specs.Inner.Slots.{IsTable}
use Rattle.t3_tables.proofs.NumberedSlots.{length-numbered}
use Rattle.t3_tables.proofs.TableLists.{gathered-entries, distinct-entries_of, table-numbered, entries-filled, places-filled}
use Rattle.t3_tables.proofs.table.Table.copy.Goals as goal

abbrev Slotted : Type 0
Slotted = List (Cell × Place)

-- the slots of the copy, by the entries of the table
module _ (made from : Slotted) (default : Holder) (now : TableValue)
    (is : made ≡ numbered 1 (map pair_of (entries (ordered (slots.parts_of from)))))
    (same : with_default (slots.parts_of from) default ≡ parts_of now) where
  copied : made ≡ numbered 1 (entries_of (parts_of now))
  copied = is ∙ ap (λ pairs. numbered 1 pairs) (gathered-entries (slots.parts_of from) default ∙ ap entries_of same)

  counted : length made ≡ length (entries_of (parts_of now))
  counted = ap length copied ∙ length-numbered 1 (entries_of (parts_of now))

  table : IsTable made (length made + 1)
  table =
      let P : Slotted → Type 0 = λ s. IsTable s (length made + 1) in
      let Q : ℕ → Type 0 = λ n. IsTable (numbered 1 (entries_of (parts_of now))) (n + 1) in
      subst P (sym copied) (subst Q (sym counted) (table-numbered (entries_of (parts_of now))))

pub invariant_of-result : goal.invariant_of-result
invariant_of-result c =
    let Q : ℕ → Type 0 = λ n. IsTable c.in_ok-slots.slots (n + 1) in
    subst Q (sym c.places-next_tick.ensures.slots)
    (table c.in_ok-slots.slots c.self.inside.slots c.self.inside.default c.args.self.now c.in_ok-slots.ensures (ap parts_of c.self.view_is))

pub returns : goal.returns
returns c =
    let is = copied c.in_ok-slots.slots c.self.inside.slots c.self.inside.default c.args.self.now c.in_ok-slots.ensures
    (ap parts_of c.self.view_is)
    in
    let e = counted c.in_ok-slots.slots c.self.inside.slots c.self.inside.default c.args.self.now c.in_ok-slots.ensures
    (ap parts_of c.self.view_is)
    in
    record {
      parts =
          ap (λ (s : Slotted). with_default (slots.parts_of s) c.self.inside.default) is
          ∙ ap (λ t. filled t.default (entries_of (parts_of c.args.self.now))) c.self.view_is;
      entries =
          ap (λ (s : Slotted). entries_of (with_default (slots.parts_of s) c.self.inside.default)) is
          ∙ entries-filled c.self.inside.default (entries_of (parts_of c.args.self.now)) (distinct-entries_of (parts_of c.args.self.now));
      places =
          ap (λ (s : Slotted). insert (slots.places_of s) cells.Default 0) is
          ∙ places-filled c.self.inside.default (entries_of (parts_of c.args.self.now))
          ∙ ap (λ (s : Slotted). places_for (with_default (slots.parts_of s) c.self.inside.default)) (sym is);
      next = omega (arith, e, c.places-next_tick.ensures.slots);
      few = omega (arith, c.places-next_tick.ensures.bound);
    }
