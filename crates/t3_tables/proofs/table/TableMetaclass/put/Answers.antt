use Rattle.std.proofs.Common.{◌≡◌, ◌∙◌, ◌≤◌, ℕ, Option, ap, sym, subst, false, arith}
use Rattle.std.specs.FinMap.{get, insert, contains_key}
use Rattle.t3_undo.specs.Cell.{cell_cmp_total, cell_cmp-IsAntisymmetric}
use Rattle.t3_undo.specs.Content.{Parts, Places, shown}
use Rattle.t3_undo.specs.Present.{Present}
use Rattle.t3_undo.specs.declared.cell.Cell.{Cell}
use Rattle.t3_undo.specs.Objects.{set_at}
use Rattle.t3_undo.specs.Slots as slots
use Rattle.t3_undo.specs.declared.cell.Cell.TheVariants as cells
use Rattle.t3_undo.proofs.Maps.{set_at-restored}
use Rattle.t3_undo.proofs.SlotLists.{same}
use Rattle.t3_tables.specs.Table.{parts_of, places_of, with_default, tick_after}
use Rattle.t3_tables.proofs.Defaults.{get-default, get-other, placed-other, default-set, other-set, apart-default, tick-below}
use Rattle.t3_tables.proofs.TableLists.{table-put}
use Rattle.t3_tables.proofs.table.TableMetaclass.put.Goals as goal

pub put-requires : goal.put-requires
put-requires c = record {
  place =
      placed-other (slots.places_of c.self.inside.slots) c.self.inside.default_stamp c.args.cell.now c.in_default.not-Default
      (ap (λ t. contains_key (places_of t) c.args.cell.now) c.self.view_is ∙ c.requires.place);
  form = c.requires.form;
}

pub invariant_of-self-in_default : goal.invariant_of-self-in_default
invariant_of-self-in_default c =
    table-put c.self.inside.slots c.put.new.self c.self.inside.next_tick c.self.invariant c.args.cell.now (shown c.args.content)
    c.tick_after-self-inside.result
    c.put.ensures.parts c.put.ensures.places c.tick_after-self-inside.ensures

pub returns-in-Default-clause-parts : goal.returns-in-Default-clause-parts
returns-in-Default-clause-parts c =
    default-set (slots.parts_of c.self.inside.slots) c.self.inside.default c.exchange_default.new.default
    ∙ ap (set_at (with_default (slots.parts_of c.self.inside.slots) c.self.inside.default) cells.Default) c.exchange_default.ensures.new
    ∙ ap (λ t. set_at (parts_of t) cells.Default (shown c.args.content)) c.self.view_is
    ∙ ap (λ cell. set_at (parts_of c.args.self.now) cell (shown c.args.content)) (sym c.in-Default.is)

pub returns-in-Default-clause-old : goal.returns-in-Default-clause-old
returns-in-Default-clause-old c =
    ap shown c.exchange_default.ensures.old
    ∙ sym (get-default (slots.parts_of c.self.inside.slots) c.self.inside.default)
    ∙ ap (λ t. get (parts_of t) cells.Default) c.self.view_is
    ∙ ap (get (parts_of c.args.self.now)) (sym c.in-Default.is)

restored : (m new : Parts) (cell : Cell) (o old : Option Present) → new ≡ set_at m cell o → old ≡ get m cell → set_at new cell old ≡ m
restored = set_at-restored cell_cmp_total cell_cmp-IsAntisymmetric

pub returns-in-Default-clause-back : goal.returns-in-Default-clause-back
returns-in-Default-clause-back c =
    restored (parts_of c.args.self.now) _ c.args.cell.now (shown c.args.content) _ (returns-in-Default-clause-parts c)
    (returns-in-Default-clause-old c)

pub returns-in_default : goal.returns-in_default
returns-in_default c =
    let apart : same c.args.cell.now cells.Default ≡ false = apart-default c.args.cell.now c.in_default.not-Default in
    let parts =
    ap (λ (p : Parts). with_default p c.self.inside.default) c.put.ensures.parts
    ∙ other-set (slots.parts_of c.self.inside.slots) c.self.inside.default c.args.cell.now (shown c.args.content) apart
    ∙ ap (λ t. set_at (parts_of t) c.args.cell.now (shown c.args.content)) c.self.view_is in
    let old =
    c.put.ensures.old
    ∙ sym (get-other (slots.parts_of c.self.inside.slots) c.self.inside.default c.args.cell.now apart)
    ∙ ap (λ t. get (parts_of t) c.args.cell.now) c.self.view_is in
    record {
      parts = parts;
      places = ap (λ (p : Places). insert p cells.Default c.self.inside.default_stamp) c.put.ensures.places ∙ ap places_of c.self.view_is;
      next = c.tick_after-self-inside.ensures ∙ ap (λ t. tick_after t.next_tick (shown c.args.content)) c.self.view_is;
      old = old;
      back = restored (parts_of c.args.self.now) _ c.args.cell.now (shown c.args.content) _ parts old;
      formed = c.put.ensures.formed;
      below =
          subst (λ (n : ℕ). tick_after 0 (shown c.put.result) ≤ n) (ap (λ t. t.next_tick) c.self.view_is)
          (tick-below c.self.inside.next_tick (slots.parts_of c.self.inside.slots) c.args.cell.now (shown c.put.result)
          c.self.invariant.below c.put.ensures.old);
    }

pub returns-in-Default-clause-below : goal.returns-in-Default-clause-below
returns-in-Default-clause-below c =
    let none : tick_after 0 (shown c.exchange_default.result) ≡ 0 = ap (λ o. tick_after 0 (shown o)) c.exchange_default.ensures.old in
    omega arith
