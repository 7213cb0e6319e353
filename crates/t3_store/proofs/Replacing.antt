-- Objects of which one has another value for a property that it has.
use Rattle.std.proofs.Common.{◌≡◌, ◌∙◌, ap, sym, subst, refl, ℕ, cond, ◌+◌, true, false, Option, Some, None, IsSome, IsTrue, is_some, true≢false, if◌then◌else◌}
use Rattle.std.specs.Option.{option_and_then}
use Rattle.std.specs.Ordering.{nat_cmp}
use Rattle.std.specs.FinMap.{FinMap, get}
use Rattle.t3_holder.specs.declared.holder.Holder.{Holder}
use Rattle.t3_undo.specs.Content.{Parts, shown, is_form}
use Rattle.t3_undo.proofs.PresentForms.{value-formed}
use Rattle.t3_undo.specs.Present.{Present, value_in}
use Rattle.t3_undo.specs.Objects.{Objects, set_cell, adjust, with_part}
use Rattle.t3_undo.specs.declared.cell.Cell.{Cell}
use Rattle.t3_undo.specs.declared.cell.Cell.TheVariants as cells
use Rattle.t3_undo.specs.declared.content.Content.TheVariants as contents
use Rattle.t3_store.specs.Value.{Value, holder_in, holder_at, can_have, with_cell, units_in}
use Rattle.t3_undo.specs.Units.{cell_units}
use Rattle.t3_store.specs.Store.{StoreValue, is_persistent, with_value, noted, changed_in}
use Rattle.t3_store.specs.Store as stores
use Rattle.t3_store.specs.Inner.Store.{AreNumbered}
use Rattle.t3_store.specs.Inner.Shapes.{Shape, TadsShape, TextShape, ItemsShape, VectorShape, TableShape, value_of, values}
use Rattle.t3_store.specs.Inner.Valid.{AreValid}
use Rattle.t3_store.proofs.KindValues.{present-can, value-with, valid-with}
use Rattle.t3_store.proofs.MapValues.{found-value, get-values, some-map, values-adjust, present-can_at, units_in-with}
use Rattle.t3_store.proofs.Validity.{valid-set}

abbrev with_transient : StoreValue → FinMap nat_cmp Value → StoreValue
with_transient s transient = record s { transient = transient }

-- what has a property is no table
no-table : (x : Shape × Parts) (p : ℕ) → IsSome (holder_in (value_of x) (cells.Prop p)) → x.0 ≡ TableShape → ⊥
no-table (TadsShape supers class, parts) p some is = cc
no-table (TextShape bytes, parts) p some is = cc
no-table (ItemsShape items, parts) p some is = cc
no-table (VectorShape, parts) p some is = cc
no-table (TableShape, parts) p some is = true≢false (sym some)

-- something stands there where it has a cell
pub some-there : (o : Option Value) (cell : Cell) → IsSome (holder_at o cell) → is_some o ≡ true
some-there None cell some = absurd (true≢false (sym some))
some-there (Some value) cell some = refl

pub object-there : (things : Objects Shape) (n : ℕ) (cell : Cell) → IsSome (holder_at (get (values things) n) cell) → is_some (get things n) ≡ true
object-there things n cell some =
    sym (some-map value_of (get things n)) ∙ ap is_some (sym (get-values things n)) ∙ some-there (get (values things) n) cell some

pub held-there : (cell : Cell) (was : Option Present) (o : Option Holder) → option_and_then value_in was ≡ o → IsTrue (is_form cell was) → IsSome was
    → IsSome o
held-there cell was o is form some = ap is_some (sym is) ∙ value-formed cell was form ∙ some

-- no object is in both halves
not-both : {X Y : Type 0} (p : Option X) (t : Option Y) → (is_some p ≡ true → t ≡ None) → is_some t ≡ true → is_some p ≡ false
not-both None t apart some = refl
not-both (Some x) t apart some = absurd (true≢false (sym some ∙ ap is_some (apart refl)))

pub not-persistent : (persistent transient : Objects Shape) (next next_transient n : ℕ) (cell : Cell)
    → AreNumbered persistent transient next next_transient → IsSome (holder_at (get (values transient) n) cell)
    → is_some (get (values persistent) n) ≡ false
not-persistent persistent transient next next_transient n cell numbered some =
    ap is_some (get-values persistent n) ∙ some-map value_of (get persistent n)
    ∙ not-both (get persistent n) (get transient n) (numbered.distinct n) (object-there transient n cell some)

-- a cell of a transient object set
pub transient-set : (s : StoreValue) (n : ℕ) (cell : Cell) (value : Holder) → is_persistent s n ≡ false
    → with_transient s (adjust s.transient n (with_cell cell value)) ≡ stores.set_cell n cell value s
transient-set s n cell value gone =
    sym (ap (with_value n (with_cell cell value)) noted_not ∙ changed)
  where
    noted_not : noted n cell s ≡ s
    noted_not = λ i. if gone i then record s { marks = changed_in s.limits.records n cell s.marks } else s

    changed : with_value n (with_cell cell value) s ≡ with_transient s (adjust s.transient n (with_cell cell value))
    changed = λ i.
        if gone i then record s { persistent = adjust s.persistent n (with_cell cell value) }
        else record s { transient = adjust s.transient n (with_cell cell value) }

module _ (things : Objects Shape) (n p : ℕ) (value : Holder) (valid : AreValid things)
    (some : IsSome (holder_at (get (values things) n) (cells.Prop p))) where
  has : (x : Shape × Parts) → get things n ≡ Some x → IsSome (holder_in (value_of x) (cells.Prop p))
  has x e = ap (λ o. is_some (holder_at o (cells.Prop p))) (found-value things n x (sym e)) ∙ some

  can : (x : Shape × Parts) → get things n ≡ Some x → IsTrue (can_have (value_of x) (cells.Prop p))
  can x e = present-can (value_of x) (cells.Prop p) (has x e)

  values-replaced : values (set_cell things n (cells.Prop p) (shown (contents.Held value))) ≡ adjust (values things) n (with_cell (cells.Prop p) value)
  values-replaced =
      values-adjust things n (with_part (cells.Prop p) (shown (contents.Held value))) (with_cell (cells.Prop p) value)
      (λ x e. value-with x (cells.Prop p) value (no-table x p (has x e)) (can x e) (valid n x e))

  valid-replaced : AreValid (set_cell things n (cells.Prop p) (shown (contents.Held value)))
  valid-replaced =
      valid-set things n (cells.Prop p) (shown (contents.Held value)) valid
      (λ x e. valid-with x (cells.Prop p) value (no-table x p (has x e)) (can x e) (valid n x e))

  units-replaced : units_in (values (set_cell things n (cells.Prop p) (shown (contents.Held value)))) ≡ units_in (values things)
  units-replaced =
      ap units_in values-replaced
      ∙ units_in-with (values things) n (cells.Prop p) value (present-can_at (get (values things) n) (cells.Prop p) some)
      ∙ ap (λ b. cond b (units_in (values things)) (units_in (values things) + cell_units (cells.Prop p))) some

-- where this stood, which is nothing where nothing changed
module _ (things new : Objects Shape) (n p : ℕ) (value : Holder) (was : Option Present) (valid : AreValid things)
    (is : option_and_then value_in was ≡ holder_at (get (values things) n) (cells.Prop p)) (form : IsTrue (is_form (cells.Prop p) was))
    (set : IsSome was → new ≡ set_cell things n (cells.Prop p) (shown (contents.Held value))) (kept : was ≡ None → new ≡ things) where
  held : IsSome was → IsSome (holder_at (get (values things) n) (cells.Prop p))
  held some = held-there (cells.Prop p) was (holder_at (get (values things) n) (cells.Prop p)) is form some

  pub values-after : IsSome was → values new ≡ adjust (values things) n (with_cell (cells.Prop p) value)
  values-after some = ap values (set some) ∙ values-replaced things n p value valid (held some)

  pub valid-after : AreValid new
  valid-after = by was refl
    where
      by : (o : Option Present) → was ≡ o → AreValid new
      by None e = subst AreValid (sym (kept e)) valid
      by (Some present) e = subst AreValid (sym (set (ap is_some e))) (valid-replaced things n p value valid (held (ap is_some e)))

  pub units-after : units_in (values things) ≡ units_in (values new)
  units-after = by was refl
    where
      by : (o : Option Present) → was ≡ o → units_in (values things) ≡ units_in (values new)
      by None e = ap (λ t. units_in (values t)) (sym (kept e))
      by (Some present) e =
          sym (ap (λ t. units_in (values t)) (set (ap is_some e)) ∙ units-replaced things n p value valid (held (ap is_some e)))
