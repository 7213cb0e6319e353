-- What the code counts where it sets a cell or takes one away, over the row of objects.
use Rattle.std.proofs.Common.{◌≡◌, ◌∙◌, ap, sym, subst, ℕ, ◌+◌, Bool, false, cond, List, Option, None, IsTrue, IsSome, is_some}
use Rattle.std.specs.FinMap.{get}
use Rattle.t3_holder.specs.declared.holder.Holder.{Holder}
use Rattle.t3_undo.specs.Present.{Present}
use Rattle.t3_undo.specs.Objects.{Objects, set_cell, adjust, part_at}
use Rattle.t3_undo.specs.declared.cell.Cell.{Cell}
use Rattle.t3_store.specs.Value.{can_have_at, can_lose_at, with_cell, units_in, holder_at}
use Rattle.t3_undo.specs.Units.{cell_units}
use Rattle.t3_store.specs.Inner.Shapes.{Shape, values}
use Rattle.t3_store.specs.Inner.Valid.{AreValid}
use Rattle.t3_store.specs.Inner.Entries.{things_of}
use Rattle.t3_store.specs.declared.entries.Entry.{Entry}
use Rattle.t3_store.proofs.MapValues.{counted-set, counted-without, absent}

can-back : (things now : Objects Shape) (n : ℕ) (cell : Cell) → things ≡ now → IsTrue (can_have_at (get (values now) n) cell)
    → IsTrue (can_have_at (get (values things) n) cell)
can-back things now n cell same can =
    let P : Objects Shape → Type 0 = λ o. IsTrue (can_have_at (get (values o) n) cell) in
    subst P (sym same) can

pub set-counted : (es part new : List Entry) (now : Objects Shape) (n : ℕ) (cell : Cell) (holder : Holder) (content old : Option Present)
    (units : ℕ) (b : Bool) → things_of es ≡ now → part ≡ es → things_of new ≡ set_cell (things_of es) n cell content
    → values (set_cell (things_of part) n cell content) ≡ adjust (values (things_of part)) n (with_cell cell holder)
    → AreValid (things_of es) → IsTrue (can_have_at (get (values now) n) cell) → old ≡ part_at (things_of es) n cell → units ≡ units_in (values (things_of es))
    → is_some old ≡ b → cond b units (units + cell_units cell) ≡ units_in (values (things_of new))
set-counted es part new now n cell holder content old units b view same put set valid can is counted there =
    let P : List Entry → Type 0 = λ xs. values (set_cell (things_of xs) n cell content)
    ≡ adjust (values (things_of xs)) n (with_cell cell holder) in
    ap (λ b. cond b units (units + cell_units cell)) (sym there)
    ∙ counted-set (things_of es) _ n cell holder old units (ap values put ∙ subst P same set)
    valid (can-back (things_of es) now n cell view can) is counted

pub set-absent : (es : List Entry) (now : Objects Shape) (n : ℕ) (cell : Cell) (old : Option Present) → things_of es ≡ now
    → AreValid (things_of es) → old ≡ part_at (things_of es) n cell → is_some old ≡ false
    → holder_at (get (values now) n) cell ≡ None
set-absent es now n cell old view valid is gone =
    (λ i. holder_at (get (values (sym view i)) n) cell) ∙ absent (things_of es) n cell old valid is gone

pub take-counted : (es new : List Entry) (now : Objects Shape) (n : ℕ) (cell : Cell) (units : ℕ) → things_of es ≡ now
    → things_of new ≡ set_cell (things_of es) n cell None → AreValid (things_of es) → IsSome (holder_at (get (values now) n) cell)
    → IsTrue (can_lose_at (get (values now) n) cell) → units ≡ units_in (values (things_of es)) → units_in (values (things_of new)) + cell_units cell ≡ units
take-counted es new now n cell units view put valid some can counted =
    let Q : Objects Shape → Type 0 = λ o. IsTrue (can_lose_at (get (values o) n) cell) in
    let P : Objects Shape → Type 0 = λ o. IsSome (holder_at (get (values o) n) cell) in
    counted-without (things_of es) (things_of new) n cell units put valid (subst P (sym view) some) (subst Q (sym view) can) counted
