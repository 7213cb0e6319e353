-- What setting a cell of an object leaves: that cell is set, and all else is as before.
use Rattle.std.specs.Prelude.{◌≡◌, ◌≢◌, ℕ, option_map}
use Rattle.t3_holder.specs.declared.holder.Holder.{Holder}
use Rattle.t3_undo.specs.declared.cell.Cell.{Cell}
use Rattle.t3_store.specs.Value.{with_cell}
use Rattle.t3_store.specs.Store.{StoreValue, value_at, set_cell}

-- the object of the number has the cell set, if there is one; every other object is as before, and so are the next numbers and the limits
pub record HasSetCell (number : ℕ) (cell : Cell) (holder : Holder) (old new : StoreValue) : Type 0 where
  pub set : value_at new number ≡ option_map (with_cell cell holder) (value_at old number)
  pub others : (other : ℕ) → number ≢ other → value_at new other ≡ value_at old other
  pub next : new.next ≡ old.next
  pub next_transient : new.next_transient ≡ old.next_transient
  pub limits : new.limits ≡ old.limits

-- so it is in every store
abbrev pub SetsOneCell : Type 0
SetsOneCell =
    (store : StoreValue) (number : ℕ) (cell : Cell) (holder : Holder)
    → HasSetCell number cell holder store (set_cell number cell holder store)
