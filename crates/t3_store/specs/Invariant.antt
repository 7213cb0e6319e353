-- What holds of each value of a store and of its savepoints' copies, and that each call keeps it where it holds of what the call brings.
use Rattle.std.specs.Prelude.{◌≡◌, ℕ, Bool, Option, None, Some}
use Rattle.std.specs.List.{AllByRecursion}
use Rattle.std.specs.FinMap.{get}
use Rattle.t3_holder.specs.declared.holder.Holder.{Holder}
use Rattle.t3_undo.specs.declared.cell.Cell.{Cell}
use Rattle.t3_store.specs.Value.{Value, Objects, with_cell, without_cell}
use Rattle.t3_store.specs.Store.{StoreValue, value_at, started, created_in, after_write, set_cell, saved, undone, replaced}
use Rattle.t3_store.specs.declared.limits.StoreLimits.{StoreLimits}

-- it holds of the value of each of these objects
abbrev pub HoldsOfEach : (Value → Type 0) → Objects → Type 0
HoldsOfEach Holds objects = (number : ℕ) (value : Value) → get objects number ≡ Some value → Holds value

-- it holds of each value of a store, and of each that a savepoint's copy has
pub record HoldsThroughout (Holds : Value → Type 0) (s : StoreValue) : Type 0 where
  pub persistent : HoldsOfEach Holds s.persistent
  pub transient : HoldsOfEach Holds s.transient
  pub copies : AllByRecursion (λ mark. HoldsOfEach Holds mark.copy) s.marks

-- where it holds of an object's value, it does so of the value changed like this
abbrev pub HoldsAfter : (Value → Type 0) → ℕ → (Value → Value) → StoreValue → Type 0
HoldsAfter Holds number change s = (value : Value) → value_at s number ≡ Some value → Holds value → Holds (change value)

-- a value with a cell set, or with it taken away where there is no holder
abbrev pub with_written : Cell → Option Holder → Value → Value
with_written cell None value = without_cell cell value
with_written cell (Some holder) value = with_cell cell holder value

-- each call keeps it: one that makes an object or puts a state in place, where it holds of these values; one that sets a cell or
-- takes it away, where that keeps it of the object's value
pub record IsKeptByCalls (Holds : Value → Type 0) : Type 0 where
  pub start : (limits : StoreLimits) (first passing : Objects) (next : ℕ) → HoldsOfEach Holds first → HoldsOfEach Holds passing
      → HoldsThroughout Holds (started limits first passing next)
  pub create : (value : Value) (transient : Bool) (old new : StoreValue) (number : ℕ) → created_in value transient old ≡ Some (number, new)
      → Holds value → HoldsThroughout Holds old → HoldsThroughout Holds new
  pub write : (number : ℕ) (cell : Cell) (holder : Option Holder) (old new : StoreValue) → after_write number cell holder old ≡ Some new
      → HoldsAfter Holds number (with_written cell holder) old → HoldsThroughout Holds old → HoldsThroughout Holds new
  pub overwrite : (number : ℕ) (cell : Cell) (holder : Holder) (old : StoreValue) → HoldsAfter Holds number (with_cell cell holder) old
      → HoldsThroughout Holds old → HoldsThroughout Holds (set_cell number cell holder old)
  pub savepoint : (old : StoreValue) → HoldsThroughout Holds old → HoldsThroughout Holds (saved old)
  pub undo : (old : StoreValue) → HoldsThroughout Holds old → HoldsThroughout Holds (undone old)
  pub replace : (state : Objects) (next : ℕ) (old : StoreValue) → HoldsOfEach Holds state → HoldsThroughout Holds old
      → HoldsThroughout Holds (replaced state next old)
