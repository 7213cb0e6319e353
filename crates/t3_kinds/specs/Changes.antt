-- What a method comes to: a fault, or changes that are made one after the other, and then an answer; and what a store makes of them
-- (the chapters on metaclasses, in this project's profile).
use Rattle.std.specs.Prelude.{◌≡◌, ℕ, Bool, true, false, List, [], ◌∷◌, take, Option, Some, None, Result, Ok, Err, OnOk}
use Rattle.std.specs.Option.{option_map}
use Rattle.t3_holder.specs.declared.holder.Holder.{Holder}
use Rattle.t3_undo.specs.declared.cell.Cell.{Cell}
use Rattle.t3_store.specs.Value.{Value}
use Rattle.t3_store.specs.Store.{StoreValue, created_in, after_write}
use Rattle.t3_ops.specs.declared.fault.Fault.{Fault}
use Rattle.t3_ops.specs.declared.outcome.OpRefusal.{OpRefusal}
use Rattle.t3_ops.specs.declared.outcome.OpRefusal.TheVariants as refusals

pub data Change : Type 0 where
  -- a persistent object is made
  Makes : (value : Value) → Change
  -- a cell of an object is set, or taken away where there is no value
  Sets : (number : ℕ) (cell : Cell) (value : Option Holder) → Change

-- the changes that a method makes, the first one first, and then its answer
pub record Deed : Type 0 where
  pub changes : List Change
  pub answer : Holder

-- ---- what a store makes of changes

-- the store after a change, or none where that is full
abbrev pub changed_by : Change → StoreValue → Option StoreValue
changed_by (Makes value) store = option_map (λ made. made.1) (created_in value false store)
changed_by (Sets number cell value) store = after_write number cell value store

abbrev pub after_change : Option StoreValue → (StoreValue → Bool × StoreValue) → StoreValue → Bool × StoreValue
after_change (Some store) rest old = rest store
after_change None rest old = (false, old)

-- whether all changes were made, and the store after them, or before the first that is full
abbrev pub changed : List Change → StoreValue → Bool × StoreValue
changed [] store = (true, store)
changed (change ∷ changes) store = after_change (changed_by change store) (changed changes) store

-- the first some of the changes were made
abbrev pub AreSomeMade : List Change → (old new : StoreValue) → Type 0
AreSomeMade changes old new = (made : ℕ) × (changed (take made changes) old ≡ (true, new))

-- a deed was carried out: the answer was given after all its changes; or the store is as it was before the first change that is full; or
-- memory was wanting after some of them
abbrev pub HasCarriedOut : Deed → (old : StoreValue) → Result Holder OpRefusal → (new : StoreValue) → Type 0
HasCarriedOut deed old (Ok value) new = (value ≡ deed.answer) × (changed deed.changes old ≡ (true, new))
HasCarriedOut deed old (Err refusals.Full) new = changed deed.changes old ≡ (false, new)
HasCarriedOut deed old (Err refusals.NoMemory) new = AreSomeMade deed.changes old new
HasCarriedOut deed old (Err (refusals.Fault fault)) new = ⊥

-- a fault was answered, and nothing has changed; memory may have been wanting before
abbrev pub HasRefused : Fault → (old : StoreValue) → Result Holder OpRefusal → (new : StoreValue) → Type 0
HasRefused fault old (Err (refusals.Fault told)) new = (told ≡ fault) × (new ≡ old)
HasRefused fault old (Err refusals.NoMemory) new = new ≡ old
HasRefused fault old (Err refusals.Full) new = ⊥
HasRefused fault old (Ok value) new = ⊥

-- what a method comes to was carried out, and after an answer these turns are left
abbrev pub HasDone : Result (Deed × ℕ) Fault → (old : StoreValue) → Result Holder OpRefusal → (new : StoreValue) → (turns : ℕ) → Type 0
HasDone (Ok done) old result new turns = HasCarriedOut done.0 old result new × OnOk result (turns ≡ done.1)
HasDone (Err fault) old result new turns = HasRefused fault old result new
