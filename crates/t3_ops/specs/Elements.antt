-- The elements of a vector, writes to one object, one after the other, and those by which an element of a vector is set.
use Rattle.std.specs.Prelude.{◌≡◌, ◌<◌, ℕ, zero, suc, ◌+◌, ◌-◌, Bool, true, false, List, [], ◌∷◌, ◌++◌, length, take, Option, Some, None}
use Rattle.std.specs.Option.{option_and_then}
use Rattle.t3_holder.specs.declared.holder.Holder.{Holder}
use Rattle.t3_holder.specs.declared.holder.Holder.TheVariants.{Nil}
use Rattle.t3_undo.specs.declared.cell.Cell.{Cell}
use Rattle.t3_undo.specs.declared.cell.Cell.TheVariants.{Elem}
use Rattle.t3_store.specs.Value.{Value, Tads, Text, Items, Vector, Table, length_of}
use Rattle.t3_store.specs.Store.{StoreValue, written}

-- the elements of a vector
abbrev pub vector_items : Option Value → List Holder
vector_items (Some (Vector items)) = items
vector_items (Some (Tads supers class props)) = []
vector_items (Some (Text bytes)) = []
vector_items (Some (Items items)) = []
vector_items (Some (Table pairs default)) = []
vector_items None = []

-- a vector with that count of elements
abbrev pub IsVectorOf : Option Value → ℕ → Type 0
IsVectorOf value count = option_and_then length_of value ≡ Some count

-- a write, and then the others if there was room for it: whether there was room for all, and the store that they leave
abbrev pub write_and_then : Option StoreValue → StoreValue → (StoreValue → Bool × StoreValue) → Bool × StoreValue
write_and_then None store others = (false, store)
write_and_then (Some next) store others = others next

-- cells of an object are set, up to the first for which there is no room
unfoldable pub after_writes : (object : ℕ) → List (Cell × Holder) → StoreValue → Bool × StoreValue
after_writes object [] store = (true, store)
after_writes object (write ∷ writes) store =
    write_and_then (written object write.0 write.1 store) store (λ next. after_writes object writes next)

-- the first of those cells are set, and nothing else is done: not all of them, and there was room for each
abbrev pub IsFrontWritten : (object : ℕ) → List (Cell × Holder) → (old new : StoreValue) → Type 0
IsFrontWritten object writes old new = (count : ℕ) × (count < length writes) × (after_writes object (take count writes) old ≡ (true, new))

-- elements are set to nil, of that count, from a position on, which counts from 1
abbrev pub nil_writes : ℕ → ℕ → List (Cell × Holder)
nil_writes zero first = []
nil_writes (suc count) first = (Elem first, Nil) ∷ nil_writes count (first + 1)

-- an element of a vector of that length is set, whose index counts from 1: those that are missing below it are written as nil first, in
-- rising order
unfoldable pub element_writes : (length index : ℕ) → Holder → List (Cell × Holder)
element_writes length index value = nil_writes (index - (length + 1)) (length + 1) ++ (Elem index, value) ∷ []
