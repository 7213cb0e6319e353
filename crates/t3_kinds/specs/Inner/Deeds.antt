-- What the code's deeds are, and what a store needs to carry them out, however much room it has.
use Rattle.std.specs.Prelude.{◌≡◌, ◌<◌, ◌^◌, ℕ, List, [], ◌∷◌, map, length, IfSome, IsTrue, Result, Ok, Err}
use Rattle.t3_holder.specs.declared.no_memory.NoMemory.{NoMemory}
use Rattle.t3_store.specs.Value.{new_value, can_be_written, HasFittingLength}
use Rattle.t3_store.specs.Store.{StoreValue, value_at}
use Rattle.t3_store.specs.Whole.{HasSupersIn, supers_in}
use Rattle.t3_ops.specs.declared.fault.Fault.{Fault}
use Rattle.t3_kinds.specs.Changes.{Change, Makes, Sets, Deed, changed_by}
use Rattle.t3_kinds.specs.declared.deed.Change as code
use Rattle.t3_kinds.specs.declared.deed.Change.TheVariants as changes
use Rattle.t3_kinds.specs.declared.deed.Deed as code_deed

abbrev pub change_of : code.Change → Change
change_of (changes.Make what) = Makes (new_value what)
change_of (changes.Write number cell value) = Sets number cell value

abbrev pub changes_of : List code.Change → List Change
changes_of changes = map change_of changes

abbrev pub deed_of : code_deed.Deed → Deed
deed_of deed = record { changes = changes_of deed.changes.items; answer = deed.answer }

abbrev pub came_of : Result code_deed.Deed Fault → Result Deed Fault
came_of (Ok deed) = Ok (deed_of deed)
came_of (Err fault) = Err fault

-- a store makes the change, if it has room for it
abbrev pub CanBeDone : Change → StoreValue → Type 0
CanBeDone (Makes value) store = HasSupersIn (supers_in store.persistent) value × HasFittingLength value
CanBeDone (Sets number cell value) store = IsTrue (can_be_written value (value_at store number) cell)

-- and so each of these, after those before it
abbrev pub CanAllBeDone : List Change → StoreValue → Type 0
CanAllBeDone [] store = Unit {0}
CanAllBeDone (change ∷ changes) store = CanBeDone change store × IfSome (changed_by change store) (CanAllBeDone changes)

-- a deed that a store can carry out, as far as it has room, and that isn't long
abbrev pub CanBeCarriedOut : Result code_deed.Deed Fault → StoreValue → Type 0
CanBeCarriedOut (Ok deed) store = CanAllBeDone (changes_of deed.changes.items) store × (length deed.changes.items < 2 ^ 17)
CanBeCarriedOut (Err fault) store = Unit {0}

-- a method comes to this; memory may always be wanting
abbrev pub Comes : Result Deed Fault → StoreValue → Result (Result code_deed.Deed Fault) NoMemory → Type 0
Comes wanted store (Ok came) = (came_of came ≡ wanted) × CanBeCarriedOut came store
Comes wanted store (Err _) = Unit {0}

-- and these turns are left, if it isn't a fault
abbrev pub ComesWith : Result (Deed × ℕ) Fault → StoreValue → Result (Result code_deed.Deed Fault) NoMemory → ℕ → Type 0
ComesWith wanted store (Ok (Ok deed)) turns = (wanted ≡ Ok (deed_of deed, turns)) × CanBeCarriedOut (Ok deed) store
ComesWith wanted store (Ok (Err fault)) turns = wanted ≡ Err fault
ComesWith wanted store (Err _) turns = Unit {0}
