-- What an operation comes to that makes one object at most, and what a store makes of that.
use Rattle.std.specs.Prelude.{◌≡◌, ℕ, ℤ, pos, negsuc, false, nat_lt, List, length, Option, Some, None, option_map, Result, Ok, Err, if◌then◌else◌}
use Rattle.t3_holder.specs.declared.holder.Holder.{Holder}
use Rattle.t3_holder.specs.declared.holder.Holder.TheVariants.{Obj}
use Rattle.t3_store.specs.Value.{Value, Text, Items, Vector, new_value, supers_of, HasFittingLength}
use Rattle.t3_store.specs.Store.{StoreValue, created_in}
use Rattle.t3_store.specs.declared.new_object.NewObject.{NewObject}
use Rattle.t3_ops.specs.declared.fault.Fault.{Fault}
use Rattle.t3_ops.specs.declared.fault.Fault.TheVariants.{Kind, IndexRange, TextLong, ListLong, BadConstant}
use Rattle.t3_ops.specs.declared.outcome.OpRefusal.{OpRefusal}
use Rattle.t3_ops.specs.declared.outcome.OpRefusal.TheVariants as refusals

-- a value that is there, or the value of an object that is to be made
pub data Made : Type 0 where
  AsIs : (value : Holder) → Made
  New : (object : Value) → Made

-- ---- what an operation needs, and the fault where it isn't there

-- goes on with a value; where there is none, that is the fault
abbrev pub unless_none : {A B : Type 0} → Fault → Option A → (A → Result B Fault) → Result B Fault
unless_none fault None result = Err fault
unless_none fault (Some value) result = result value

-- goes on with the integer that a value is; else `Kind`
abbrev pub when_integer : {B : Type 0} → Option ℤ → (ℤ → Result B Fault) → Result B Fault
when_integer number result = unless_none Kind number result

-- goes on with what was read of a constant; else `BadConstant`
abbrev pub when_read : {A B : Type 0} → Option A → (A → Result B Fault) → Result B Fault
when_read read result = unless_none BadConstant read result

-- goes on with a number that is in its range; else `IndexRange`
abbrev pub when_in_range : {A B : Type 0} → Option A → (A → Result B Fault) → Result B Fault
when_in_range number result = unless_none IndexRange number result

-- a count of bytes, elements or copies: from 0 to 65,535
abbrev pub count_of : ℤ → Option ℕ
count_of (pos n) = if nat_lt 65535 n then None else Some n
count_of (negsuc n) = None

-- ---- new objects

-- a value with that count of bytes or elements, of which there are at most 65,535
abbrev pub fitting : Fault → ℕ → Value → Result Value Fault
fitting fault count value = if nat_lt 65535 count then Err fault else Ok value

abbrev pub fitting_text_of : List ℕ → Result Value Fault
fitting_text_of bytes = fitting TextLong (length bytes) (Text bytes)

abbrev pub fitting_list_of : List Holder → Result Value Fault
fitting_list_of items = fitting ListLong (length items) (Items items)

abbrev pub fitting_vector_of : List Holder → Result Value Fault
fitting_vector_of items = fitting ListLong (length items) (Vector items)

-- a new object of a value
abbrev pub new_object : Result Value Fault → Result Made Fault
new_object (Ok value) = Ok (New value)
new_object (Err fault) = Err fault

-- the value of what is to be made
abbrev pub value_of_new : Result NewObject Fault → Result Value Fault
value_of_new (Ok what) = Ok (new_value what)
value_of_new (Err fault) = Err fault

-- it meets what a store asks of a new object, whatever else the store has: it has no superclasses, and a length within the limit
abbrev pub CanBeCreated : NewObject → Type 0
CanBeCreated what = (supers_of (new_value what) ≡ None) × HasFittingLength (new_value what)

-- ---- carrying out

-- the value, with the store as it is then; a new object is persistent. `None` where the store has no room for it
abbrev pub made_in : Made → StoreValue → Option (Holder × StoreValue)
made_in (AsIs value) store = Some (value, store)
made_in (New object) store = option_map (λ made. (Obj made.0, made.1)) (created_in object false store)

abbrev pub made_or_full : Option (Holder × StoreValue) → Result (Holder × StoreValue) OpRefusal
made_or_full None = Err refusals.Full
made_or_full (Some made) = Ok made

-- what an operation answers, with the store that it leaves
abbrev pub carry_out_of : Result Made Fault → StoreValue → Result (Holder × StoreValue) OpRefusal
carry_out_of (Err fault) store = Err (refusals.Fault fault)
carry_out_of (Ok made) store = made_or_full (made_in made store)

-- an operation was carried out: a refusal has changed nothing, and memory may always be wanting
abbrev pub IsCarriedOut : Result Made Fault → StoreValue → Result Holder OpRefusal → StoreValue → Type 0
IsCarriedOut wanted old (Ok value) new = carry_out_of wanted old ≡ Ok (value, new)
IsCarriedOut wanted old (Err refusals.Full) new = (carry_out_of wanted old ≡ Err refusals.Full) × (new ≡ old)
IsCarriedOut wanted old (Err (refusals.Fault fault)) new = (carry_out_of wanted old ≡ Err (refusals.Fault fault)) × (new ≡ old)
IsCarriedOut wanted old (Err refusals.NoMemory) new = new ≡ old
