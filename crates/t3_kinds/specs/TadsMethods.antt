-- The methods of tads-objects (the chapter on tads-objects, in this project's profile). Those that create objects by the arguments of a
-- constructor aren't here: the machine carries them out.
use Rattle.std.specs.Prelude.{ℕ, Bool, not, List, [], ◌∷◌, Option, Some, None, is_some, Result, Ok, Err, if◌then◌else◌}
use Rattle.std.specs.FinMap.{get}
use Rattle.std.specs.List.{list_any}
use Rattle.t3_holder.specs.declared.holder.Holder.{Holder}
use Rattle.t3_holder.specs.declared.holder.Holder.TheVariants as holders
use Rattle.t3_store.specs.Value.{Value, Tads}
use Rattle.t3_store.specs.Store.{StoreValue, value_at}
use Rattle.t3_store.specs.Whole.{supers_of_live}
use Rattle.t3_ops.specs.declared.fault.Fault.{Fault}
use Rattle.t3_ops.specs.declared.fault.Fault.TheVariants.{Stale, TransientSuper}
use Rattle.t3_ops.specs.Values.{kind_fault}
use Rattle.t3_kinds.specs.Changes.{Deed}
use Rattle.t3_kinds.specs.Deeds.{answers_new}

abbrev pub is_no_tads : StoreValue → ℕ → Bool
is_no_tads store number = not (is_some (supers_of_live store number))

abbrev pub is_transient : StoreValue → ℕ → Bool
is_transient store number = is_some (get store.transient number)

-- a persistent object may have only persistent tads-objects as its superclasses
abbrev pub supers_fault : StoreValue → List ℕ → Option Fault
supers_fault store supers =
    if list_any (is_no_tads store) supers then Some Stale
    else if list_any (is_transient store) supers then Some TransientSuper else None

abbrev pub unless_fault : Option Fault → Value → Result Value Fault
unless_fault None value = Ok value
unless_fault (Some fault) value = Err fault

-- the same superclasses, class flag and properties; the other fault is that of what is no tads-object
abbrev pub clone_value : StoreValue → Fault → Option Value → Result Value Fault
clone_value store fault (Some (Tads supers class props)) = unless_fault (supers_fault store supers) (Tads supers class props)
clone_value store fault _ = Err fault

abbrev pub object_at : StoreValue → Holder → Option Value
object_at store (holders.Obj number) = value_at store number
object_at store _ = None

-- createClone: a persistent object like self
abbrev pub create_clone_of : StoreValue → Holder → Result Deed Fault
create_clone_of store this = answers_new (clone_value store (kind_fault store (this ∷ [])) (object_at store this)) store
