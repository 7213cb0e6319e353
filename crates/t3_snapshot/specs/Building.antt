-- What a builder of a state has: objects in turn, or the knowledge that they make no complete state.
use Rattle.std.specs.Prelude.{◌≡◌, ◌<◌, ◌≤◌, ◌^◌, ◌⊎◌, ◌++◌, ◌∷◌, ℕ, Bool, true, false, List, [], Option, Some, None}
use Rattle.std.specs.List.{flat_map}
use Rattle.std.specs.FinMap.{from_entries, len}
use Rattle.t3_tadsobj.specs.declared.props.PropValue.{PropValue}
use Rattle.t3_store.specs.Value.{Value, Objects, Table, new_value, units_in}
use Rattle.t3_store.specs.declared.new_object.NewObject.{NewObject}
use Rattle.t3_store.specs.declared.new_object.NewObject.TheVariants as new
use Rattle.t3_snapshot.specs.Layout.{AreInTurn}
use Rattle.t3_snapshot.specs.State.{named_in, named_as_keys, IsComplete}
use Rattle.t3_snapshot.specs.Refusal.{last_number}
use Rattle.t3_snapshot.specs.declared.saved_object.SavedObject.{SavedObject}
use Rattle.t3_snapshot.specs.declared.saved_object.SavedObject.TheVariants as saved
use Rattle.t3_snapshot.specs.declared.builder.StateBuilder.{StateBuilder}

-- the value of an object
abbrev pub saved_value : SavedObject → Value
saved_value (saved.Made what) = new_value what
saved_value (saved.Table pairs default) = Table pairs.items default

-- properties by rising number, from above this one on
abbrev pub AreRising : ℕ → List PropValue → Type 0
AreRising last [] = Unit {0}
AreRising last (prop ∷ props) = (last < prop.number) × AreRising prop.number props

-- the properties of a tads-object that is to be made stand by rising number, from 1 on
abbrev pub MakesRisingProps : NewObject → Type 0
MakesRisingProps (new.Tads supers class props) = AreRising 0 props
MakesRisingProps (new.Text bytes) = Unit {0}
MakesRisingProps (new.List items) = Unit {0}
MakesRisingProps (new.Vector items) = Unit {0}
MakesRisingProps new.Table = Unit {0}

-- the same of an object
abbrev pub HasRisingProps : SavedObject → Type 0
HasRisingProps (saved.Made what) = MakesRisingProps what
HasRisingProps (saved.Table pairs default) = Unit {0}

-- more objects or more units than there may be
abbrev pub IsOver : Objects → Type 0
IsOver state = (1048576 < len state) ⊎ (4194304 < units_in state)

-- objects that make no complete state with this next number, whatever follows
abbrev pub IsLost : ℕ → Objects → Type 0
IsLost next state = (2 ^ 31 < next) ⊎ IsOver state

-- the state so far, or that it is lost
abbrev pub IsKept : ℕ → Objects → List (ℕ × Value) → Bool → Type 0
IsKept next state objects true = (state ≡ from_entries objects) × (next ≤ 2 ^ 31)
IsKept next state objects false = IsLost next (from_entries objects)

-- the builder has these objects, which stand in turn
pub record HasObjects (next : ℕ) (objects : List (ℕ × Value)) (builder : StateBuilder) : Type 0 where
  pub next_is : builder.next ≡ next
  pub turn : AreInTurn 0 next objects
  pub so_far : IsKept next builder.state objects builder.is_kept
  pub holders : builder.named.items ≡ flat_map (λ object. named_in object.1) objects
  pub keys : builder.named_as_keys.items ≡ flat_map (λ object. named_as_keys object.1) objects

-- an object of this number comes after the objects
pub record ComesNext (next : ℕ) (objects : List (ℕ × Value)) (number : ℕ) : Type 0 where
  pub above : last_number 0 objects < number
  pub below : number < next

-- an object of this number comes after those that the builder has
pub record CanAdd (builder : StateBuilder) (number : ℕ) : Type 0 where
  pub next : ℕ
  pub objects : List (ℕ × Value)
  pub has : HasObjects next objects builder
  pub comes : ComesNext next objects number

-- whichever objects the builder had, it has one more
abbrev pub AddsObject : StateBuilder → StateBuilder → ℕ → Value → Type 0
AddsObject old new number value =
    (next : ℕ) (objects : List (ℕ × Value)) → HasObjects next objects old → ComesNext next objects number
    → HasObjects next (objects ++ (number, value) ∷ []) new

-- the state that the objects make, or that they make no complete one
abbrev pub IsBuilt : ℕ → List (ℕ × Value) → Option Objects → Type 0
IsBuilt next objects None = ¬ IsComplete (from_entries objects) next
IsBuilt next objects (Some state) = (state ≡ from_entries objects) × IsComplete (from_entries objects) next

-- whichever objects the builder had, this was built of them
abbrev pub Builds : StateBuilder → Option Objects → Type 0
Builds builder built = (next : ℕ) (objects : List (ℕ × Value)) → HasObjects next objects builder → IsBuilt next objects built
