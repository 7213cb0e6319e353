-- How far the objects of a state were read.
use Rattle.std.specs.Prelude.{◌≡◌, ◌<◌, ◌^◌, ◌++◌, ℕ, Bool, true, false, List, IsTrue, IsSome, length, Result, Ok, Err, Option, Some, None}
use Rattle.std.specs.Bool.{MatchBool}
use Rattle.std.specs.Borrow.{Bor}
use Rattle.std.specs.List.{flat_map, AllByRecursion}
use Rattle.std.specs.FinMap.{from_entries, get, insert}
use Rattle.t3_store.specs.Value.{Value, Objects}
use Rattle.t3_store.specs.declared.kind.Kind.{Kind}
use Rattle.t3_store.specs.declared.kind.Kind.TheVariants as kinds
use Rattle.t3_snapshot.specs.Layout.{object_text, AreInTurn}
use Rattle.t3_snapshot.specs.State.{Version, named_in, named_as_keys, can_be_key, IsComplete, body_text}
use Rattle.t3_snapshot.specs.Refusal.{HasObjectInTurn, last_number}
use Rattle.t3_snapshot.specs.Building.{IsOver, HasObjects, AddsObject, IsBuilt}
use Rattle.t3_snapshot.specs.Inner.Reading.{object_at}
use Rattle.t3_snapshot.specs.declared.builder.StateBuilder.{StateBuilder}
use Rattle.t3_snapshot.specs.declared.body.BodyRefusal.{BodyRefusal}
use Rattle.t3_snapshot.specs.declared.body.BodyRefusal.TheVariants as bodies
use Rattle.t3_snapshot.specs.declared.refusal.SnapshotRefusal.{SnapshotRefusal}
use Rattle.t3_snapshot.specs.declared.refusal.SnapshotRefusal.TheVariants as refusals
use Rattle.t3_snapshot.specs.declared.read_error.ReadError.{ReadError}
use Rattle.t3_snapshot.specs.declared.read_error.ReadError.TheVariants as errors

-- an object more, or too many
abbrev pub AddsTo : Bool → Bool → Objects → Objects → ℕ → Value → Type 0
AddsTo false after old new number value = after ≡ false
AddsTo true after old new number value = MatchBool after (new ≡ insert old number value) (IsOver (insert old number value))

-- an object more, and what it names
pub record Adds (old new : StateBuilder) (number : ℕ) (value : Value) : Type 0 where
  pub next : new.next ≡ old.next
  pub adds : AddsTo old.is_kept new.is_kept old.state new.state number value
  pub holders : new.named.items ≡ old.named.items ++ named_in value
  pub keys : new.named_as_keys.items ≡ old.named_as_keys.items ++ named_as_keys value

-- the builder has objects, of which this is the last number
pub record HasLast (next last : ℕ) (builder : StateBuilder) : Type 0 where
  pub objects : List (ℕ × Value)
  pub has : HasObjects next objects builder
  pub last_is : last ≡ last_number 0 objects

-- so many objects were read of the bytes, and the rest is left
pub record HasRead (next : ℕ) (bytes : List ℕ) (builder : StateBuilder) (last items : ℕ) (rest : List ℕ) : Type 0 where
  pub objects : List (ℕ × Value)
  pub is : bytes ≡ flat_map object_text objects ++ rest
  pub count : length objects ≡ items
  pub last_is : last ≡ last_number 0 objects
  pub has : HasObjects next objects builder

-- an object was read and added, or none follows in turn
abbrev pub TakesOne : ℕ → ℕ → List ℕ → StateBuilder → StateBuilder → Result (ℕ × Bor (List ℕ)) ReadError → Type 0
TakesOne last next bytes old new (Ok (number, rest)) =
    (value : Value) × (object_at last next bytes ≡ Some ((number, value), rest.now)) × AddsObject old new number value
TakesOne last next bytes old new (Err errors.Misspelled) = object_at last next bytes ≡ None
TakesOne last next bytes old new (Err errors.NoMemory) = Unit {0}

-- so many objects break, or memory ran out
abbrev pub FailsAt : (ℕ → Type 0) → BodyRefusal → Type 0
FailsAt P (bodies.Malformed items) = P items
FailsAt P bodies.NoMemory = Unit {0}

-- after so many of the bytes' objects none follows in turn, but one is due
pub record StopsAt (next due : ℕ) (bytes : List ℕ) (items : ℕ) : Type 0 where
  pub objects : List (ℕ × Value)
  pub rest : List ℕ
  pub is : bytes ≡ flat_map object_text objects ++ rest
  pub turn : AreInTurn 0 next objects
  pub count : length objects ≡ items
  pub less : items < due
  pub none : ¬ HasObjectInTurn (last_number 0 objects) next rest

-- the body is that of a state
pub record IsBody (version : Version) (body : List ℕ) (state : Objects) (next : ℕ) : Type 0 where
  pub objects : List (ℕ × Value)
  pub next_fits : next < 2 ^ 32
  pub few : length objects < 2 ^ 32
  pub is : body ≡ body_text version next objects
  pub turn : AreInTurn 0 next objects
  pub state_is : state ≡ from_entries objects
  pub complete : IsComplete (from_entries objects) next

-- whichever objects the builder has, this tells whether they are a complete state
abbrev pub TellsComplete : StateBuilder → Bool → Type 0
TellsComplete builder complete =
    (next : ℕ) (objects : List (ℕ × Value)) → HasObjects next objects builder
    → MatchBool complete (IsBuilt next objects (Some builder.state)) (IsBuilt next objects None)

-- whether an object of the kind can be a key
abbrev pub is_key_kind : Option Kind → Bool
is_key_kind None = false
is_key_kind (Some kinds.Tads) = true
is_key_kind (Some kinds.Text) = false
is_key_kind (Some kinds.List) = false
is_key_kind (Some kinds.Vector) = true
is_key_kind (Some kinds.Table) = true

-- all that is named is there
pub record NamesObjects (builder : StateBuilder) : Type 0 where
  pub holders : AllByRecursion (λ number. IsSome (get builder.state number)) builder.named.items
  pub keys : AllByRecursion (λ number. IsTrue (can_be_key (get builder.state number))) builder.named_as_keys.items

-- the refusal for which a body is refused
abbrev pub refusal_of_body : BodyRefusal → SnapshotRefusal
refusal_of_body (bodies.Malformed items) = refusals.Malformed items
refusal_of_body bodies.NoMemory = refusals.NoMemory
