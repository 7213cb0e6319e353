-- A saved state: its bytes, which states are sound, and what is left of one without what refers to what isn't there.
use Rattle.std.specs.Prelude.{◌≡◌, ◌≤◌, ◌^◌, ℕ, Bool, true, false, List, [], ◌∷◌, ◌++◌, Option, None, Some, IsSome, IsTrue, is_some, length, map, filter, codes, if◌then◌else◌}
use Rattle.std.specs.List.{flat_map, AllByRecursion}
use Rattle.std.specs.FinMap.{get, len, entries, from_entries}
use Rattle.sha2.specs.Sha256.{sha256}
use Rattle.t3_holder.specs.NumberText.{little_endian}
use Rattle.t3_holder.specs.declared.holder.Holder.{Holder}
use Rattle.t3_holder.specs.declared.holder.Holder.TheVariants as holders
use Rattle.t3_undo.specs.declared.key.Key.{Key}
use Rattle.t3_undo.specs.declared.key.Key.TheVariants as keys
use Rattle.t3_tables.specs.declared.pair.Pair.{Pair}
use Rattle.t3_store.specs.Value.{Value, Objects, Tads, Text, Items, Vector, Table, units_in}
use Rattle.t3_tadsobj.specs.Props.{PropMap}
use Rattle.t3_store.specs.Whole.{IsWhole, supers_in}
use Rattle.t3_snapshot.specs.Layout.{object_text, AreInTurn}

-- the most bytes that a saved state has
abbrev pub state_limit : ℕ
state_limit = 268435456

-- the 8 bytes with which a saved state begins
unfoldable pub signature : List ℕ
signature = codes "t3state" ++ 10 ∷ []

-- the versions of the layout
pub data Version : Type 0 where
  One : Version

-- the number by which a state says its version
abbrev pub number_of : Version → ℕ
number_of One = 1

-- the 42 bytes before what a state says: the signature, the version, and of which image it is
unfoldable pub head_text : Version → List ℕ → List ℕ
head_text version fingerprint = signature ++ (little_endian 2 (number_of version) ++ fingerprint)

-- how many bytes stand before the objects
abbrev pub counts_size : Version → ℕ
counts_size One = 8

-- the next number and how many objects there are, before the bytes of the objects
abbrev pub with_counts : Version → ℕ → ℕ → List ℕ → List ℕ
with_counts One next count bytes = little_endian 4 next ++ (little_endian 4 count ++ bytes)

-- what a state says: the counts, and the objects by rising number
unfoldable pub body_text : Version → ℕ → List (ℕ × Value) → List ℕ
body_text version next objects = with_counts version next (length objects) (flat_map object_text objects)

-- bytes, and their digest after them
unfoldable pub with_digest : List ℕ → List ℕ
with_digest bytes = bytes ++ sha256 bytes

-- the bytes of a state in a version
unfoldable pub saved : Version → Objects → List ℕ → ℕ → List ℕ
saved version state fingerprint next = with_digest (head_text version fingerprint ++ body_text version next (entries state))

-- ---- which states are sound

-- the object that a holder names, if it is a reference
abbrev pub named_by : Holder → List ℕ
named_by (holders.Obj number) = number ∷ []
named_by _ = []

-- the object that a key names, if it is a reference
abbrev pub named_by_key : Key → List ℕ
named_by_key (keys.Obj number) = number ∷ []
named_by_key _ = []

-- the objects that the holders of a value name
unfoldable pub named_in : Value → List ℕ
named_in (Tads supers class props) = flat_map (λ prop. named_by prop.1) (entries props)
named_in (Text bytes) = []
named_in (Items items) = flat_map named_by items
named_in (Vector items) = flat_map named_by items
named_in (Table pairs default) = named_by default ++ flat_map (λ pair. named_by pair.value) pairs

-- the objects that the keys of a table name
unfoldable pub named_as_keys : Value → List ℕ
named_as_keys (Tads supers class props) = []
named_as_keys (Text bytes) = []
named_as_keys (Items items) = []
named_as_keys (Vector items) = []
named_as_keys (Table pairs default) = flat_map (λ pair. named_by_key pair.key) pairs

-- a tads-object, a vector or a table can be a key by its number
abbrev pub can_be_key : Option Value → Bool
can_be_key None = false
can_be_key (Some (Tads supers class props)) = true
can_be_key (Some (Text bytes)) = false
can_be_key (Some (Items items)) = false
can_be_key (Some (Vector items)) = true
can_be_key (Some (Table pairs default)) = true

-- what holds of the objects as a whole: the next number is no greater than numbers of persistent objects may be, what is named is
-- there, and as a key only what can be one, superclasses are tads-objects and none comes back to itself, and the sums are within
-- the limits
pub record IsComplete (state : Objects) (top : ℕ) : Type 0 where
  pub next : top ≤ 2 ^ 31
  pub references : AllByRecursion (λ number. IsSome (get state number)) (flat_map (λ object. named_in object.1) (entries state))
  pub keys :
      AllByRecursion (λ number. IsTrue (can_be_key (get state number))) (flat_map (λ object. named_as_keys object.1) (entries state))
  pub whole : IsWhole (supers_in state)
  pub objects : len state ≤ 1048576
  pub units : units_in state ≤ 4194304

-- a state that has a text with this next number
pub record IsSoundState (state : Objects) (next : ℕ) : Type 0 where
  pub turn : AreInTurn 0 next (entries state)
  pub complete : IsComplete state next

-- the bytes spell the state, in one of the versions
pub record Spells (state : Objects) (next : ℕ) (fingerprint bytes : List ℕ) : Type 0 where
  pub version : Version
  pub sound : IsSoundState state next
  pub size : length bytes ≤ state_limit
  pub is : bytes ≡ saved version state fingerprint next

-- ---- what a state is without what refers to what isn't there

-- nil for a reference that names no object
abbrev pub trimmed_holder : Objects → Holder → Holder
trimmed_holder state (holders.Obj number) = if is_some (get state number) then holders.Obj number else holders.Nil
trimmed_holder state holder = holder

-- whether a key isn't such a reference
abbrev pub keeps_key : Objects → Key → Bool
keeps_key state (keys.Obj number) = is_some (get state number)
keeps_key state _ = true

-- an entry, its value without such a reference
abbrev pub trimmed_entry : Objects → Pair → Pair
trimmed_entry state pair = record { key = pair.key; value = trimmed_holder state pair.value }

-- the entries of a table without those under such a key
unfoldable pub trimmed_entries : Objects → List Pair → List Pair
trimmed_entries state pairs = map (trimmed_entry state) (filter (λ pair. keeps_key state pair.key) pairs)

abbrev pub trimmed_prop : Objects → ℕ × Holder → ℕ × Holder
trimmed_prop state prop = (prop.0, trimmed_holder state prop.1)

abbrev pub trimmed_props : Objects → PropMap → PropMap
trimmed_props state props = from_entries (map (trimmed_prop state) (entries props))

abbrev pub trimmed_value : Objects → Value → Value
trimmed_value state (Tads supers class props) = Tads supers class (trimmed_props state props)
trimmed_value state (Text bytes) = Text bytes
trimmed_value state (Items items) = Items (map (trimmed_holder state) items)
trimmed_value state (Vector items) = Vector (map (trimmed_holder state) items)
trimmed_value state (Table pairs default) = Table (trimmed_entries state pairs) (trimmed_holder state default)

-- the state without what refers to what isn't there: nil for each reference that names no object of the state, and no entry
-- under such a key
unfoldable pub trimmed : Objects → Objects
trimmed state = from_entries (map (λ e. (e.0, trimmed_value state e.1)) (entries state))
