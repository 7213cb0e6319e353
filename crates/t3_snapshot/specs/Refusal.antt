-- By which rule bytes are refused that spell no state.
use Rattle.std.specs.Prelude.{◌≡◌, ◌≢◌, ◌<◌, ◌^◌, ◌⊎◌, ◌-◌, ℕ, List, [], ◌∷◌, ◌++◌, length, take, drop, Result, Ok, Err}
use Rattle.std.specs.List.{flat_map}
use Rattle.std.specs.FinMap.{from_entries}
use Rattle.sha2.specs.Sha256.{sha256}
use Rattle.t3_holder.specs.NumberText.{little_endian}
use Rattle.t3_store.specs.Value.{Value, Objects}
use Rattle.t3_snapshot.specs.Layout.{object_text, IsSpellable, AreInTurn}
use Rattle.t3_snapshot.specs.State.{state_limit, signature, Version, number_of, counts_size, with_counts, IsComplete, Spells}
use Rattle.t3_snapshot.specs.declared.refusal.SnapshotRefusal.{SnapshotRefusal}
use Rattle.t3_snapshot.specs.declared.refusal.SnapshotRefusal.TheVariants as refusals

-- the bytes but the last 32, and the last 32
abbrev pub digested : List ℕ → List ℕ
digested bytes = take (length bytes - 32) bytes

abbrev pub digest_in : List ℕ → List ℕ
digest_in bytes = drop (length bytes - 32) bytes

-- what lies between the head and the digest
abbrev pub body_in : List ℕ → List ℕ
body_in bytes = drop 42 (digested bytes)

-- the last number of objects by rising number, or else this one
abbrev pub last_number : ℕ → List (ℕ × Value) → ℕ
last_number last [] = last
last_number last (object ∷ objects) = last_number object.0 objects

-- a further object follows in turn
pub record HasObjectInTurn (last next : ℕ) (rest : List ℕ) : Type 0 where
  pub number : ℕ
  pub value : Value
  pub trailing : List ℕ
  pub above : last < number
  pub below : number < next
  pub spellable : IsSpellable value
  pub is : rest ≡ object_text (number, value) ++ trailing

-- after so many objects in turn a further one is due and doesn't follow; or none is due, and bytes are left, or the objects
-- are no complete state
pub record BreaksBody (version : Version) (body : List ℕ) (items : ℕ) : Type 0 where
  pub next : ℕ
  pub due : ℕ
  pub objects : List (ℕ × Value)
  pub rest : List ℕ
  pub next_fits : next < 2 ^ 32
  pub due_fits : due < 2 ^ 32
  pub is : body ≡ with_counts version next due (flat_map object_text objects ++ rest)
  pub turn : AreInTurn 0 next objects
  pub count : length objects ≡ items
  pub breaks : ((items < due) × ¬ HasObjectInTurn (last_number 0 objects) next rest)
      ⊎ ((items ≡ due) × ((rest ≢ []) ⊎ ¬ IsComplete (from_entries objects) next))

-- the counts aren't there, or what comes after them breaks
abbrev pub IsMalformed : Version → List ℕ → ℕ → Type 0
IsMalformed version body items = ((length body < counts_size version) × (items ≡ 0)) ⊎ BreaksBody version body items

-- the bytes say the version
abbrev pub SaysVersion : Version → List ℕ → Type 0
SaysVersion version bytes = take 2 (drop 8 bytes) ≡ little_endian 2 (number_of version)

-- the place of a rule in the order in which they are tried
abbrev pub rank_of : SnapshotRefusal → ℕ
rank_of refusals.TooLong = 1
rank_of refusals.Signature = 2
rank_of refusals.Version = 3
rank_of refusals.OtherImage = 4
rank_of refusals.Digest = 5
rank_of (refusals.Malformed items) = 6
rank_of refusals.NoMemory = 0

-- the bytes break a rule
abbrev pub Breaks : List ℕ → List ℕ → SnapshotRefusal → Type 0
Breaks fingerprint bytes refusals.TooLong = state_limit < length bytes
Breaks fingerprint bytes refusals.Signature = take 8 bytes ≢ signature
Breaks fingerprint bytes refusals.Version = (version : Version) → ¬ SaysVersion version bytes
Breaks fingerprint bytes refusals.OtherImage = take 32 (drop 10 bytes) ≢ fingerprint
Breaks fingerprint bytes refusals.Digest = (length bytes < 74) ⊎ (digest_in bytes ≢ sha256 (digested bytes))
Breaks fingerprint bytes (refusals.Malformed items) =
    (version : Version) × SaysVersion version bytes × IsMalformed version (body_in bytes) items
Breaks fingerprint bytes refusals.NoMemory = ⊥

-- a rule is broken, and none before it
pub record IsRefused (fingerprint bytes : List ℕ) (why : SnapshotRefusal) : Type 0 where
  pub broken : Breaks fingerprint bytes why
  pub first : (earlier : SnapshotRefusal) → rank_of earlier < rank_of why → ¬ Breaks fingerprint bytes earlier

-- what a refusal says of the bytes
abbrev pub Refuses : List ℕ → List ℕ → SnapshotRefusal → Type 0
Refuses fingerprint bytes refusals.NoMemory = Unit {0}
Refuses fingerprint bytes why = IsRefused fingerprint bytes why

-- what an answer says of the bytes
abbrev pub Decodes : List ℕ → List ℕ → Result (Objects × ℕ) SnapshotRefusal → Type 0
Decodes fingerprint bytes (Ok (state, next)) = Spells state next fingerprint bytes
Decodes fingerprint bytes (Err why) = Refuses fingerprint bytes why

-- this state and this next number, or memory ran out
abbrev pub GivesOnly : Objects → ℕ → Result (Objects × ℕ) SnapshotRefusal → Type 0
GivesOnly state next (Ok found) = (found.0 ≡ state) × (found.1 ≡ next)
GivesOnly state next (Err refusals.NoMemory) = Unit {0}
GivesOnly state next (Err _) = ⊥

-- this refusal, or memory ran out
abbrev pub GivesRefusal : SnapshotRefusal → Result (Objects × ℕ) SnapshotRefusal → Type 0
GivesRefusal why (Ok found) = ⊥
GivesRefusal why (Err refusals.NoMemory) = Unit {0}
GivesRefusal why (Err answer) = answer ≡ why
