-- What is written of a table's entries, and of an object by its number.
use Rattle.std.specs.Prelude.{ℕ, Bool, List, [], ◌∷◌, ◌++◌, map, Option, None, Some, if◌then◌else◌}
use Rattle.std.specs.FinMap.{get}
use Rattle.t3_holder.specs.NumberText.{little_endian}
use Rattle.t3_holder.specs.declared.holder.Holder.{Holder}
use Rattle.t3_tables.specs.declared.pair.Pair.{Pair}
use Rattle.t3_store.specs.Value.{Value, Objects}
use Rattle.t3_snapshot.specs.Layout.{entry_text, class_text, super_text, prop_text, counted_text, value_text, IsSpellable}
use Rattle.t3_snapshot.specs.State.{keeps_key, trimmed_entry, trimmed_prop, trimmed_value}

-- the bytes of an entry, and none where its key refers to what isn't there
abbrev pub kept_text : Objects → Pair → List ℕ
kept_text state pair = if keeps_key state pair.key then entry_text (trimmed_entry state pair) else []

-- an object of the number stands there, and without what refers to what isn't there it has a text
abbrev pub WritableAt : Objects → Option Value → Type 0
WritableAt state None = ⊥
WritableAt state (Some value) = IsSpellable (trimmed_value state value)

-- an object of this number can be written
abbrev pub IsWritable : Objects → ℕ → Type 0
IsWritable state number = WritableAt state (get state number)

-- the text of a value, where there is one
abbrev pub trimmed_text : Objects → Option Value → List ℕ
trimmed_text state None = []
trimmed_text state (Some value) = value_text (trimmed_value state value)

-- the text of the object of a number
unfoldable pub object_written : Objects → ℕ → List ℕ
object_written state number = little_endian 4 number ++ trimmed_text state (get state number)

-- the text of a tads-object with these properties, once they are trimmed
unfoldable pub tads_written : Objects → List ℕ → Bool → List (ℕ × Holder) → List ℕ
tads_written state supers class props =
    1 ∷ class_text class ++ (counted_text 2 super_text supers ++ counted_text 2 prop_text (map (trimmed_prop state) props))
