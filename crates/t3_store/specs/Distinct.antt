-- That no two entries of a table have one key.
use Rattle.std.specs.Prelude.{map}
use Rattle.std.specs.List.{IsDistinct}
use Rattle.std.specs.Ordering.{eq_by_cmp}
use Rattle.t3_undo.specs.Key.{key_cmp}
use Rattle.t3_store.specs.Value.{Value, Tads, Text, Items, Vector, Table}

-- the entries of a table have distinct keys
abbrev pub HasDistinctEntries : Value → Type 0
HasDistinctEntries (Tads supers class props) = Unit {0}
HasDistinctEntries (Text bytes) = Unit {0}
HasDistinctEntries (Items items) = Unit {0}
HasDistinctEntries (Vector items) = Unit {0}
HasDistinctEntries (Table pairs default) = IsDistinct (eq_by_cmp key_cmp) (map (λ pair. pair.key) pairs)
