-- The files that a map of byte vectors keeps.
use Rattle.std.specs.Prelude.{ℕ, List, map}
use Rattle.std.specs.Global.{Vec}
use Rattle.std.specs.BTreeMap.{BTreeMap}
use Rattle.std.specs.FinMap.{from_entries}
use Rattle.t3_io.specs.Files.{Files}

-- the names and bytes of a map, without where they lie in memory
abbrev pub kept_entries : List (Vec ℕ × Vec ℕ) → List (List ℕ × List ℕ)
kept_entries entries = map (λ e. (e.0.items, e.1.items)) entries

abbrev pub kept_files : BTreeMap (Vec ℕ) (Vec ℕ) → Files
kept_files m = from_entries (kept_entries m.entries)
