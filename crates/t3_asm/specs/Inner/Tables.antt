-- The trees that keep labels and pool sizes.
use Rattle.std.specs.Prelude.{ℕ, List, map, is_some, if◌then◌else◌}
use Rattle.std.specs.Global.{Vec}
use Rattle.std.specs.BTreeMap.{BTreeMap}
use Rattle.std.specs.FinMap.{from_entries, get, insert}
use Rattle.t3_asm_line.specs.declared.keyword.Keyword.{Keyword}
use Rattle.t3_asm_line.specs.declared.keyword.Keyword.TheVariants as of
use Rattle.t3_asm.specs.declared.item.Item.{Item}
use Rattle.t3_asm.specs.Arguments.{number_at, short_at, text_at}
use Rattle.t3_asm.specs.Places.{Labels, PoolSizes}

-- keys and numbers, without where the keys lie in memory
abbrev pub kept_entries : {K C : Type 0} → (K → C) → List (K × ℕ) → List (C × ℕ)
kept_entries key entries = map (λ e. (key e.0, e.1)) entries

abbrev pub kept_labels : BTreeMap (Vec ℕ) ℕ → Labels
kept_labels m = from_entries (kept_entries (λ v. v.items) m.entries)

abbrev pub kept_sizes : BTreeMap ℕ ℕ → PoolSizes
kept_sizes m = from_entries (kept_entries (λ n. n) m.entries)

-- a pool's size, unless one is there
abbrev pub with_size : PoolSizes → ℕ → ℕ → PoolSizes
with_size sizes pool size = if is_some (get sizes pool) then sizes else insert sizes pool size

-- the labels with the one that a line puts
abbrev pub labels_with : Labels → Keyword → Item → Labels
labels_with labels of.Label item = insert labels (text_at item.arguments 0) item.place.address
labels_with labels keyword item = labels

-- the sizes with the one that a line says, unless one is there
abbrev pub sizes_with : PoolSizes → Keyword → Item → PoolSizes
sizes_with sizes of.Pool item = with_size sizes (short_at item.arguments 0) (number_at item.arguments 2)
sizes_with sizes keyword item = sizes
