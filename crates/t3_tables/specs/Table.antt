-- Tables: entries under keys, a default, and the order of the entries.
use Rattle.std.specs.Prelude.{◌≡◌, ℕ, suc, ◌+◌, ◌<◌, Bool, true, false, List, [], ◌∷◌, map, max, Option, None, Some, refl}
use Rattle.std.specs.List.{filter_map}
use Rattle.std.specs.Option.{option_map}
use Rattle.std.specs.Ordering.{nat_cmp, ordering_then}
use Rattle.std.specs.declared.cmp.Ordering.{Ordering}
use Rattle.std.specs.FinMap.{FinMap, get, insert, entries, from_entries}
use Rattle.std.specs.FinMap as finite
use Rattle.std.specs.Coded.{Coded, code_by, coded×, coded_ℕ}
use Rattle.t3_holder.specs.declared.holder.Holder.{Holder}
use Rattle.t3_holder.specs.declared.holder.Holder.TheVariants as holders
use Rattle.t3_undo.specs.Content.{Parts, Places, shown, coded_parts, coded_places, coded_holder}
use Rattle.t3_undo.specs.Present.{Present, tick_in}
use Rattle.t3_undo.specs.Present as presents
use Rattle.t3_undo.specs.Key.{key_cmp}
use Rattle.t3_undo.specs.Objects.{set_at}
use Rattle.t3_undo.specs.Slots as slots
use Rattle.t3_undo.specs.Slots.{unstamped}
use Rattle.t3_undo.specs.declared.key.Key.{Key}
use Rattle.t3_undo.specs.declared.cell.Cell.{Cell}
use Rattle.t3_undo.specs.declared.cell.Cell.TheVariants as cells
use Rattle.t3_undo.specs.declared.content.Content.TheVariants as contents
use Rattle.t3_undo.specs.declared.place.Place.{Place}
use Rattle.t3_tables.specs.declared.pair.Pair.{Pair}

-- a table: its present entries, the places of entries, its default with the stamp of that one's place, and a tick above
-- those of its entries
pub record TableValue : Type 0 where
  pub entries : Parts
  pub places : Places
  pub default : Holder
  pub default_stamp : ℕ
  pub next_tick : ℕ

abbrev pub coded_table : Coded TableValue
coded_table =
    code_by (Parts × (Places × (Holder × (ℕ × ℕ))))
    (coded× coded_parts (coded× coded_places (coded× coded_holder (coded× coded_ℕ coded_ℕ))))
    (λ t. (t.entries, (t.places, (t.default, (t.default_stamp, t.next_tick)))))
    (λ c. record { entries = c.0; places = c.1.0; default = c.1.1.0; default_stamp = c.1.1.1.0; next_tick = c.1.1.1.1 }) (λ _. refl)

-- a table without entries, whose default is nil
abbrev pub new_table : TableValue
new_table = record { entries = finite.empty; places = finite.empty; default = holders.Nil; default_stamp = 0; next_tick = 1 }

-- entries and a default as cells
abbrev pub with_default : Parts → Holder → Parts
with_default entries default = set_at entries cells.Default (shown (contents.Held default))

-- the present cells: the entries', and the default
abbrev pub parts_of : TableValue → Parts
parts_of table = with_default table.entries table.default

-- the places: those of entries, and the default's
abbrev pub places_of : TableValue → Places
places_of table = insert table.places cells.Default table.default_stamp

-- whether a table can have the cell: it is an entry or the default
abbrev pub is_cell : Cell → Bool
is_cell (cells.Key _) = true
is_cell cells.Default = true
is_cell (cells.Prop _) = false
is_cell (cells.Elem _) = false

-- a tick above the next one and that of an entry
abbrev pub above : ℕ → Option ℕ → ℕ
above next_tick None = next_tick
above next_tick (Some tick) = max next_tick (tick + 1)

-- the next tick behind a content that is put
abbrev pub tick_after : ℕ → Option Present → ℕ
tick_after next_tick None = next_tick
tick_after next_tick (Some present) = above next_tick (tick_in present)

-- the tick is above those of all entries
abbrev pub AreBelow : ℕ → Parts → Type 0
AreBelow next_tick parts =
    (cell : Cell) (present : Present) (tick : ℕ) → get parts cell ≡ Some present → tick_in present ≡ Some tick → tick < next_tick

-- the order of entries: by their ticks, and where two were equal by their keys
abbrev pub place_cmp : ℕ × Key → ℕ × Key → Ordering
place_cmp x y = ordering_then (nat_cmp x.0 y.0) (key_cmp x.1 y.1)

-- an entry under its tick and key
abbrev pub entry_in : Cell → Present → Option ((ℕ × Key) × Holder)
entry_in (cells.Key key) (presents.Value tick value) = option_map (λ tick. ((tick, key), value)) tick
entry_in (cells.Key key) (presents.Supers supers) = None
entry_in cells.Default present = None
entry_in (cells.Prop _) present = None
entry_in (cells.Elem _) present = None

-- the entries among the parts, ordered
unfoldable pub ordered : Parts → FinMap place_cmp Holder
ordered parts = from_entries (filter_map (λ e. entry_in e.0 e.1) (entries parts))

-- an entry without its tick
abbrev pub pair_of : (ℕ × Key) × Holder → Pair
pair_of entry = record { key = entry.0.1; value = entry.1 }

-- the entries in the order of their ticks
unfoldable pub entries_of : Parts → List Pair
entries_of parts = map pair_of (entries (ordered parts))

-- entries in their cells, with ticks from this one on, in places with stamp 0
abbrev pub numbered : ℕ → List Pair → List (Cell × Place)
numbered tick [] = []
numbered tick (pair ∷ pairs) = (cells.Key pair.key, unstamped (contents.Slot tick pair.value)) ∷ numbered (suc tick) pairs

-- the parts of a table with this default and these entries, whose ticks are 1, 2 and so on
abbrev pub filled : Holder → List Pair → Parts
filled default pairs = with_default (slots.parts_of (numbered 1 pairs)) default
