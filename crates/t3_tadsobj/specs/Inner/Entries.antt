-- What the entries of an object's properties say: by rising number, each with its value if it is present.
use Rattle.std.specs.Prelude.{◌≡◌, ℕ, Bool, ◌||◌, nat_le, is_some, List, map, Option, None, Some}
use Rattle.std.specs.FinMap.{len}
use Rattle.std.specs.List.{filter_map}
use Rattle.std.specs.Option.{option_map}
use Rattle.t3_holder.specs.declared.holder.Holder.{Holder}
use Rattle.t3_undo.specs.Content.{Parts, Places}
use Rattle.t3_undo.specs.Slots.{parts_of, places_of}
use Rattle.t3_undo.specs.declared.cell.Cell.{Cell}
use Rattle.t3_undo.specs.declared.cell.Cell.TheVariants as cells
use Rattle.t3_undo.specs.declared.content.Content.{Content}
use Rattle.t3_undo.specs.declared.content.Content.TheVariants as contents
use Rattle.t3_undo.specs.declared.place.Place.{Place}
use Rattle.t3_undo.specs.StampedValue.{ValuePlace}
use Rattle.t3_tadsobj.specs.declared.props.PropValue.{PropValue}

-- a value as the content of a property
abbrev pub content_of : Option Holder → Content
content_of None = contents.Absent
content_of (Some value) = contents.Held value

-- the place that an entry is
abbrev pub place_of : ValuePlace → Place
place_of p = record { stamp = p.stamp; content = content_of p.value }

-- the content of a property, from what its entry has
abbrev pub content_at : Option ValuePlace → Content
content_at None = contents.Absent
content_at (Some p) = content_of p.value

-- the value of a property, from what its entry has
abbrev pub value_at : Option ValuePlace → Option Holder
value_at None = None
value_at (Some p) = p.value

-- its stamp, or 0 where there is none
abbrev pub stamp_or : Option ValuePlace → ℕ
stamp_or None = 0
stamp_or (Some p) = p.stamp

-- a stamp, or else another
abbrev pub new_stamp : Option ℕ → ℕ → ℕ
new_stamp None stamp = stamp
new_stamp (Some stamp) old = stamp

-- a place with another value, and with another stamp if there is one, where its property is present
abbrev pub replaced_by : Holder → Option ℕ → ℕ → Option Holder → ValuePlace
replaced_by value stamp old None = record { stamp = old; value = None }
replaced_by value stamp old (Some was) = record { stamp = new_stamp stamp old; value = Some value }

abbrev pub replaced : Holder → Option ℕ → ValuePlace → ValuePlace
replaced value stamp p = replaced_by value stamp p.stamp p.value

-- entries as slots
abbrev pub slots_of : List (ℕ × ValuePlace) → List (Cell × Place)
slots_of es = map (λ e. (cells.Prop e.0, place_of e.1)) es

-- what is present, and what has a place
abbrev pub parts_in : List (ℕ × ValuePlace) → Parts
parts_in es = parts_of (slots_of es)

abbrev pub places_in : List (ℕ × ValuePlace) → Places
places_in es = places_of (slots_of es)

-- the present properties, each with its number and its value
abbrev pub listed : List (ℕ × ValuePlace) → List PropValue
listed es = filter_map (λ e. option_map (λ value. record { number = e.0; value = value }) e.1.value) es

-- the entries that are present, with stamp 0
abbrev pub afresh : List (ℕ × ValuePlace) → List (ℕ × ValuePlace)
afresh es = filter_map (λ e. option_map (λ value. (e.0, record { stamp = 0; value = Some value })) e.1.value) es

-- whether an entry is present, or its stamp isn't below this one
abbrev pub is_needed : ℕ → ℕ × ValuePlace → Bool
is_needed oldest e = is_some e.1.value || nat_le oldest e.1.stamp

-- the present properties are counted
abbrev pub AreCounted : List (ℕ × ValuePlace) → ℕ → Type 0
AreCounted es present = present ≡ len (parts_in es)
