-- What stands in the cells of an object, and which cells have a place.
use Rattle.std.specs.Prelude.{◌≡◌, if◌then◌else◌, map, ℕ, ◌-◌, ◌^◌, zero, suc, ℤ, pos, negsuc, Bool, true, false, not, List, [], Option, None, Some, is_some, nat_lt, refl}
use Rattle.std.specs.FinMap.{FinMap, contains_key, insert, keys, from_entries, code as coded_map}
use Rattle.std.specs.Coded.{Coded, code_by, coded_ℕ, coded_ℤ, coded×, coded_option, coded_list}
use Rattle.t3_holder.specs.declared.holder.Holder.{Holder}
use Rattle.t3_holder.specs.declared.holder.Holder.TheVariants as holders
use Rattle.t3_undo.specs.Cell.{cell_cmp, coded_cell}
use Rattle.t3_undo.specs.Present.{Present, tick_in}
use Rattle.t3_undo.specs.Present as presents
use Rattle.t3_undo.specs.declared.cell.Cell.{Cell}
use Rattle.t3_undo.specs.declared.cell.Cell.TheVariants as cells
use Rattle.t3_undo.specs.declared.content.Content.{Content}
use Rattle.t3_undo.specs.declared.content.Content.TheVariants as contents

-- a holder as its kind and its number
abbrev pub holder_code : Holder → ℕ × ℤ
holder_code holders.Nil = (0, pos 0)
holder_code holders.True = (1, pos 0)
holder_code (holders.Int z) = (2, z)
holder_code (holders.Enum n) = (3, pos n)
holder_code (holders.Prop n) = (4, pos n)
holder_code (holders.Obj n) = (5, pos n)
holder_code (holders.Text n) = (6, pos n)
holder_code (holders.Shown n) = (7, pos n)
holder_code (holders.List n) = (8, pos n)
holder_code (holders.Code n) = (9, pos n)
holder_code (holders.Func n) = (10, pos n)

-- a number that isn't negative
abbrev pub natural : ℤ → ℕ
natural (pos n) = n
natural (negsuc n) = 0

-- the holder of a kind with this number
abbrev pub holder_by : ℕ → ℤ → Holder
holder_by zero z = holders.Nil
holder_by (suc zero) z = holders.True
holder_by (suc (suc zero)) z = holders.Int z
holder_by (suc (suc (suc zero))) z = holders.Enum (natural z)
holder_by (suc (suc (suc (suc zero)))) z = holders.Prop (natural z)
holder_by (suc (suc (suc (suc (suc zero))))) z = holders.Obj (natural z)
holder_by (suc (suc (suc (suc (suc (suc zero)))))) z = holders.Text (natural z)
holder_by (suc (suc (suc (suc (suc (suc (suc zero))))))) z = holders.Shown (natural z)
holder_by (suc (suc (suc (suc (suc (suc (suc (suc zero)))))))) z = holders.List (natural z)
holder_by (suc (suc (suc (suc (suc (suc (suc (suc (suc zero))))))))) z = holders.Code (natural z)
holder_by (suc (suc (suc (suc (suc (suc (suc (suc (suc (suc _)))))))))) z = holders.Func (natural z)

pub holder_by-holder_code : (h : Holder) → holder_by (holder_code h).0 (holder_code h).1 ≡ h
holder_by-holder_code holders.Nil = refl
holder_by-holder_code holders.True = refl
holder_by-holder_code (holders.Int z) = refl
holder_by-holder_code (holders.Enum n) = refl
holder_by-holder_code (holders.Prop n) = refl
holder_by-holder_code (holders.Obj n) = refl
holder_by-holder_code (holders.Text n) = refl
holder_by-holder_code (holders.Shown n) = refl
holder_by-holder_code (holders.List n) = refl
holder_by-holder_code (holders.Code n) = refl
holder_by-holder_code (holders.Func n) = refl

abbrev pub coded_holder : Coded Holder
coded_holder = code_by (ℕ × ℤ) (coded× coded_ℕ coded_ℤ) holder_code (λ p. holder_by p.0 p.1) holder_by-holder_code

-- what stands in a present cell as a value with its tick, or else as superclasses
abbrev pub present_code : Present → ℕ × ((Option ℕ × Holder) × List ℕ)
present_code (presents.Value tick value) = (0, ((tick, value), []))
present_code (presents.Supers supers) = (1, ((None, holders.Nil), supers))

abbrev pub present_by : ℕ → (Option ℕ × Holder) × List ℕ → Present
present_by zero c = presents.Value c.0.0 c.0.1
present_by (suc _) c = presents.Supers c.1

pub present_by-present_code : (p : Present) → present_by (present_code p).0 (present_code p).1 ≡ p
present_by-present_code (presents.Value tick value) = refl
present_by-present_code (presents.Supers supers) = refl

abbrev pub coded_present : Coded Present
coded_present =
    code_by (ℕ × ((Option ℕ × Holder) × List ℕ)) (coded× coded_ℕ (coded× (coded× (coded_option coded_ℕ) coded_holder) (coded_list coded_ℕ)))
    present_code (λ c. present_by c.0 c.1) present_by-present_code

-- a content as what stands in a cell, none where it is absent
abbrev pub shown : Content → Option Present
shown contents.Absent = None
shown (contents.Held value) = Some (presents.Value None value)
shown (contents.Slot tick value) = Some (presents.Value (Some tick) value)

-- the parts of an object: its present cells, each with what stands there
abbrev pub Parts : Type 0
Parts = FinMap cell_cmp Present

abbrev pub coded_parts : Coded Parts
coded_parts = coded_map coded_cell coded_present

-- cells that have a place, so that they can be set without memory, each with the place's stamp
abbrev pub Places : Type 0
Places = FinMap cell_cmp ℕ

abbrev pub coded_places : Coded Places
coded_places = coded_map coded_cell coded_ℕ

-- the places with one for the cell: a new one has stamp 0
abbrev pub with_place : Places → Cell → Places
with_place places cell = if contains_key places cell then places else insert places cell 0

-- a place with stamp 0 for each present cell, and for no other
abbrev pub places_for : Parts → Places
places_for parts = from_entries (map (λ cell. (cell, 0)) (keys parts))

-- there is a tick, with room for one more
abbrev pub is_tick : Option ℕ → Bool
is_tick None = false
is_tick (Some tick) = nat_lt tick (2 ^ 64 - 1)

-- there is a value without a tick
abbrev pub is_held : Option Present → Bool
is_held None = false
is_held (Some (presents.Value tick value)) = not (is_some tick)
is_held (Some (presents.Supers supers)) = false

-- the content is of the cell's form: a value, in an entry with a tick and in others without one; and a default is never absent
abbrev pub is_form : Cell → Option Present → Bool
is_form (cells.Key _) None = true
is_form (cells.Key _) (Some present) = is_tick (tick_in present)
is_form (cells.Prop _) None = true
is_form (cells.Prop _) (Some present) = is_held (Some present)
is_form (cells.Elem _) None = true
is_form (cells.Elem _) (Some present) = is_held (Some present)
is_form cells.Default content = is_held content
