-- What the symbols of an image name for the machine (the chapter on the machine, in this project's profile).
use Rattle.std.specs.Prelude.{ℕ, zero, suc, ◌==◌, ◌^◌, ◌%◌, List, Option, Some, None, option_and_then, if◌then◌else◌}
use Rattle.t3_holder.specs.declared.holder.Raw.{Raw}
use Rattle.t3_blocks.specs.declared.items.Symbol.{Symbol}
use Rattle.t3_load.specs.Symbols.{raw_of}

-- the object or the property that a symbol names; of a property the low 16 bits count
abbrev pub as_object : Raw → Option ℕ
as_object raw = if raw.tag == 5 then Some raw.bits else None

abbrev pub unless_zero : ℕ → Option ℕ
unless_zero zero = None
unless_zero (suc number) = Some (suc number)

abbrev pub as_property : Raw → Option ℕ
as_property raw = if raw.tag == 6 then unless_zero (raw.bits % 2 ^ 16) else None

abbrev pub object_named : List Symbol → List ℕ → Option ℕ
object_named symbols name = option_and_then as_object (raw_of symbols name)

abbrev pub property_named : List Symbol → List ℕ → Option ℕ
property_named symbols name = option_and_then as_property (raw_of symbols name)
