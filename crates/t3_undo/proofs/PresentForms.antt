-- What the form of a content says of it. Other crates may use these.
use Rattle.std.proofs.Common.{◌≡◌, sym, refl, Option, None, Some, IsTrue, IsSome, is_some, true≢false}
use Rattle.std.specs.Option.{option_and_then}
use Rattle.t3_undo.specs.Content.{shown, is_form}
use Rattle.t3_undo.specs.Present.{Present, value_in}
use Rattle.t3_undo.specs.Present as presents
use Rattle.t3_undo.specs.declared.cell.Cell.{Cell}
use Rattle.t3_undo.specs.declared.cell.Cell.TheVariants as cells
use Rattle.t3_undo.specs.declared.content.Content.{Content}
use Rattle.t3_undo.specs.declared.content.Content.TheVariants.{Absent, Held, Slot}

-- what is present and of a cell's form is a value
pub value-formed : (cell : Cell) (o : Option Present) → IsTrue (is_form cell o) → is_some (option_and_then value_in o) ≡ is_some o
value-formed cell None form = refl
value-formed cell (Some (presents.Value tick value)) form = refl
value-formed (cells.Prop n) (Some (presents.Supers supers)) form = absurd (true≢false (sym form))
value-formed (cells.Elem n) (Some (presents.Supers supers)) form = absurd (true≢false (sym form))
value-formed (cells.Key key) (Some (presents.Supers supers)) form = absurd (true≢false (sym form))
value-formed cells.Default (Some (presents.Supers supers)) form = absurd (true≢false (sym form))

-- and so is what a content shows
pub value-shown : (content : Content) → is_some (option_and_then value_in (shown content)) ≡ is_some (shown content)
value-shown Absent = refl
value-shown (Held value) = refl
value-shown (Slot tick value) = refl

-- a default is never absent
pub default-some : (o : Option Present) → IsTrue (is_form cells.Default o) → IsSome o
default-some None form = absurd (true≢false (sym form))
default-some (Some p) form = refl
