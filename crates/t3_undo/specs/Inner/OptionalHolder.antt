-- A holder or none, as one enum has it.
use Rattle.std.specs.Prelude.{◌≡◌, Option, None, Some, refl}
use Rattle.t3_holder.specs.declared.holder.Holder.{Holder}
use Rattle.t3_holder.specs.declared.holder.Holder.TheVariants as holders
use Rattle.t3_undo.specs.declared.optional_holder.OptionalHolder.{OptionalHolder}
use Rattle.t3_undo.specs.declared.optional_holder.OptionalHolder.TheVariants as optional

abbrev pub holder_of : OptionalHolder → Option Holder
holder_of optional.Absent = None
holder_of optional.Nil = Some holders.Nil
holder_of optional.True = Some holders.True
holder_of (optional.Int n) = Some (holders.Int n)
holder_of (optional.Enum n) = Some (holders.Enum n)
holder_of (optional.Prop n) = Some (holders.Prop n)
holder_of (optional.Obj n) = Some (holders.Obj n)
holder_of (optional.Text n) = Some (holders.Text n)
holder_of (optional.Shown n) = Some (holders.Shown n)
holder_of (optional.List n) = Some (holders.List n)
holder_of (optional.Code n) = Some (holders.Code n)
holder_of (optional.Func n) = Some (holders.Func n)

abbrev pub optional_of_holder : Holder → OptionalHolder
optional_of_holder holders.Nil = optional.Nil
optional_of_holder holders.True = optional.True
optional_of_holder (holders.Int n) = optional.Int n
optional_of_holder (holders.Enum n) = optional.Enum n
optional_of_holder (holders.Prop n) = optional.Prop n
optional_of_holder (holders.Obj n) = optional.Obj n
optional_of_holder (holders.Text n) = optional.Text n
optional_of_holder (holders.Shown n) = optional.Shown n
optional_of_holder (holders.List n) = optional.List n
optional_of_holder (holders.Code n) = optional.Code n
optional_of_holder (holders.Func n) = optional.Func n

abbrev pub optional_of : Option Holder → OptionalHolder
optional_of None = optional.Absent
optional_of (Some holder) = optional_of_holder holder

pub optional_of-holder_of : (o : OptionalHolder) → optional_of (holder_of o) ≡ o
optional_of-holder_of optional.Absent = refl
optional_of-holder_of optional.Nil = refl
optional_of-holder_of optional.True = refl
optional_of-holder_of (optional.Int n) = refl
optional_of-holder_of (optional.Enum n) = refl
optional_of-holder_of (optional.Prop n) = refl
optional_of-holder_of (optional.Obj n) = refl
optional_of-holder_of (optional.Text n) = refl
optional_of-holder_of (optional.Shown n) = refl
optional_of-holder_of (optional.List n) = refl
optional_of-holder_of (optional.Code n) = refl
optional_of-holder_of (optional.Func n) = refl
