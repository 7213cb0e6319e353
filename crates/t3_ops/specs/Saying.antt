-- The text in which values are said together (the chapter on function sets, in this project's profile).
use Rattle.std.specs.Prelude.{ℕ, Bool, List, [], ◌∷◌, Option, Some, None, is_some, ok_or, unwrap_or, Result, Err, if◌then◌else◌}
use Rattle.std.specs.Fmt.{option_append}
use Rattle.std.specs.List.{list_all}
use Rattle.t3_holder.specs.declared.holder.Holder.{Holder}
use Rattle.t3_pools.specs.Pool.{Pool}
use Rattle.t3_store.specs.Store.{StoreValue}
use Rattle.t3_ops.specs.declared.fault.Fault.{Fault}
use Rattle.t3_ops.specs.declared.fault.Fault.TheVariants.{BadConstant}
use Rattle.t3_ops.specs.Values.{kind_fault}
use Rattle.t3_ops.specs.Adding.{text_form_of}

-- whether a value has a text form; nil has an empty one
abbrev pub has_text_form : Pool → StoreValue → Holder → Bool
has_text_form constants store value = is_some (text_form_of [] constants store value)

-- the text form of a value that has one, where it can be read
abbrev pub read_text_form : Pool → StoreValue → Holder → Option (List ℕ)
read_text_form constants store value = unwrap_or (text_form_of [] constants store value) None

-- the text forms of values, joined, where all can be read
abbrev pub joined_text_forms : Pool → StoreValue → List Holder → Option (List ℕ)
joined_text_forms constants store [] = Some []
joined_text_forms constants store (value ∷ values) =
    option_append (read_text_form constants store value) (joined_text_forms constants store values)

-- the fault of values without a text form comes before that of a constant
abbrev pub said_text_of : Pool → StoreValue → List Holder → Result (List ℕ) Fault
said_text_of constants store values =
    if list_all (has_text_form constants store) values
    then ok_or (joined_text_forms constants store values) BadConstant
    else Err (kind_fault store values)
