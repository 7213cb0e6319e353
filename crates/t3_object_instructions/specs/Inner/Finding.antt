-- How the code's constructors and superclasses stand for those of the definitions.
use Rattle.std.specs.Prelude.{◌≡◌, ℕ, Bool, List, [], ◌∷◌, Option, Some, None, Result, Ok, Err, option_map}
use Rattle.t3_store.specs.Store.{StoreValue}
use Rattle.t3_store.specs.Whole.{AreThere, supers_for}
use Rattle.t3_ops.specs.declared.fault.Fault.{Fault}
use Rattle.t3_object_instructions.specs.declared.create.Constructor.{Constructor}

abbrev pub constructor_found : Option Constructor → Option (ℕ × ℕ)
constructor_found found = option_map (λ c. (c.defining, c.method)) found

abbrev pub option_list : Option ℕ → List ℕ
option_list None = []
option_list (Some number) = number ∷ []

-- the superclass that was found out, which is there, or why there can't be one
abbrev pub IsClass : StoreValue → Bool → Result (List ℕ) Fault → Result (Option ℕ) Fault → Type 0
IsClass store transient supers (Ok class) = (supers ≡ Ok (option_list class)) × AreThere (supers_for transient store) (option_list class)
IsClass store transient supers (Err fault) = supers ≡ Err fault
