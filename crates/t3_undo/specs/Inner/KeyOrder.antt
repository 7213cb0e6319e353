-- A key's kind and value, by which keys are ordered.
use Rattle.std.specs.Prelude.{ℕ, ℤ, pos, negsuc, List, [], ◌∷◌, drop, slice_index}
use Rattle.t3_undo.specs.Key.{key_code}
use Rattle.t3_undo.specs.declared.key.Key.{Key}

abbrev pub key_kind : Key → ℕ
key_kind key = slice_index (key_code key) 0

abbrev pub key_value : Key → List ℕ
key_value key = drop 1 (key_code key)

-- an integer's sign and size
abbrev pub int_value : ℤ → List ℕ
int_value (pos n) = 0 ∷ n ∷ []
int_value (negsuc n) = 1 ∷ n ∷ []
