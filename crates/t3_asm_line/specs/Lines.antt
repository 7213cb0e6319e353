-- The lines of a text.
use Rattle.std.specs.Prelude.{◌≡◌, ◌≢◌, ◌⊎◌, ℕ, ◌==◌, if◌then◌else◌, List, [], ◌∷◌, ◌++◌}
use Rattle.std.specs.List.{onto_first, AllByRecursion}

-- each newline ends a line, and what no newline follows is a line where it has a byte
abbrev pub lines_of : List ℕ → List (List ℕ)
lines_of [] = []
lines_of (byte ∷ bytes) = if byte == 10 then [] ∷ lines_of bytes else onto_first byte (lines_of bytes)

-- a text's first line, in which no newline stands, and what stands behind the newline that ends it, or nothing where none does
pub record HasFirstLine (text line rest : List ℕ) : Type 0 where
  pub whole : AllByRecursion (λ byte. byte ≢ 10) line
  pub parts : (text ≡ line ++ 10 ∷ rest) ⊎ ((text ≡ line) × (rest ≡ []))
