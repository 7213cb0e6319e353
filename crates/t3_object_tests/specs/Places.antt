-- The places of a vector's elements, for tests.
use Rattle.std.specs.Prelude.{ℕ, ◌<◌, ◌≤◌, IsTrue}
use Rattle.std.specs.FinMap.{contains_key}
use Rattle.t3_undo.specs.Content.{Places}
use Rattle.t3_undo.specs.declared.cell.Cell.TheVariants as cells

-- the elements up to a number have places
abbrev pub HasPlacesTo : Places → ℕ → Type 0
HasPlacesTo places count = (number : ℕ) → 0 < number → number ≤ count → IsTrue (contains_key places (cells.Elem number))
