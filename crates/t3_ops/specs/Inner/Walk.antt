-- What is left of a walk over pairs: a level for each two lists that it is within.
use Rattle.std.specs.Prelude.{◌≡◌, [], ◌∷◌, drop, Option, Some, None}
use Rattle.std.specs.List.{zip}
use Rattle.t3_holder.specs.declared.holder.Holder.{Holder}
use Rattle.t3_pools.specs.Pool.{Pool}
use Rattle.t3_ops.specs.declared.equality.Level.{Level}
use Rattle.t3_ops.specs.declared.equality.PairComparison.{PairComparison}
use Rattle.t3_ops.specs.declared.equality.PairComparison.TheVariants as compared
use Rattle.t3_ops.specs.Equality.{Comparison, Same, Different, Unreadable, Inside, Pairs}
use Rattle.t3_ops.specs.References.{elements_of, IsListItems}

-- the pairs of two lists that are left
abbrev pub pairs_of : Pool → Level → Pairs
pairs_of constants level = zip (drop level.next (elements_of constants level.left)) (drop level.next (elements_of constants level.right))

-- all elements of both lists are there
pub record IsLevel (constants : Pool) (level : Level) : Type 0 where
  pub left : IsListItems constants level.left
  pub right : IsListItems constants level.right

-- the first pair is taken off, if there is one
abbrev pub TakesPair : Pairs → Option (Holder × Holder) → Pairs → Type 0
TakesPair pairs None left = pairs ≡ []
TakesPair pairs (Some pair) left = pairs ≡ pair ∷ left

abbrev pub comparison_from : Pool → PairComparison → Comparison
comparison_from constants compared.Same = Same
comparison_from constants compared.Different = Different
comparison_from constants compared.Unreadable = Unreadable
comparison_from constants (compared.Inside level) = Inside (pairs_of constants level)

abbrev pub HasLevel : Pool → PairComparison → Type 0
HasLevel constants (compared.Inside level) = IsLevel constants level
HasLevel constants compared.Same = Unit {0}
HasLevel constants compared.Different = Unit {0}
HasLevel constants compared.Unreadable = Unit {0}
