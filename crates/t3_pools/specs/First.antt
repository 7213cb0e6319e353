-- The first of a list that breaks a rule.
use Rattle.std.specs.Prelude.{◌≡◌, List, ◌∷◌, ◌++◌}
use Rattle.std.specs.List.{AllByRecursion}

-- the first of these that is broken: none before it is
pub record IsFirst {X : Type 0} (Broken : X → Type 0) (items : List X) (first : X) : Type 0 where
  pub before : List X
  pub after : List X
  pub is : items ≡ before ++ first ∷ after
  pub kept : AllByRecursion (λ item. ¬ Broken item) before
  pub broken : Broken first
