-- What functions answer that look for the one item of a kind. Other crates cite these words.
use Rattle.std.specs.Prelude.{◌≡◌, ◌≢◌, List, [], ◌∷◌, Option, Some, None}

-- the one item of a list, or the list hasn't exactly one
abbrev pub OnlyOf : {Found Item : Type 0} → (Found → Item) → List Item → Option Found → Type 0
OnlyOf {Item = Item} view items None = (item : Item) → items ≢ item ∷ []
OnlyOf view items (Some found) = items ≡ view found ∷ []

-- what was found so far, as a list
abbrev pub listed : {Found Item : Type 0} → (Found → Item) → Option Found → List Item
listed view None = []
listed view (Some found) = view found ∷ []
