-- One name is too few.
use Rattle.std.proofs.Common.{◌≡◌, ℕ, ◌<◌, List, [], ◌∷◌, length, map, None, string_bytes, refl, arith}
use Rattle.t3_words.specs.Verbs.{rewrite_of}
use Rattle.t3_words.proofs.verbs.rewrite.Goals as goal

too_few : {A : Type 0} (f : A → List ℕ) (words : List A) → length words < 2 → None ≡ rewrite_of (map f words)
too_few f [] few = refl
too_few f (name ∷ []) few = refl
too_few f (name ∷ second ∷ words) few = absurd (omega arith)

pub returns-in_default : goal.returns-in_default
returns-in_default c = (too_few string_bytes c.args.words.now (omega arith), tt)
