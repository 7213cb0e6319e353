-- What a walk over superclasses still has to do.
use Rattle.std.specs.Prelude.{ℕ, Option, Some, None, List, [], ◌∷◌, map}
use Rattle.t3_tadsobj.specs.declared.order.Task.{Task}
use Rattle.t3_tadsobj.specs.declared.order.Task.TheVariants.{Enter, Leave}

-- the tasks that an object becomes: its superclasses, of which the last comes first, and then itself
abbrev pub entered : ℕ → Option (List ℕ) → List Task
entered n None = []
entered n (Some supers) = Leave n ∷ map Enter supers
