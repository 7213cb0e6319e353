-- Which of the methods that are carried out catches what is thrown (the chapter on the machine).
use Rattle.std.specs.Prelude.{ℕ, ◌+◌, List, [], ◌∷◌, length, Option, Some, None, Result, Ok, Err}
use Rattle.t3_pools.specs.Pool.{Pool}
use Rattle.t3_methods.specs.declared.refusal.CodeRefusal.{CodeRefusal}
use Rattle.t3_methods.specs.ExceptionTable.{handler_of}
use Rattle.t3_except.specs.declared.Spot.{Spot}

-- the index of the spot that catches and its handler's address, or that none does; or the method of one that can't tell
abbrev pub Covered : Type 0
Covered = Result (Option (ℕ × ℕ)) (ℕ × CodeRefusal)

-- what the method of a spot of this index answers, and where it doesn't catch, what the older spots do
abbrev pub covered_by : Result (Option ℕ) CodeRefusal → (method index : ℕ) → Covered → Covered
covered_by (Err refusal) method index older = Err (method, refusal)
covered_by (Ok (Some handler)) method index older = Ok (Some (index, method + handler))
covered_by (Ok None) method index older = older

-- the newest of the spots whose method catches an object of these classes, or refuses to tell. The newest spot is the first here, and
-- its index is how many are older
abbrev pub covered : Pool → List ℕ → List Spot → Covered
covered code classes [] = Ok None
covered code classes (spot ∷ older) =
    covered_by (handler_of code spot.method spot.place classes) spot.method (length older) (covered code classes older)
