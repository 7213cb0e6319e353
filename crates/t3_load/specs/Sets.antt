-- The sets of built-in functions, their names, and the table of them that an image gives.
use Rattle.std.specs.Prelude.{ℕ, List, [], ◌∷◌, Option, codes}
use Rattle.t3_load.specs.declared.sets.SetKind.{SetKind}
use Rattle.t3_load.specs.declared.sets.SetKind.TheVariants.{Gen, Io, Vm}
use Rattle.t3_load.specs.Names.{by_base}

-- the name by which an image lists each
abbrev pub set_name : SetKind → List ℕ
set_name Gen = codes "tads-gen"
set_name Io = codes "tads-io"
set_name Vm = codes "t3vm"

abbrev pub every_set : List SetKind
every_set = Gen ∷ Io ∷ Vm ∷ []

-- the set of a name
abbrev pub set_named : List ℕ → Option SetKind
set_named name = by_base set_name every_set name
