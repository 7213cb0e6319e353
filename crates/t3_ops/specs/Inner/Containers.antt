-- Where the code finds the elements and entries of containers, and with how many arguments an object is made.
use Rattle.std.specs.Prelude.{◌≡◌, List, [], ◌∷◌, Option, Some, None, Result, Ok, Err}
use Rattle.t3_holder.specs.declared.holder.Holder.{Holder}
use Rattle.t3_pools.specs.Pool.{Pool}
use Rattle.t3_undo.specs.declared.cell.Cell.TheVariants.{Default}
use Rattle.t3_store.specs.Value.{Value, holder_at}
use Rattle.t3_ops.specs.declared.containers.ContainerRef.{ContainerRef}
use Rattle.t3_ops.specs.declared.containers.ContainerRef.TheVariants as containers
use Rattle.t3_ops.specs.declared.creating.Arguments.{Arguments}
use Rattle.t3_ops.specs.declared.creating.Arguments.TheVariants as arguments
use Rattle.t3_ops.specs.declared.creating.FillingRef.{FillingRef}
use Rattle.t3_ops.specs.declared.creating.FillingRef.TheVariants as fillings
use Rattle.t3_ops.specs.declared.fault.Fault.{Fault}
use Rattle.t3_ops.specs.Containers.{Container, OfElements, OfEntries, NoContainer, table_pairs}
use Rattle.t3_ops.specs.Creating.{Filling, Nils, Elements}
use Rattle.t3_ops.specs.References.{list_of}
use Rattle.t3_ops.specs.Elements.{vector_items, IsVectorOf}

-- a table with that default: nothing else has one
abbrev pub IsTableWith : Option Value → Holder → Type 0
IsTableWith value default = holder_at value Default ≡ Some default

abbrev pub container_by : Pool → ContainerRef → Container
container_by constants (containers.List list) = OfElements (list_of constants list)
container_by constants (containers.Vector object length) = OfElements (Some (vector_items object))
container_by constants (containers.Table object default) = OfEntries (table_pairs object) default
container_by constants containers.Other = NoContainer

abbrev pub IsContainerRef : ContainerRef → Type 0
IsContainerRef (containers.Vector object length) = IsVectorOf object length
IsContainerRef (containers.Table object default) = IsTableWith object default
IsContainerRef (containers.List list) = Unit {0}
IsContainerRef containers.Other = Unit {0}

abbrev pub filling_by : Pool → FillingRef → Filling
filling_by constants (fillings.Nils count) = Nils count
filling_by constants (fillings.List list) = Elements (list_of constants list)
filling_by constants (fillings.Vector object length) = Elements (Some (vector_items object))

abbrev pub IsFillingRef : FillingRef → Type 0
IsFillingRef (fillings.Vector object length) = IsVectorOf object length
IsFillingRef (fillings.Nils count) = Unit {0}
IsFillingRef (fillings.List list) = Unit {0}

-- a filling, where its elements are, or the fault in its place
abbrev pub IsFilling : Pool → Result Filling Fault → Result FillingRef Fault → Type 0
IsFilling constants wanted (Ok filling) = (wanted ≡ Ok (filling_by constants filling)) × IsFillingRef filling
IsFilling constants wanted (Err fault) = wanted ≡ Err fault

-- these are the arguments
abbrev pub HasArguments : Arguments → List Holder → Type 0
HasArguments arguments.Zero args = args ≡ []
HasArguments (arguments.One first) args = args ≡ first ∷ []
HasArguments (arguments.Two first second) args = args ≡ first ∷ second ∷ []
HasArguments arguments.More args = (x : Holder) × (y : Holder) × (z : Holder) × (rest : List Holder) × (args ≡ x ∷ y ∷ z ∷ rest)
