-- Carrying out the methods of metaclasses (the chapters on metaclasses, in this project's profile).
use Rattle.std.specs.Prelude.{ℕ, ◌==◌, Bool, true, false, Option, Some, None, Result, Ok, Err, if◌then◌else◌}
use Rattle.t3_holder.specs.declared.holder.Holder.{Holder}
use Rattle.t3_store.specs.Store.{StoreValue}
use Rattle.t3_load.specs.Loading.{ProgramValue}
use Rattle.t3_load.specs.declared.kinds.MetaKind.{MetaKind}
use Rattle.t3_load.specs.declared.kinds.MetaKind.TheVariants as metas
use Rattle.t3_ops.specs.declared.fault.Fault.{Fault}
use Rattle.t3_ops.specs.declared.fault.Fault.TheVariants.{NoMethod}
use Rattle.t3_kinds.specs.declared.methods.Methods.{Methods}
use Rattle.t3_kinds.specs.declared.methods.Methods.TheVariants.{Root, Tads, Text, List as Listed, Vector, Table}
use Rattle.t3_kinds.specs.Changes.{Deed, changed}
use Rattle.t3_kinds.specs.Methods.{listed_deed}
use Rattle.t3_frame_instructions.specs.Context.{Context, Action, with_store, faults, answers, fills}
use Rattle.t3_frame_instructions.specs.Relations.{turn_limit}
use Rattle.t3_object_instructions.specs.Creating.{arguments, supers_by, tads_creation}

-- the methods that a metaclass has; that of all collections has none
abbrev pub methods_by : MetaKind → Option Methods
methods_by metas.Root = Some Root
methods_by metas.Collection = None
methods_by metas.Tads = Some Tads
methods_by metas.Text = Some Text
methods_by metas.List = Some Listed
methods_by metas.Vector = Some Vector
methods_by metas.Table = Some Table

-- the indices of createInstance and createTransientInstance among the methods of tads-objects
abbrev pub create_instance : ℕ
create_instance = 0

abbrev pub create_transient_instance : ℕ
create_transient_instance = 2

-- whether a method makes an instance of self, and then whether that is transient
abbrev pub instance_by : Methods → ℕ → Option Bool
instance_by Tads index =
    if index == create_instance then Some false else (if index == create_transient_instance then Some true else None)
instance_by _ index = None

-- an instance of self is made: self is its superclass, and its constructor gets all arguments
abbrev pub makes_instance : ProgramValue → Holder → ℕ → Bool → Context → Action
makes_instance program this count transient context =
    tads_creation program transient 0 count (supers_by context.store transient this) context

-- all changes were made, and the answer is given; or those before the first for which there was no room
abbrev pub answers_changed : Holder → ℕ → Bool × StoreValue → Context → Action
answers_changed value count (true, store) context = answers value count (with_store store context)
answers_changed value count (false, store) context = fills (with_store store context)

-- what a method comes to, with so many operands as arguments, is carried out
abbrev pub deed_action : Result (Deed × ℕ) Fault → ℕ → Context → Action
deed_action (Ok done) count context = answers_changed done.0.answer count (changed done.0.changes context.store) context
deed_action (Err fault) count context = faults fault context

-- one that makes an instance, or another
abbrev pub listed_by : ProgramValue → Methods → ℕ → Holder → ℕ → Option Bool → Context → Action
listed_by program kind index this count (Some transient) context = makes_instance program this count transient context
listed_by program kind index this count None context =
    deed_action (listed_deed program.pools.constants context.store turn_limit kind index this (arguments count context)) count context

-- the method of an index of these, on self, with so many operands as arguments
abbrev pub listed_action : ProgramValue → Option Methods → ℕ → Holder → ℕ → Context → Action
listed_action program None index this count context = faults NoMethod context
listed_action program (Some kind) index this count context =
    listed_by program kind index this count (instance_by kind index) context
