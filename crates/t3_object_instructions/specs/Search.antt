-- Where a property is looked for: behind an object in a superclass order, and in the tables of methods that the image gives (the chapters
-- on tads-objects and on metaclasses).
use Rattle.std.specs.Prelude.{ℕ, ◌==◌, Bool, true, false, List, [], ◌∷◌, Option, Some, None, Result, Ok, Err, is_some, is_none, ◌&&◌, option_map, if◌then◌else◌}
use Rattle.std.specs.FinMap.{get}
use Rattle.std.specs.List.{position_from}
use Rattle.t3_holder.specs.declared.holder.Holder.{Holder}
use Rattle.t3_holder.specs.declared.holder.Holder.TheVariants.{Obj}
use Rattle.t3_store.specs.Value.{Value, supers_of}
use Rattle.t3_store.specs.Store.{StoreValue, value_at}
use Rattle.t3_store.specs.Whole.{supers_of_live}
use Rattle.t3_store.specs.declared.kind.Kind.{Kind}
use Rattle.t3_store.specs.declared.kind.Kind.TheVariants as kinds
use Rattle.t3_load.specs.declared.kinds.MetaKind.{MetaKind}
use Rattle.t3_load.specs.declared.kinds.MetaKind.TheVariants as metas
use Rattle.t3_load.specs.declared.kinds.KindEntry.{KindEntry}
use Rattle.t3_ops.specs.declared.fault.Fault.{Fault}
use Rattle.t3_ops.specs.declared.fault.Fault.TheVariants.{NotObject, Stale}
use Rattle.t3_kinds.specs.Search.{searched, order_of}

-- ---- which object a value is

abbrev pub is_tads : Value → Bool
is_tads value = is_some (supers_of value)

abbrev pub tads_number : ℕ → Option Value → Result ℕ Fault
tads_number number None = Err Stale
tads_number number (Some value) = if is_tads value then Ok number else Err NotObject

-- a tads-object that is there and isn't transient
abbrev pub is_persistent_tads : StoreValue → ℕ → Bool
is_persistent_tads store number = is_some (supers_of_live store number) && is_none (get store.transient number)

-- the number of the tads-object that a value is
abbrev pub tads_object : StoreValue → Holder → Result ℕ Fault
tads_object store (Obj number) = tads_number number (value_at store number)
tads_object store _ = Err NotObject

-- ---- in the superclass order

-- what stands behind a number
abbrev pub behind : ℕ → List ℕ → List ℕ
behind number [] = []
behind number (first ∷ rest) = if first == number then rest else behind number rest

-- where a property of an object is found behind another one, which is that by which the method is defined that asks
abbrev pub inherited_of : StoreValue → ℕ → ℕ → ℕ → Option (ℕ × Holder)
inherited_of store defining number property = searched store property (behind defining (order_of store number))

-- ---- in the tables of methods

-- the metaclasses that have the methods of a kind: its own first, and last that of all objects
abbrev pub metaclasses_of : Kind → List MetaKind
metaclasses_of kinds.Tads = metas.Tads ∷ metas.Root ∷ []
metaclasses_of kinds.Text = metas.Text ∷ metas.Root ∷ []
metaclasses_of kinds.List = metas.List ∷ metas.Collection ∷ metas.Root ∷ []
metaclasses_of kinds.Vector = metas.Vector ∷ metas.Collection ∷ metas.Root ∷ []
metaclasses_of kinds.Table = metas.Table ∷ metas.Collection ∷ metas.Root ∷ []

abbrev pub same_kind : MetaKind → MetaKind → Bool
same_kind metas.Root metas.Root = true
same_kind metas.Collection metas.Collection = true
same_kind metas.Tads metas.Tads = true
same_kind metas.Text metas.Text = true
same_kind metas.List metas.List = true
same_kind metas.Vector metas.Vector = true
same_kind metas.Table metas.Table = true
same_kind _ _ = false

-- the properties of a metaclass's methods, by their indices; of a metaclass that is listed twice, those of the first entry
abbrev pub methods_of : List KindEntry → MetaKind → List ℕ
methods_of [] kind = []
methods_of (entry ∷ entries) kind = if same_kind entry.kind kind then entry.props else methods_of entries kind

abbrev pub this_or_next : {A : Type 0} → Option A → Option A → Option A
this_or_next (Some found) rest = Some found
this_or_next None rest = rest

-- the first of these metaclasses that has a method by the property, and that method's first index
abbrev pub method_of : List KindEntry → ℕ → List MetaKind → Option (MetaKind × ℕ)
method_of entries property [] = None
method_of entries property (kind ∷ rest) =
    this_or_next (option_map (λ index. (kind, index)) (position_from (λ p. p == property) 0 (methods_of entries kind)))
    (method_of entries property rest)
