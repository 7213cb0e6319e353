-- The methods of all kinds of objects (the chapter on the root object, in this project's profile).
use Rattle.std.specs.Prelude.{ℕ, ◌==◌, Bool, false, List, [], map, Option, Some, None, is_some, unwrap_or, Result}
use Rattle.std.specs.FinMap.{get}
use Rattle.std.specs.List.{list_any}
use Rattle.t3_holder.specs.declared.holder.Holder.{Holder}
use Rattle.t3_holder.specs.declared.holder.Holder.TheVariants as holders
use Rattle.t3_store.specs.Value.{is_class_at}
use Rattle.t3_store.specs.Store.{StoreValue, value_at}
use Rattle.t3_store.specs.Whole.{supers_of_live}
use Rattle.t3_ops.specs.declared.fault.Fault.{Fault}
use Rattle.t3_ops.specs.declared.fault.Fault.TheVariants.{Kind}
use Rattle.t3_ops.specs.Making.{unless_none, fitting_list_of}
use Rattle.t3_kinds.specs.Changes.{Deed}
use Rattle.t3_kinds.specs.Deeds.{answers_truth, answers_new}
use Rattle.t3_kinds.specs.Search.{order_of, property_of}

-- ---- ofKind: whether an object is in the superclass order of self, as self is. What is no tads-object is in none, and has none

abbrev pub reference : Holder → Option ℕ
reference (holders.Obj number) = Some number
reference _ = None

abbrev pub is_of_kind : StoreValue → Holder → ℕ → Bool
is_of_kind store (holders.Obj number) class = list_any (λ n. n == class) (order_of store number)
is_of_kind store _ class = false

abbrev pub of_kind_of : StoreValue → Holder → Holder → Result Deed Fault
of_kind_of store this class = unless_none Kind (reference class) (λ class. answers_truth (is_of_kind store this class))

-- ---- getSuperclassList: a new list of the direct superclasses, also of those that aren't there

abbrev pub supers_of_self : StoreValue → Holder → List ℕ
supers_of_self store (holders.Obj number) = unwrap_or (supers_of_live store number) []
supers_of_self store _ = []

abbrev pub superclass_list_of : StoreValue → Holder → Result Deed Fault
superclass_list_of store this = answers_new (fitting_list_of (map holders.Obj (supers_of_self store this))) store

-- ---- propDefined: whether the search finds a property of self

abbrev pub property : Holder → Option ℕ
property (holders.Prop number) = Some number
property _ = None

abbrev pub has_property : StoreValue → Holder → ℕ → Bool
has_property store (holders.Obj number) property = is_some (property_of store number property)
has_property store _ property = false

abbrev pub prop_defined_of : StoreValue → Holder → Holder → Result Deed Fault
prop_defined_of store this wanted = unless_none Kind (property wanted) (λ property. answers_truth (has_property store this property))

-- ---- isClass, isTransient

abbrev pub is_class_self : StoreValue → Holder → Bool
is_class_self store (holders.Obj number) = is_class_at (value_at store number)
is_class_self store _ = false

abbrev pub is_class_deed : StoreValue → Holder → Result Deed Fault
is_class_deed store this = answers_truth (is_class_self store this)

abbrev pub is_transient_self : StoreValue → Holder → Bool
is_transient_self store (holders.Obj number) = is_some (get store.transient number)
is_transient_self store _ = false

abbrev pub is_transient_deed : StoreValue → Holder → Result Deed Fault
is_transient_deed store this = answers_truth (is_transient_self store this)
