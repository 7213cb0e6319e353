-- The methods of all kinds of objects, and those of tads-objects, answer what is good.
use Rattle.std.proofs.Common.{refl, List, [], ◌∷◌, map, Option, Some, None}
use Rattle.std.specs.Prelude.{unwrap_or, option_and_then}
use Rattle.std.specs.List.{AllByRecursion}
use Rattle.t3_holder.specs.declared.holder.Holder.{Holder}
use Rattle.t3_holder.specs.declared.holder.Holder.TheVariants as holders
use Rattle.t3_store.specs.Value.{Value, Tads, Text, Items, Vector, Table, supers_of}
use Rattle.t3_store.specs.Store.{StoreValue, value_at}
use Rattle.t3_ops.specs.declared.fault.Fault.{Fault}
use Rattle.t3_ops.specs.declared.fault.Fault.TheVariants.{Kind}
use Rattle.t3_ops.specs.Values.{kind_fault}
use Rattle.t3_ops.specs.Making.{fitting_list_of}
use Rattle.t3_kinds.specs.declared.methods.RootMethod.{RootMethod}
use Rattle.t3_kinds.specs.declared.methods.RootMethod.TheVariants as root
use Rattle.t3_kinds.specs.declared.methods.TadsMethod.{TadsMethod}
use Rattle.t3_kinds.specs.declared.methods.TadsMethod.TheVariants as tads
use Rattle.t3_kinds.specs.Deeds.{answers_truth, first_of}
use Rattle.t3_kinds.specs.RootMethods.{reference, is_of_kind, property, has_property, supers_of_self, is_class_self, is_transient_self}
use Rattle.t3_kinds.specs.TadsMethods.{supers_fault, unless_fault, clone_value, object_at}
use Rattle.t3_kinds.specs.Methods.{root_deed, tads_deed}
use Rattle.t3_snapshot.specs.State.{named_as_keys}
use Rattle.t3_snapshot.specs.Good.{HasGoodParts}
use Rattle.t3_good_values.specs.Values.{IsClosed, IsGoodNew, IsGoodResult}
use Rattle.t3_good_values.specs.Stores.{IsGoodStore, IsGoodDeed}
use Rattle.t3_good_values.proofs.Lists.{IfThere, all-map}
use Rattle.t3_good_values.proofs.Outcomes.{good-found, good-list_of}
use Rattle.t3_good_values.proofs.Parts.{good-value}
use Rattle.t3_good_values.proofs.Deeds.{IsGoodAnswer, good-truth, good-new}

-- ---- superclasses

supers-of : (Good : Holder → Type 0) (value : Option Value) → IfThere (HasGoodParts Good) value
    → AllByRecursion (λ number. Good (holders.Obj number)) (unwrap_or (option_and_then supers_of value) [])
supers-of Good None good = tt
supers-of Good (Some (Tads supers class props)) good = good.0.each
supers-of Good (Some (Text bytes)) good = tt
supers-of Good (Some (Items items)) good = tt
supers-of Good (Some (Vector items)) good = tt
supers-of Good (Some (Table pairs default)) good = tt

supers-of_self : {Good : Holder → Type 0} {store : StoreValue} → IsGoodStore Good store → (this : Holder)
    → AllByRecursion (λ number. Good (holders.Obj number)) (supers_of_self store this)
supers-of_self {Good} {store} good (holders.Obj number) = supers-of Good (value_at store number) (good-value good number)
supers-of_self good this = tt

pub good-root : {Good : Holder → Type 0} {store : StoreValue} → IsClosed Good → IsGoodStore Good store
    → (method : RootMethod) (this : Holder)
    (args : List Holder) → IsGoodAnswer Good (root_deed store method this args)
good-root {Good} {store} closed good root.OfKind this args =
    good-found (IsGoodDeed Good) Kind (reference (first_of args)) (λ class. answers_truth (is_of_kind store this class))
    (λ class. good-truth closed (is_of_kind store this class))
good-root {Good} {store} closed good root.GetSuperclassList this args =
    let supers = supers_of_self store this in
    good-new closed good (fitting_list_of (map holders.Obj supers))
    (good-list_of Good (map holders.Obj supers)
    (all-map (λ number. Good (holders.Obj number)) Good holders.Obj (λ number good. good) supers (supers-of_self good this)))
good-root {Good} {store} closed good root.PropDefined this args =
    good-found (IsGoodDeed Good) Kind (property (first_of args)) (λ property. answers_truth (has_property store this property))
    (λ property. good-truth closed (has_property store this property))
good-root {Good} {store} closed good root.IsClass this args = good-truth closed (is_class_self store this)
good-root {Good} {store} closed good root.IsTransient this args = good-truth closed (is_transient_self store this)

-- ---- copies

unless-fault : (Good : Holder → Type 0) (fault : Option Fault) (value : Value) → IsGoodNew Good value
    → IsGoodResult (IsGoodNew Good) (unless_fault fault value)
unless-fault Good None value good = good
unless-fault Good (Some fault) value good = tt

clone : (Good : Holder → Type 0) (store : StoreValue) (fault : Fault) (value : Option Value) → IfThere (HasGoodParts Good) value
    → IsGoodResult (IsGoodNew Good) (clone_value store fault value)
unfolding named_as_keys
clone Good store fault None good = tt
clone Good store fault (Some (Tads supers class props)) good =
    unless-fault Good (supers_fault store supers) (Tads supers class props) (record { parts = good; keyless = refl })
clone Good store fault (Some (Text bytes)) good = tt
clone Good store fault (Some (Items items)) good = tt
clone Good store fault (Some (Vector items)) good = tt
clone Good store fault (Some (Table pairs default)) good = tt

object-at : {Good : Holder → Type 0} {store : StoreValue} → IsGoodStore Good store → (this : Holder)
    → IfThere (HasGoodParts Good) (object_at store this)
object-at good (holders.Obj number) = good-value good number
object-at good this = tt

pub good-tads : {Good : Holder → Type 0} {store : StoreValue} → IsClosed Good → IsGoodStore Good store
    → (method : TadsMethod) (this : Holder)
    → IsGoodAnswer Good (tads_deed store method this)
good-tads {Good} {store} closed good tads.CreateClone this =
    let fault = kind_fault store (this ∷ []) in
    good-new closed good (clone_value store fault (object_at store this))
    (clone Good store fault (object_at store this) (object-at good this))
