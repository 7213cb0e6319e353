-- What is found of a good store's objects is good.
use Rattle.std.proofs.Common.{◌≡◌, refl, ℕ, List, [], ◌∷◌, Option, Some, None}
use Rattle.std.specs.FinMap.{get}
use Rattle.t3_holder.specs.declared.holder.Holder.{Holder}
use Rattle.t3_undo.specs.declared.cell.Cell.TheVariants.{Prop}
use Rattle.t3_store.specs.Value.{Value, Objects, Tads, Text, Items, Vector, Table, holder_at}
use Rattle.t3_tadsobj.specs.Props.{PropMap}
use Rattle.t3_store.specs.Store.{StoreValue, either, value_at}
use Rattle.t3_store.specs.Invariant.{HoldsOfEach}
use Rattle.t3_kinds.specs.Search.{order_of, here_or_behind, searched, property_of}
use Rattle.t3_object_instructions.specs.Search.{behind, inherited_of}
use Rattle.t3_snapshot.specs.Good.{HasGoodProps, HasGoodParts}
use Rattle.t3_good_values.specs.Stores.{IsGoodStore}
use Rattle.t3_good_instructions.proofs.Holders.{IsGoodIfAny}

module _ (Good : Holder → Type 0) where
  -- a value that is there has good parts
  abbrev HasPartsIfAny : Option Value → Type 0
  HasPartsIfAny None = Unit {0}
  HasPartsIfAny (Some value) = HasGoodParts Good value

  parts-of : (objects : Objects) (number : ℕ) → HoldsOfEach (HasGoodParts Good) objects → HasPartsIfAny (get objects number)
  parts-of objects number good = by (get objects number) refl
    where
      by : (value : Option Value) → get objects number ≡ value → HasPartsIfAny value
      by None e = tt
      by (Some value) e = good number value e

  parts-either : (first second : Option Value) → HasPartsIfAny first → HasPartsIfAny second → HasPartsIfAny (either first second)
  parts-either (Some value) second good also = good
  parts-either None second good also = also

  parts-at : (store : StoreValue) (number : ℕ) → IsGoodStore Good store → HasPartsIfAny (value_at store number)
  parts-at store number has =
      parts-either (get store.persistent number) (get store.transient number) (parts-of store.persistent number has.persistent.parts)
      (parts-of store.transient number has.transient.parts)

  good-get : (props : PropMap) (property : ℕ) → HasGoodProps Good props → IsGoodIfAny Good (get props property)
  good-get props property good = by (get props property) refl
    where
      by : (value : Option Holder) → get props property ≡ value → IsGoodIfAny Good value
      by None e = tt
      by (Some value) e = (good property value e).value

  good-prop : (object : Option Value) (property : ℕ) → HasPartsIfAny object → IsGoodIfAny Good (holder_at object (Prop property))
  good-prop None property good = tt
  good-prop (Some (Tads supers class props)) property good = good-get props property good.1
  good-prop (Some (Text bytes)) property good = tt
  good-prop (Some (Items items)) property good = tt
  good-prop (Some (Vector items)) property good = tt
  good-prop (Some (Table pairs default)) property good = tt

  -- ---- in a superclass order

  -- a value that was found is good
  abbrev pub IsGoodIfFound : Option (ℕ × Holder) → Type 0
  IsGoodIfFound None = Unit {0}
  IsGoodIfFound (Some found) = Good found.1

  good-here : (number : ℕ) (value : Option Holder) (rest : Option (ℕ × Holder)) → IsGoodIfAny Good value → IsGoodIfFound rest
      → IsGoodIfFound (here_or_behind number value rest)
  good-here number (Some value) rest good also = good
  good-here number None rest good also = also

  good-searched : (store : StoreValue) (property : ℕ) (numbers : List ℕ) → IsGoodStore Good store
      → IsGoodIfFound (searched store property numbers)
  good-searched store property [] has = tt
  good-searched store property (number ∷ numbers) has =
      good-here number (holder_at (value_at store number) (Prop property)) (searched store property numbers)
      (good-prop (value_at store number) property (parts-at store number has)) (good-searched store property numbers has)

  pub good-property_of : (store : StoreValue) (number property : ℕ) → IsGoodStore Good store
      → IsGoodIfFound (property_of store number property)
  good-property_of store number property has = good-searched store property (order_of store number) has

  pub good-inherited_of : (store : StoreValue) (defining number property : ℕ) → IsGoodStore Good store
      → IsGoodIfFound (inherited_of store defining number property)
  good-inherited_of store defining number property has = good-searched store property (behind defining (order_of store number)) has
