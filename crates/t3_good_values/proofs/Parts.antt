-- For other crates too: the texts, the elements and the entries of good values.
use Rattle.std.proofs.Common.{◌≡◌, ℕ, ◌+◌, Bool, true, false, if◌then◌else◌, List, Option, Some, None, refl}
use Rattle.std.proofs.lemmas.Str.{IsUtf8-from_is_utf8}
use Rattle.std.specs.Option.{option_and_then}
use Rattle.std.specs.List.{AllByRecursion}
use Rattle.std.specs.Str.{IsUtf8, is_utf8}
use Rattle.std.specs.FinMap.{get}
use Rattle.t3_holder.specs.declared.holder.Holder.{Holder}
use Rattle.t3_holder.specs.declared.holder.Holder.TheVariants as holders
use Rattle.t3_pools.specs.Pool.{Pool}
use Rattle.t3_pools.specs.Constants.{HasText as StandsText, number_in, bytes_in, as_utf8, text_in, list_in, IsOfBytes}
use Rattle.t3_pools.proofs.Texts.{stands-text_in}
use Rattle.t3_store.specs.Value.{Value, Tads, Text, Items, Vector, Table}
use Rattle.t3_store.specs.Store.{StoreValue, value_at, either}
use Rattle.t3_ops.specs.Values.{TextOrList, OfText, OfList, Neither, text_or_list_of, object_text_or_list}
use Rattle.t3_ops.specs.Containers.{Container, OfElements, OfEntries, NoContainer, container_of, object_container}
use Rattle.t3_snapshot.specs.Layout.{IsText}
use Rattle.t3_snapshot.specs.Good.{HasGoodParts, IsGoodTable}
use Rattle.t3_good_values.specs.Values.{IsClosed, HasGoodConstants}
use Rattle.t3_good_values.specs.Stores.{IsGoodStore}
use Rattle.t3_good_values.proofs.Lists.{IfThere}

-- what operations and methods are given
pub record AreGiven (Good : Holder → Type 0) (constants : Pool) (store : StoreValue) : Type 0 where
  pub closed : IsClosed Good
  pub constants_good : HasGoodConstants Good constants
  pub store_good : IsGoodStore Good store

-- ---- objects

pub good-value : {Good : Holder → Type 0} {store : StoreValue} → IsGoodStore Good store → (number : ℕ)
    → IfThere (HasGoodParts Good) (value_at store number)
good-value {Good} {store} good number =
    by (get store.persistent number) (get store.transient number) (λ v e. good.persistent.parts number v e)
    (λ v e. good.transient.parts number v e)
  where
    by : (first second : Option Value) → ((v : Value) → first ≡ Some v → HasGoodParts Good v)
        → ((v : Value) → second ≡ Some v → HasGoodParts Good v) → IfThere (HasGoodParts Good) (either first second)
    by (Some v) second here there = here v refl
    by None (Some v) here there = there v refl
    by None None here there = tt

-- ---- texts and lists

-- its text, if it is one, is in UTF-8
abbrev pub HasUtf8 : TextOrList → Type 0
HasUtf8 (OfText bytes) = IfThere IsUtf8 bytes
HasUtf8 (OfList items) = Unit {0}
HasUtf8 Neither = Unit {0}

-- and a string can have it
abbrev pub HasText : TextOrList → Type 0
HasText (OfText bytes) = IfThere IsText bytes
HasText (OfList items) = Unit {0}
HasText Neither = Unit {0}

-- its elements, if it is a list, are good
abbrev pub HasGoodItems : (Holder → Type 0) → TextOrList → Type 0
HasGoodItems Good (OfText bytes) = Unit {0}
HasGoodItems Good (OfList items) = IfThere (AllByRecursion Good) items
HasGoodItems Good Neither = Unit {0}

text-constant : (constants : Pool) (address : ℕ) → IsOfBytes constants → IfThere IsText (text_in constants address)
text-constant constants address bytes = by (text_in constants address) (λ text e. stands-text_in constants address text bytes e)
  where
    by : (found : Option (List ℕ)) → ((text : List ℕ) → found ≡ Some text → StandsText constants address text) → IfThere IsText found
    by None is = tt
    by (Some text) is = let stands = is text refl in record { few = stands.fits; utf8 = stands.utf8 }

utf8-constant : (constants : Pool) (address : ℕ) → IfThere IsUtf8 (text_in constants address)
unfolding text_in
utf8-constant constants address = counted (number_in 2 constants address)
  where
    tested : (bytes : List ℕ) (is : Bool) → is_utf8 bytes ≡ is → IfThere IsUtf8 (if is then Some bytes else None)
    tested bytes true is = IsUtf8-from_is_utf8 bytes is
    tested bytes false is = tt

    read : (found : Option (List ℕ)) → IfThere IsUtf8 (option_and_then as_utf8 found)
    read None = tt
    read (Some bytes) = tested bytes (is_utf8 bytes) refl

    counted : (count : Option ℕ)
        → IfThere IsUtf8 (option_and_then (λ n. option_and_then as_utf8 (bytes_in n constants (address + 2))) count)
    counted None = tt
    counted (Some count) = read (bytes_in count constants (address + 2))

object-text : (Good : Holder → Type 0) (value : Option Value) → IfThere (HasGoodParts Good) value → HasText (object_text_or_list value)
object-text Good None good = tt
object-text Good (Some (Text bytes)) good = good
object-text Good (Some (Items items)) good = tt
object-text Good (Some (Vector items)) good = tt
object-text Good (Some (Tads supers class props)) good = tt
object-text Good (Some (Table pairs default)) good = tt

object-items : (Good : Holder → Type 0) (value : Option Value) → IfThere (HasGoodParts Good) value
    → HasGoodItems Good (object_text_or_list value)
object-items Good None good = tt
object-items Good (Some (Text bytes)) good = tt
object-items Good (Some (Items items)) good = good
object-items Good (Some (Vector items)) good = tt
object-items Good (Some (Tads supers class props)) good = tt
object-items Good (Some (Table pairs default)) good = tt

object-utf8 : (Good : Holder → Type 0) (value : Option Value) → IfThere (HasGoodParts Good) value → HasUtf8 (object_text_or_list value)
object-utf8 Good None good = tt
object-utf8 Good (Some (Text bytes)) good = good.utf8
object-utf8 Good (Some (Items items)) good = tt
object-utf8 Good (Some (Vector items)) good = tt
object-utf8 Good (Some (Tads supers class props)) good = tt
object-utf8 Good (Some (Table pairs default)) good = tt

pub good-utf8 : {Good : Holder → Type 0} {store : StoreValue} → IsGoodStore Good store → (constants : Pool) (value : Holder)
    → HasUtf8 (text_or_list_of constants store value)
good-utf8 {Good} {store} good constants (holders.Text address) = utf8-constant constants address
good-utf8 {Good} {store} good constants (holders.Obj number) = object-utf8 Good (value_at store number) (good-value good number)
good-utf8 good constants value = tt

pub good-text : {Good : Holder → Type 0} {store : StoreValue} → IsGoodStore Good store → (constants : Pool) → IsOfBytes constants
    → (value : Holder) → HasText (text_or_list_of constants store value)
good-text {Good} {store} good constants bytes (holders.Text address) = text-constant constants address bytes
good-text {Good} {store} good constants bytes (holders.Obj number) = object-text Good (value_at store number) (good-value good number)
good-text good constants bytes value = tt

pub good-items : {Good : Holder → Type 0} {constants : Pool} {store : StoreValue} → AreGiven Good constants store → (value : Holder)
    → Good value
    → HasGoodItems Good (text_or_list_of constants store value)
good-items {Good} {constants} given (holders.List address) good =
    by (list_in constants address) (λ items e. given.constants_good.lists address items good e)
  where
    by : (found : Option (List Holder)) → ((items : List Holder) → found ≡ Some items → AllByRecursion Good items)
        → IfThere (AllByRecursion Good) found
    by None is = tt
    by (Some items) is = is items refl
good-items {Good} {constants} {store} given (holders.Obj number) good =
    object-items Good (value_at store number) (good-value given.store_good number)
good-items given value good = tt

-- ---- containers

abbrev pub HasGoodContents : (Holder → Type 0) → Container → Type 0
HasGoodContents Good (OfElements items) = IfThere (AllByRecursion Good) items
HasGoodContents Good (OfEntries pairs default) = IsGoodTable Good pairs default
HasGoodContents Good NoContainer = Unit {0}

object-contents : (Good : Holder → Type 0) (value : Option Value) → IfThere (HasGoodParts Good) value
    → HasGoodContents Good (object_container value)
object-contents Good None good = tt
object-contents Good (Some (Text bytes)) good = tt
object-contents Good (Some (Items items)) good = good
object-contents Good (Some (Vector items)) good = good
object-contents Good (Some (Tads supers class props)) good = tt
object-contents Good (Some (Table pairs default)) good = good

pub good-contents : {Good : Holder → Type 0} {constants : Pool} {store : StoreValue} → AreGiven Good constants store → (value : Holder)
    → Good value → HasGoodContents Good (container_of constants store value)
good-contents {Good} {constants} {store} given (holders.List address) good = good-items given (holders.List address) good
good-contents {Good} {constants} {store} given (holders.Obj number) good =
    object-contents Good (value_at store number) (good-value given.store_good number)
good-contents given value good = tt
