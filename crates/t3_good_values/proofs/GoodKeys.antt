-- The keys that good values are can stand in the tables of a store. Other crates may use key_of-good.
use Rattle.std.proofs.Common.{◌≡◌, ◌<◌, ◌≤◌, ◌^◌, inl, inr, refl, ℕ, Bool, true, false, List, Option, Some, None, Result, Ok, Err, if◌then◌else◌, ⊎_elim}
use Rattle.std.specs.Prelude.{◌⊎◌, IsTrue, is_some}
use Rattle.std.specs.FinMap.{get}
use Rattle.t3_holder.specs.declared.holder.Holder.{Holder}
use Rattle.t3_holder.specs.declared.holder.Holder.TheVariants as holders
use Rattle.t3_undo.specs.declared.key.Key.{Key}
use Rattle.t3_undo.specs.declared.key.Key.TheVariants as keys
use Rattle.t3_pools.specs.Pool.{Pool}
use Rattle.t3_store.specs.Value.{Value, Tads, Text, Items, Vector, Table}
use Rattle.t3_store.specs.Store.{StoreValue, value_at, either}
use Rattle.t3_ops.specs.declared.fault.Fault.{Fault}
use Rattle.t3_ops.specs.declared.fault.Fault.TheVariants.{BadConstant, Stale}
use Rattle.t3_ops.specs.Values.{TextOrList, OfText, OfList, Neither, text_or_list_of, object_text_or_list}
use Rattle.t3_ops.specs.Keys.{plain_key_of, key_by, key_of}
use Rattle.t3_snapshot.specs.Layout.{IsText}
use Rattle.t3_snapshot.specs.State.{can_be_key}
use Rattle.t3_snapshot.specs.Savable.{IsHeldKey}
use Rattle.t3_good_values.specs.Values.{IsClosed, HasGoodConstants, IsGoodResult}
use Rattle.t3_good_values.specs.Stores.{IsGoodStore, IsGoodKeyIn}
use Rattle.t3_good_values.proofs.Outcomes.{good-needed}
use Rattle.t3_good_values.proofs.Parts.{HasText, good-text}

-- a key that a value is can stand in a table, if it is no fault
abbrev IsGoodPlain : (Holder → Type 0) → StoreValue → Result Key Fault → Type 0
IsGoodPlain Good store result = IsGoodResult (IsGoodKeyIn Good store) result

-- ---- live objects

-- an object that is no text and no list can be a key
able : (first second : Option Value) → object_text_or_list (either first second) ≡ Neither → (first ≡ None) ⊎ IsTrue (can_be_key first)
able None second is = inl refl
able (Some (Tads supers class props)) second is = inr refl
able (Some (Vector items)) second is = inr refl
able (Some (Table pairs default)) second is = inr refl
able (Some (Text bytes)) second is = absurd cc
able (Some (Items items)) second is = absurd cc

-- its number was given
given : {Good : Holder → Type 0} {store : StoreValue} → IsGoodStore Good store → (number : ℕ) → is_some (value_at store number) ≡ true
    → (number < store.next) ⊎ (2 ^ 31 ≤ number)
given {Good} {store} good number =
    by (get store.persistent number) (get store.transient number) (λ value is. inl (good.persistent.numbered number value is).1)
    (λ value is. ⊎_elim (λ less. inl less) (λ past. inr past.0) (good.transient.numbered number value is).1)
  where
    Given : Type 0
    Given = (number < store.next) ⊎ (2 ^ 31 ≤ number)

    by : (first second : Option Value) → ((value : Value) → first ≡ Some value → Given) → ((value : Value) → second ≡ Some value → Given)
        → is_some (either first second) ≡ true → Given
    by (Some value) second here there some = here value refl
    by None (Some value) here there some = there value refl
    by None None here there some = absurd cc

held : {Good : Holder → Type 0} {store : StoreValue} → IsGoodStore Good store → (number : ℕ)
    → object_text_or_list (value_at store number) ≡ Neither → is_some (value_at store number) ≡ true
    → IsHeldKey store.next store.persistent number
held {Good} {store} good number plain some =
    record { given = given good number some; able = able (get store.persistent number) (get store.transient number) plain }

-- ---- keys

good-object : {Good : Holder → Type 0} {store : StoreValue} → IsGoodStore Good store → (number : ℕ) → Good (holders.Obj number)
    → object_text_or_list (value_at store number) ≡ Neither → (some : Bool) → is_some (value_at store number) ≡ some
    → IsGoodPlain Good store (if some then Ok (keys.Obj number) else Err Stale)
good-object good number self plain true is = record { good = self; held = (held good number plain is, tt) }
good-object good number self plain false is = tt

good-plain : {Good : Holder → Type 0} {store : StoreValue} → IsGoodStore Good store → (constants : Pool) (value : Holder) → Good value
    → text_or_list_of constants store value ≡ Neither → IsGoodPlain Good store (plain_key_of store value)
good-plain good constants holders.Nil self plain = record { good = self; held = tt }
good-plain good constants holders.True self plain = record { good = self; held = tt }
good-plain good constants (holders.Int z) self plain = record { good = self; held = tt }
good-plain good constants (holders.Enum n) self plain = record { good = self; held = tt }
good-plain good constants (holders.Prop n) self plain = record { good = self; held = tt }
good-plain good constants (holders.Func address) self plain = record { good = self; held = tt }
good-plain {Good} {store} good constants (holders.Obj number) self plain =
    good-object good number self plain (is_some (value_at store number)) refl
good-plain good constants value self plain = tt

good-text_key : (Good : Holder → Type 0) (store : StoreValue) (bytes : List ℕ) → IsText bytes
    → IsGoodPlain Good store (Ok (keys.Text bytes))
good-text_key Good store bytes text = record { good = text; held = tt }

good-key_by : (Good : Holder → Type 0) (store : StoreValue) (shape : TextOrList) → HasText shape → (plain : Result Key Fault)
    → (shape ≡ Neither → IsGoodPlain Good store plain) → IsGoodPlain Good store (key_by shape plain)
good-key_by Good store (OfText bytes) text plain good =
    good-needed IsText (IsGoodKeyIn Good store) BadConstant bytes (λ bytes. Ok (keys.Text bytes)) text (good-text_key Good store)
good-key_by Good store (OfList items) text plain good = tt
good-key_by Good store Neither text plain good = good refl

pub key_of-good : (Good : Holder → Type 0) (constants : Pool) (store : StoreValue) (value : Holder) → IsClosed Good
    → HasGoodConstants Good constants → IsGoodStore Good store → Good value
    → IsGoodResult (IsGoodKeyIn Good store) (key_of constants store value)
key_of-good Good constants store value closed listed stored good =
    good-key_by Good store (text_or_list_of constants store value) (good-text stored constants listed.bytes value)
    (plain_key_of store value)
    (good-plain stored constants value good)
