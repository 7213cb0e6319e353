-- What is good of what an operation or a method comes to, by the words by which it goes on.
use Rattle.std.proofs.Common.{◌≡◌, ◌≤◌, arith, ℕ, Bool, true, false, refl, List, length, nat_lt, Option, Some, None, Result, Ok, Err, if◌then◌else◌}
use Rattle.std.proofs.lemmas.Bool.{ltb-false}
use Rattle.std.specs.List.{AllByRecursion}
use Rattle.std.specs.Str.{IsUtf8}
use Rattle.t3_holder.specs.declared.holder.Holder.{Holder}
use Rattle.t3_store.specs.Value.{Value, Text, Items, Vector}
use Rattle.t3_ops.specs.declared.fault.Fault.{Fault}
use Rattle.t3_ops.specs.Making.{unless_none, fitting_text_of, fitting_list_of, fitting_vector_of, new_object}
use Rattle.t3_snapshot.specs.State.{named_as_keys}
use Rattle.t3_good_values.specs.Values.{IsGoodNew, IsGoodResult}
use Rattle.t3_good_values.specs.Stores.{IsGoodMade}
use Rattle.t3_good_values.proofs.Lists.{IfThere}

-- ---- what is needed

-- what goes on with what is there, of which that holds
pub good-needed : {A B : Type 0} (P : A → Type 0) (Q : B → Type 0) (fault : Fault) (found : Option A) (result : A → Result B Fault)
    → IfThere P found → ((value : A) → P value → IsGoodResult Q (result value)) → IsGoodResult Q (unless_none fault found result)
good-needed P Q fault None result has goes = tt
good-needed P Q fault (Some value) result has goes = goes value has

pub good-found : {A B : Type 0} (Q : B → Type 0) (fault : Fault) (found : Option A) (result : A → Result B Fault)
    → ((value : A) → IsGoodResult Q (result value)) → IsGoodResult Q (unless_none fault found result)
good-found Q fault None result goes = tt
good-found Q fault (Some value) result goes = goes value

pub good-if : {B : Type 0} (Q : B → Type 0) (b : Bool) (fault : Fault) (result : Result B Fault) → IsGoodResult Q result
    → IsGoodResult Q (if b then result else Err fault)
good-if Q true fault result good = good
good-if Q false fault result good = tt

-- ---- new objects

text-fits : (Good : Holder → Type 0) (fault : Fault) (bytes : List ℕ) (past : Bool) → (past ≡ false → length bytes ≤ 65535) → IsUtf8 bytes
    → IsGoodResult (IsGoodNew Good) (if past then Err fault else Ok (Text bytes))
unfolding named_as_keys
text-fits Good fault bytes true few utf8 = tt
text-fits Good fault bytes false few utf8 = record { parts = record { few = omega (arith, few refl); utf8 = utf8 }; keyless = refl }

pub good-text_of : (Good : Holder → Type 0) (bytes : List ℕ) → IsUtf8 bytes → IsGoodResult (IsGoodNew Good) (fitting_text_of bytes)
good-text_of Good bytes utf8 = text-fits Good _ bytes (nat_lt 65535 (length bytes)) (ltb-false 65535 (length bytes)) utf8

good-fitting : (Good : Holder → Type 0) (fault : Fault) (past : Bool) (value : Value) → IsGoodNew Good value
    → IsGoodResult (IsGoodNew Good) (if past then Err fault else Ok value)
good-fitting Good fault true value good = tt
good-fitting Good fault false value good = good

pub good-list_of : (Good : Holder → Type 0) (items : List Holder) → AllByRecursion Good items
    → IsGoodResult (IsGoodNew Good) (fitting_list_of items)
unfolding named_as_keys
good-list_of Good items all = good-fitting Good _ (nat_lt 65535 (length items)) (Items items) (record { parts = all; keyless = refl })

pub good-vector_of : (Good : Holder → Type 0) (items : List Holder) → AllByRecursion Good items
    → IsGoodResult (IsGoodNew Good) (fitting_vector_of items)
unfolding named_as_keys
good-vector_of Good items all = good-fitting Good _ (nat_lt 65535 (length items)) (Vector items) (record { parts = all; keyless = refl })

pub good-made : (Good : Holder → Type 0) (value : Result Value Fault) → IsGoodResult (IsGoodNew Good) value
    → IsGoodResult (IsGoodMade Good) (new_object value)
good-made Good (Ok value) good = good
good-made Good (Err fault) good = tt
