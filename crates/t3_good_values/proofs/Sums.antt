-- Text forms of good values, and their sums. Other crates may use sum_of-good.
use Rattle.std.proofs.Common.{ℕ, ℤ, List, [], ◌∷◌, ◌++◌, ◌+ℤ◌, Option, Some, None, option_map, Result, Ok, Err}
use Rattle.std.proofs.lemmas.Str.{IsUtf8-nil, IsUtf8-append}
use Rattle.std.specs.List.{AllByRecursion}
use Rattle.std.specs.Str.{IsUtf8}
use Rattle.t3_holder.specs.declared.holder.Holder.{Holder}
use Rattle.t3_holder.specs.declared.holder.Holder.TheVariants as holders
use Rattle.t3_pools.specs.Pool.{Pool}
use Rattle.t3_store.specs.Store.{StoreValue}
use Rattle.t3_ops.specs.declared.arithmetic.ArithOp.TheVariants.{Add}
use Rattle.t3_ops.specs.declared.fault.Fault.{Fault}
use Rattle.t3_ops.specs.declared.fault.Fault.TheVariants.{Kind}
use Rattle.t3_ops.specs.Arithmetic.{arith_of}
use Rattle.t3_ops.specs.Values.{TextOrList, OfText, OfList, Neither, text_or_list_of, integer, kind_fault}
use Rattle.t3_ops.specs.Containers.{Container, OfElements, OfEntries, NoContainer, container_of}
use Rattle.t3_ops.specs.Making.{Made, fitting_text_of, fitting_list_of}
use Rattle.t3_ops.specs.Adding.{word_of, text_form_by, text_form_of, added_by, added_elements, joined_texts_of, text_sum, list_sum, integer_value, number_sum, number_sum_or, sum_by, sum_of}
use Rattle.t3_good_values.specs.Values.{IsClosed, HasGoodConstants, IsGoodResult}
use Rattle.t3_good_values.specs.Stores.{IsGoodStore, IsGoodMade}
use Rattle.t3_good_values.proofs.Lists.{IfThere, all-append}
use Rattle.t3_good_values.proofs.Outcomes.{good-found, good-text_of, good-list_of, good-made}
use Rattle.t3_good_values.proofs.Arithmetic.{IsNumber, number-fits}
use Rattle.t3_good_values.proofs.Utf8.{utf8-true, utf8-signed}
use Rattle.t3_good_values.proofs.Parts.{AreGiven, HasUtf8, HasGoodItems, HasGoodContents, good-utf8, good-items, good-contents}

-- what an operation comes to makes or is what is good, if it is no fault
abbrev pub IsGoodOutcome : (Holder → Type 0) → Result Made Fault → Type 0
IsGoodOutcome Good result = IsGoodResult (IsGoodMade Good) result

-- ---- text forms

utf8-word : {Good : Holder → Type 0} → IsClosed Good → (nil_text : List ℕ) → IsUtf8 nil_text → (value : Holder) → Good value
    → IfThere (IfThere IsUtf8) (option_map Some (word_of nil_text value))
utf8-word closed nil_text utf8 holders.Nil good = utf8
utf8-word closed nil_text utf8 holders.True good = utf8-true
utf8-word closed nil_text utf8 (holders.Int z) good = utf8-signed z (closed.integers z good)
utf8-word closed nil_text utf8 value good = tt

utf8-by : {Good : Holder → Type 0} → IsClosed Good → (nil_text : List ℕ) → IsUtf8 nil_text → (shape : TextOrList) → HasUtf8 shape
    → (value : Holder) → Good value → IfThere (IfThere IsUtf8) (text_form_by nil_text shape value)
utf8-by closed nil_text utf8 (OfText bytes) has value good = has
utf8-by closed nil_text utf8 (OfList items) has value good = tt
utf8-by closed nil_text utf8 Neither has value good = utf8-word closed nil_text utf8 value good

pub utf8-form : {Good : Holder → Type 0} {constants : Pool} {store : StoreValue} → AreGiven Good constants store → (nil_text : List ℕ)
    → IsUtf8 nil_text → (value : Holder) → Good value → IfThere (IfThere IsUtf8) (text_form_of nil_text constants store value)
utf8-form {Good} {constants} {store} given nil_text utf8 value good =
    utf8-by given.closed nil_text utf8 (text_or_list_of constants store value) (good-utf8 given.store_good constants value) value good

-- ---- sums

good-joined : (Good : Holder → Type 0) (x y : Option (List ℕ)) → IfThere IsUtf8 x → IfThere IsUtf8 y
    → IsGoodOutcome Good (joined_texts_of x y)
good-joined Good None y utf8 also = tt
good-joined Good (Some xs) None utf8 also = tt
good-joined Good (Some xs) (Some ys) utf8 also =
    good-made Good (fitting_text_of (xs ++ ys)) (good-text_of Good (xs ++ ys) (IsUtf8-append xs ys utf8 also))

good-text_sum : (Good : Holder → Type 0) (fault : Fault) (x : Option (List ℕ)) (y : Option (Option (List ℕ))) → IfThere IsUtf8 x
    → IfThere (IfThere IsUtf8) y → IsGoodOutcome Good (text_sum fault x y)
good-text_sum Good fault x None utf8 also = tt
good-text_sum Good fault x (Some y) utf8 also = good-joined Good x y utf8 also

good-list_sum : (Good : Holder → Type 0) (x y : Option (List Holder)) → IfThere (AllByRecursion Good) x → IfThere (AllByRecursion Good) y
    → IsGoodOutcome Good (list_sum x y)
good-list_sum Good None y all also = tt
good-list_sum Good (Some xs) None all also = tt
good-list_sum Good (Some xs) (Some ys) all also =
    good-made Good (fitting_list_of (xs ++ ys)) (good-list_of Good (xs ++ ys) (all-append Good xs ys all also))

pub good-integer_value : {Good : Holder → Type 0} → IsClosed Good → (result : Result ℤ Fault) → IsNumber result
    → IsGoodOutcome Good (integer_value result)
good-integer_value closed (Ok z) fits = closed.integer z fits
good-integer_value closed (Err fault) fits = tt

good-number_sum : {Good : Holder → Type 0} → IsClosed Good → (x : ℤ) (y : Option ℤ) → IsGoodOutcome Good (number_sum x y)
good-number_sum {Good} closed x y =
    good-found (IsGoodMade Good) Kind y (λ y. integer_value (arith_of Add x y))
    (λ y. good-integer_value closed (arith_of Add x y) (number-fits (x +ℤ y)))

added-by : (Good : Holder → Type 0) (value : Holder) → Good value → (container : Container) → HasGoodContents Good container
    → IfThere (AllByRecursion Good) (added_by value container)
added-by Good value good (OfElements items) all = all
added-by Good value good (OfEntries pairs default) all = (good, tt)
added-by Good value good NoContainer all = (good, tt)

good-added : {Good : Holder → Type 0} {constants : Pool} {store : StoreValue} → AreGiven Good constants store → (value : Holder)
    → Good value
    → IfThere (AllByRecursion Good) (added_elements constants store value)
good-added {Good} {constants} {store} given value good =
    added-by Good value good (container_of constants store value) (good-contents given value good)

good-by : {Good : Holder → Type 0} {constants : Pool} {store : StoreValue} → AreGiven Good constants store → (x y : Holder) → Good y
    → (shape : TextOrList) → HasUtf8 shape → HasGoodItems Good shape → IsGoodOutcome Good (sum_by constants store x y shape)
good-by {Good} {constants} {store} given x y also (OfText bytes) utf8 items =
    good-text_sum Good (kind_fault store (y ∷ [])) bytes (text_form_of [] constants store y) utf8 (utf8-form given [] IsUtf8-nil y also)
good-by {Good} {constants} {store} given x y also (OfList elements) utf8 items =
    good-list_sum Good elements (added_elements constants store y) items (good-added given y also)
good-by given x y also Neither utf8 items = tt

good-or : {Good : Holder → Type 0} → IsClosed Good → (x y : Option ℤ) (otherwise : Result Made Fault) → IsGoodOutcome Good otherwise
    → IsGoodOutcome Good (number_sum_or x y otherwise)
good-or closed (Some x) y otherwise good = good-number_sum closed x y
good-or closed None y otherwise good = good

pub sum_of-good : (Good : Holder → Type 0) (constants : Pool) (store : StoreValue) (x y : Holder) → IsClosed Good
    → HasGoodConstants Good constants
    → IsGoodStore Good store → Good x → Good y → IsGoodOutcome Good (sum_of constants store x y)
sum_of-good Good constants store x y closed listed stored good also =
    let given : AreGiven Good constants store = record { closed = closed; constants_good = listed; store_good = stored } in
    good-or closed (integer x) (integer y) (sum_by constants store x y (text_or_list_of constants store x))
    (good-by given x y also (text_or_list_of constants store x) (good-utf8 stored constants x) (good-items given x good))
