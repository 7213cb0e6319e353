-- The built-in functions that make one object at most answer what is good. Other crates may use pure_builtin_of-good.
use Rattle.std.proofs.Common.{◌<◌, ◌^◌, arith, ℕ, ℤ, pos, Bool, true, false, List, [], ◌∷◌, length, Option, Some, None, Result, Ok, Err, if◌then◌else◌}
use Rattle.std.specs.Prelude.{codes}
use Rattle.std.specs.declared.cmp.Ordering.{Ordering}
use Rattle.std.specs.List.{AllByRecursion, repeat}
use Rattle.std.specs.Str.{IsUtf8}
use Rattle.t3_holder.specs.HolderText.{tag_of}
use Rattle.t3_holder.specs.declared.holder.Holder.{Holder}
use Rattle.t3_holder.specs.declared.holder.Holder.TheVariants as holders
use Rattle.t3_pools.specs.Pool.{Pool}
use Rattle.t3_store.specs.Store.{StoreValue}
use Rattle.t3_ops.specs.declared.fault.Fault.{Fault}
use Rattle.t3_ops.specs.declared.fault.Fault.TheVariants.{ArgCount, Kind, IndexRange, BadConstant}
use Rattle.t3_ops.specs.declared.builtins.PureBuiltin.{PureBuiltin}
use Rattle.t3_ops.specs.declared.builtins.PureBuiltin.TheVariants as builtins
use Rattle.t3_ops.specs.Arithmetic.{number}
use Rattle.t3_ops.specs.Values.{TextOrList, OfText, OfList, Neither, text_or_list_of, integer, kind_fault}
use Rattle.t3_ops.specs.Order.{order_of}
use Rattle.t3_ops.specs.Making.{Made, when_in_range, when_read, count_of, fitting_text_of}
use Rattle.t3_ops.specs.Adding.{text_form_of}
use Rattle.t3_ops.specs.Builtins.{row_of, pure_at, takes, data_type_of, text_copy_of, string_or, to_string_of, signed_number_of, after_spaces, text_integer_of, plain_integer_of, to_integer_by, to_integer_of, are_alike, is_better, best_after, best_of, extreme_of, copies_of, character_of, text_copies_of, character_copies_of, plain_copies_of, make_string_by, copy_count, make_string_of, of_first, result_of, builtin_by, pure_builtin_of}
use Rattle.t3_good_values.specs.Values.{IsClosed, HasGoodConstants}
use Rattle.t3_good_values.specs.Stores.{IsGoodStore, IsGoodMade}
use Rattle.t3_good_values.proofs.Lists.{IfThere}
use Rattle.t3_good_values.proofs.Outcomes.{good-needed, good-found, good-if, good-text_of, good-made}
use Rattle.t3_good_values.proofs.Arithmetic.{number-fits}
use Rattle.t3_good_values.proofs.Utf8.{utf8-nil, utf8-repeat, utf8-character}
use Rattle.t3_good_values.proofs.Parts.{AreGiven, HasUtf8, good-utf8}
use Rattle.t3_good_values.proofs.Sums.{IsGoodOutcome, utf8-form, good-integer_value}

-- ---- types

low-tag : (value : Holder) → tag_of value < 2 ^ 31
low-tag holders.Nil = omega arith
low-tag holders.True = omega arith
low-tag (holders.Obj number) = omega arith
low-tag (holders.Prop number) = omega arith
low-tag (holders.Int number) = omega arith
low-tag (holders.Text address) = omega arith
low-tag (holders.Shown address) = omega arith
low-tag (holders.List address) = omega arith
low-tag (holders.Code address) = omega arith
low-tag (holders.Func address) = omega arith
low-tag (holders.Enum number) = omega arith

-- a number below 2^31 is an integer
pub good-small : {Good : Holder → Type 0} → IsClosed Good → (n : ℕ) → n < 2 ^ 31 → Good (holders.Int (pos n))
good-small closed n less = closed.integer (pos n) (record { sfits = less })

-- ---- strings

good-copy : (Good : Holder → Type 0) (bytes : Option (List ℕ)) → IfThere IsUtf8 bytes → IsGoodOutcome Good (text_copy_of bytes)
good-copy Good None utf8 = tt
good-copy Good (Some bytes) utf8 = good-made Good (fitting_text_of bytes) (good-text_of Good bytes utf8)

good-string_or : (Good : Holder → Type 0) (fault : Fault) (form : Option (Option (List ℕ))) → IfThere (IfThere IsUtf8) form
    → IsGoodOutcome Good (string_or fault form)
good-string_or Good fault None utf8 = tt
good-string_or Good fault (Some bytes) utf8 = good-copy Good bytes utf8

good-copies : (Good : Holder → Type 0) (bytes : List ℕ) → IsUtf8 bytes → (count : ℕ) → IsGoodOutcome Good (copies_of bytes count)
good-copies Good bytes utf8 count =
    good-made Good (fitting_text_of (repeat count bytes)) (good-text_of Good (repeat count bytes) (utf8-repeat count bytes utf8))

good-text_copies : (Good : Holder → Type 0) (bytes : Option (List ℕ)) → IfThere IsUtf8 bytes → (count : ℤ)
    → IsGoodOutcome Good (text_copies_of bytes count)
good-text_copies Good bytes utf8 count =
    good-found (IsGoodMade Good) IndexRange (count_of count) (λ count. when_read bytes (λ bytes. copies_of bytes count))
    (λ count. good-needed IsUtf8 (IsGoodMade Good) BadConstant bytes (λ bytes. copies_of bytes count) utf8
    (λ bytes utf8. good-copies Good bytes utf8 count))

good-character_copies : (Good : Holder → Type 0) (code count : ℤ) → IsGoodOutcome Good (character_copies_of code count)
good-character_copies Good code count =
    good-needed IsUtf8 (IsGoodMade Good) IndexRange (character_of code) (λ bytes. when_in_range (count_of count) (copies_of bytes))
    (utf8-character code)
    (λ bytes utf8. good-found (IsGoodMade Good) IndexRange (count_of count) (copies_of bytes) (good-copies Good bytes utf8))

good-plain_copies : (Good : Holder → Type 0) (fault : Fault) (code count : Option ℤ) → IsGoodOutcome Good (plain_copies_of fault code count)
good-plain_copies Good fault None count = tt
good-plain_copies Good fault (Some code) count =
    good-found (IsGoodMade Good) Kind count (character_copies_of code) (good-character_copies Good code)

good-make_string : (Good : Holder → Type 0) (fault : Fault) (code count : Option ℤ) (shape : TextOrList) → HasUtf8 shape
    → IsGoodOutcome Good (make_string_by fault code count shape)
good-make_string Good fault code count (OfText bytes) utf8 =
    good-found (IsGoodMade Good) Kind count (text_copies_of bytes) (good-text_copies Good bytes utf8)
good-make_string Good fault code count (OfList items) utf8 = tt
good-make_string Good fault code count Neither utf8 = good-plain_copies Good fault code count

-- ---- integers

good-plain_integer : {Good : Holder → Type 0} → IsClosed Good → (fault : Fault) (value : Holder) → Good value
    → IsGoodOutcome Good (plain_integer_of fault value)
good-plain_integer closed fault holders.Nil good = good-small closed 0 (omega arith)
good-plain_integer closed fault holders.True good = good-small closed 1 (omega arith)
good-plain_integer closed fault (holders.Int z) good = good
good-plain_integer closed fault value good = tt

good-to_integer : {Good : Holder → Type 0} → IsClosed Good → (fault : Fault) (value : Holder) → Good value → (shape : TextOrList)
    → IsGoodOutcome Good (to_integer_by fault value shape)
good-to_integer {Good} closed fault value good (OfText bytes) =
    good-found (IsGoodMade Good) BadConstant bytes text_integer_of
    (λ bytes. good-integer_value closed (number (signed_number_of (after_spaces bytes)))
    (number-fits (signed_number_of (after_spaces bytes))))
good-to_integer closed fault value good (OfList items) = tt
good-to_integer closed fault value good Neither = good-plain_integer closed fault value good

-- ---- the best of values

chosen : (Good : Holder → Type 0) (b : Bool) (value best : Holder) → Good value → Good best → Good (if b then value else best)
chosen Good true value best good also = good
chosen Good false value best good also = also

good-after : (Good : Holder → Type 0) (greatest : Bool) (best value : Holder) → Good best → Good value → (order : Result Ordering Fault)
    (rest : Holder → Result Made Fault) → ((next : Holder) → Good next → IsGoodOutcome Good (rest next))
    → IsGoodOutcome Good (best_after greatest best value order rest)
good-after Good greatest best value good also (Ok order) rest goes =
    goes (if is_better greatest order then value else best) (chosen Good (is_better greatest order) value best also good)
good-after Good greatest best value good also (Err fault) rest goes = tt

good-best : (Good : Holder → Type 0) (greatest : Bool) (constants : Pool) (store : StoreValue) (values : List Holder)
    → AllByRecursion Good values → (best : Holder) → Good best → IsGoodOutcome Good (best_of greatest constants store values best)
unfolding best_of
good-best Good greatest constants store [] all best good = good
good-best Good greatest constants store (value ∷ values) all best good =
    good-after Good greatest best value good all.0 (order_of constants store best value)
    (λ next. best_of greatest constants store values next)
    (good-best Good greatest constants store values all.1)

good-extreme : (Good : Holder → Type 0) (greatest : Bool) (constants : Pool) (store : StoreValue) (args : List Holder)
    → AllByRecursion Good args → IsGoodOutcome Good (extreme_of greatest constants store args)
good-extreme Good greatest constants store [] all = tt
good-extreme Good greatest constants store (value ∷ values) all =
    good-if (IsGoodMade Good) (are_alike constants store (value ∷ values)) (kind_fault store (value ∷ values))
    (best_of greatest constants store values value) (good-best Good greatest constants store values all.1 value all.0)

-- ---- all of them

good-of_first : (Good : Holder → Type 0) (result : Holder → Result Made Fault)
    → ((value : Holder) → Good value → IsGoodOutcome Good (result value))
    → (args : List Holder) → AllByRecursion Good args → IsGoodOutcome Good (of_first result args)
good-of_first Good result goes [] all = tt
good-of_first Good result goes (value ∷ values) all = goes value all.0

good-result : {Good : Holder → Type 0} {constants : Pool} {store : StoreValue} → AreGiven Good constants store → (builtin : PureBuiltin)
    (args : List Holder) → AllByRecursion Good args → IsGoodOutcome Good (result_of constants store builtin args)
good-result {Good} given builtins.DataType args all =
    good-of_first Good data_type_of (λ value good. good-small given.closed (tag_of value) (low-tag value)) args all
good-result {Good} {constants} {store} given builtins.ToString args all =
    good-of_first Good (to_string_of constants store)
    (λ value good. good-string_or Good (kind_fault store (value ∷ [])) (text_form_of (codes "nil") constants store value)
    (utf8-form given (codes "nil") utf8-nil value good)) args all
good-result {Good} {constants} {store} given builtins.ToInteger args all =
    good-of_first Good (to_integer_of constants store)
    (λ value good. good-to_integer given.closed (kind_fault store (value ∷ [])) value good (text_or_list_of constants store value)) args all
good-result {Good} {constants} {store} given builtins.Max args all = good-extreme Good true constants store args all
good-result {Good} {constants} {store} given builtins.Min args all = good-extreme Good false constants store args all
good-result {Good} {constants} {store} given builtins.MakeString args all =
    good-of_first Good (λ value. make_string_of constants store value (copy_count args))
    (λ value good. good-make_string Good (kind_fault store (value ∷ [])) (integer value) (integer (copy_count args))
    (text_or_list_of constants store value) (good-utf8 given.store_good constants value)) args all

good-by : {Good : Holder → Type 0} {constants : Pool} {store : StoreValue} → AreGiven Good constants store → (builtin : Option PureBuiltin)
    (args : List Holder) → AllByRecursion Good args → IsGoodOutcome Good (builtin_by constants store builtin args)
good-by given None args all = tt
good-by {Good} {constants} {store} given (Some builtin) args all =
    good-if (IsGoodMade Good) (takes (row_of builtin) (length args)) ArgCount (result_of constants store builtin args)
    (good-result given builtin args all)

pub pure_builtin_of-good : (Good : Holder → Type 0) (constants : Pool) (store : StoreValue) (index : ℕ) (args : List Holder) → IsClosed Good
    → HasGoodConstants Good constants → IsGoodStore Good store → AllByRecursion Good args
    → IsGoodOutcome Good (pure_builtin_of constants store index args)
pure_builtin_of-good Good constants store index args closed listed stored all =
    good-by (record { closed = closed; constants_good = listed; store_good = stored }) (pure_at index) args all
