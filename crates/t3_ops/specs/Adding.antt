-- The sum of two values, in which the left one decides what is summed (the chapter on the instruction set, in this project's profile).
use Rattle.std.specs.Prelude.{ℕ, ℤ, codes, List, [], ◌∷◌, ◌++◌, Option, Some, None, option_map, Result, Ok, Err}
use Rattle.std.specs.Fmt.{signed_decimal}
use Rattle.t3_holder.specs.declared.holder.Holder.{Holder}
use Rattle.t3_holder.specs.declared.holder.Holder.TheVariants as holders
use Rattle.t3_pools.specs.Pool.{Pool}
use Rattle.t3_store.specs.Store.{StoreValue}
use Rattle.t3_ops.specs.Arithmetic.{arith_of}
use Rattle.t3_ops.specs.declared.arithmetic.ArithOp.TheVariants.{Add}
use Rattle.t3_ops.specs.declared.fault.Fault.{Fault}
use Rattle.t3_ops.specs.Values.{TextOrList, OfText, OfList, Neither, text_or_list_of, integer, kind_fault}
use Rattle.t3_ops.specs.Containers.{Container, OfElements, OfEntries, NoContainer, container_of}
use Rattle.t3_ops.specs.Making.{Made, AsIs, when_integer, when_read, new_object, fitting_text_of, fitting_list_of}

-- ---- the text form of a value, as it is added to a text

-- that of a value that is no text: `true`, an integer in decimal, and of nil what `nil_text` says
abbrev pub word_of : List ℕ → Holder → Option (List ℕ)
word_of nil_text holders.Nil = Some nil_text
word_of nil_text holders.True = Some (codes "true")
word_of nil_text (holders.Int z) = Some (signed_decimal z)
word_of nil_text _ = None

abbrev pub text_form_by : List ℕ → TextOrList → Holder → Option (Option (List ℕ))
text_form_by nil_text (OfText bytes) value = Some bytes
text_form_by nil_text (OfList _) value = None
text_form_by nil_text Neither value = option_map Some (word_of nil_text value)

-- the text form of a value, if it has one; that of a constant that can't be read is `Some None`
abbrev pub text_form_of : List ℕ → Pool → StoreValue → Holder → Option (Option (List ℕ))
text_form_of nil_text constants store value = text_form_by nil_text (text_or_list_of constants store value) value

-- ---- what a value adds to a list: the elements of a list or a vector, or else itself

abbrev pub added_by : Holder → Container → Option (List Holder)
added_by value (OfElements elements) = elements
added_by value (OfEntries _ _) = Some (value ∷ [])
added_by value NoContainer = Some (value ∷ [])

abbrev pub added_elements : Pool → StoreValue → Holder → Option (List Holder)
added_elements constants store value = added_by value (container_of constants store value)

-- ---- sums

abbrev pub joined_texts_of : Option (List ℕ) → Option (List ℕ) → Result Made Fault
joined_texts_of x y = when_read x (λ xs. when_read y (λ ys. new_object (fitting_text_of (xs ++ ys))))

-- a text and what is added to it; the fault of a value without a text form comes before that of a constant
abbrev pub text_sum : Fault → Option (List ℕ) → Option (Option (List ℕ)) → Result Made Fault
text_sum fault x None = Err fault
text_sum fault x (Some y) = joined_texts_of x y

abbrev pub list_sum : Option (List Holder) → Option (List Holder) → Result Made Fault
list_sum x y = when_read x (λ xs. when_read y (λ ys. new_object (fitting_list_of (xs ++ ys))))

-- an integer as a value
abbrev pub integer_value : Result ℤ Fault → Result Made Fault
integer_value (Ok z) = Ok (AsIs (holders.Int z))
integer_value (Err fault) = Err fault

abbrev pub number_sum : ℤ → Option ℤ → Result Made Fault
number_sum x y = when_integer y (λ y. integer_value (arith_of Add x y))

abbrev pub sum_by : Pool → StoreValue → Holder → Holder → TextOrList → Result Made Fault
sum_by constants store x y (OfText bytes) = text_sum (kind_fault store (y ∷ [])) bytes (text_form_of [] constants store y)
sum_by constants store x y (OfList elements) = list_sum elements (added_elements constants store y)
sum_by constants store x y Neither = Err (kind_fault store (x ∷ []))

abbrev pub number_sum_or : Option ℤ → Option ℤ → Result Made Fault → Result Made Fault
number_sum_or (Some x) y otherwise = number_sum x y
number_sum_or None y otherwise = otherwise

abbrev pub sum_of : Pool → StoreValue → Holder → Holder → Result Made Fault
sum_of constants store x y =
    number_sum_or (integer x) (integer y) (sum_by constants store x y (text_or_list_of constants store x))
