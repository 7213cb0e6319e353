-- The built-in functions that make one object at most and change nothing else (the chapter on function sets, in this project's profile).
use Rattle.std.specs.Prelude.{ℕ, ℤ, pos, neg_ℤ, ◌+◌, ◌-◌, ◌*◌, ◌==◌, Bool, true, false, ◌&&◌, ◌||◌, nat_lt, nat_le, codes, List, [], ◌∷◌, length, Option, Some, None, is_some, Result, Ok, Err, if◌then◌else◌}
use Rattle.std.specs.List.{list_all, find, repeat}
use Rattle.std.specs.declared.cmp.Ordering.{Ordering}
use Rattle.std.specs.Ordering.{is_lt, is_gt}
use Rattle.std.specs.Char.{encode_utf8}
use Rattle.t3_holder.specs.declared.holder.Holder.{Holder}
use Rattle.t3_holder.specs.declared.holder.Holder.TheVariants as holders
use Rattle.t3_holder.specs.HolderText.{tag_of}
use Rattle.t3_pools.specs.Pool.{Pool}
use Rattle.t3_store.specs.Store.{StoreValue}
use Rattle.t3_ops.specs.declared.fault.Fault.{Fault}
use Rattle.t3_ops.specs.declared.fault.Fault.TheVariants.{ArgCount, NoBuiltin}
use Rattle.t3_ops.specs.declared.builtins.PureBuiltin.{PureBuiltin}
use Rattle.t3_ops.specs.declared.builtins.PureBuiltin.TheVariants as builtins
use Rattle.t3_ops.specs.Arithmetic.{number}
use Rattle.t3_ops.specs.Values.{TextOrList, OfText, OfList, Neither, text_or_list_of, integer, kind_fault}
use Rattle.t3_ops.specs.Order.{order_of}
use Rattle.t3_ops.specs.Making.{Made, AsIs, when_integer, when_read, when_in_range, count_of, new_object, fitting_text_of}
use Rattle.t3_ops.specs.Adding.{text_form_of, integer_value}

-- ---- the table

-- a function by its index in its set, its name, and the least and the greatest count of its arguments, if there is a greatest
pub record BuiltinRow : Type 0 where
  pub index : ℕ
  pub name : List ℕ
  pub least : ℕ
  pub most : Option ℕ

abbrev function_row : ℕ → List ℕ → ℕ → Option ℕ → BuiltinRow
function_row index name least most = record { index = index; name = name; least = least; most = most }

-- index, name, least and most arguments
abbrev pub row_of : PureBuiltin → BuiltinRow
row_of builtins.DataType = function_row 0 (codes "dataType") 1 (Some 1)
row_of builtins.ToString = function_row 6 (codes "toString") 1 (Some 1)
row_of builtins.ToInteger = function_row 7 (codes "toInteger") 1 (Some 1)
row_of builtins.Max = function_row 18 (codes "max") 1 None
row_of builtins.Min = function_row 19 (codes "min") 1 None
row_of builtins.MakeString = function_row 20 (codes "makeString") 1 (Some 2)

-- each of them
abbrev pub every : List PureBuiltin
every = builtins.DataType ∷ builtins.ToString ∷ builtins.ToInteger ∷ builtins.Max ∷ builtins.Min ∷ builtins.MakeString ∷ []

-- the function of an index
abbrev pub pure_at : ℕ → Option PureBuiltin
pure_at index = find (λ builtin. (row_of builtin).index == index) every

abbrev pub is_at_most : ℕ → Option ℕ → Bool
is_at_most count None = true
is_at_most count (Some most) = nat_le count most

-- whether that count of arguments is taken
abbrev pub takes : BuiltinRow → ℕ → Bool
takes row count = nat_le row.least count && is_at_most count row.most

-- ---- dataType: the number of the type of a value

abbrev pub data_type_of : Holder → Result Made Fault
data_type_of value = Ok (AsIs (holders.Int (pos (tag_of value))))

-- ---- toString: a new string of the text form of a value, in which nil is a word

abbrev pub text_copy_of : Option (List ℕ) → Result Made Fault
text_copy_of bytes = when_read bytes (λ bytes. new_object (fitting_text_of bytes))

abbrev pub string_or : Fault → Option (Option (List ℕ)) → Result Made Fault
string_or fault None = Err fault
string_or fault (Some bytes) = text_copy_of bytes

abbrev pub to_string_of : Pool → StoreValue → Holder → Result Made Fault
to_string_of constants store value =
    string_or (kind_fault store (value ∷ [])) (text_form_of (codes "nil") constants store value)

-- ---- toInteger: the integer that a value is, or that its text says

abbrev pub is_digit : ℕ → Bool
is_digit byte = nat_le 48 byte && nat_le byte 57

-- the number that digits give as far as they go, after those that gave n
abbrev pub leading_number_of : ℕ → List ℕ → ℕ
leading_number_of n [] = n
leading_number_of n (byte ∷ bytes) = if is_digit byte then leading_number_of (10 * n + (byte - 48)) bytes else n

-- the integer that a text begins with, after one `-` if there is one
abbrev pub signed_number_of : List ℕ → ℤ
signed_number_of [] = pos 0
signed_number_of (byte ∷ bytes) =
    if byte == 45 then neg_ℤ (pos (leading_number_of 0 bytes)) else pos (leading_number_of 0 (byte ∷ bytes))

-- the bytes after the spaces that a text begins with
abbrev pub after_spaces : List ℕ → List ℕ
after_spaces [] = []
after_spaces (byte ∷ bytes) = if byte == 32 then after_spaces bytes else byte ∷ bytes

abbrev pub text_integer_of : List ℕ → Result Made Fault
text_integer_of bytes = integer_value (number (signed_number_of (after_spaces bytes)))

abbrev pub plain_integer_of : Fault → Holder → Result Made Fault
plain_integer_of fault holders.Nil = Ok (AsIs (holders.Int (pos 0)))
plain_integer_of fault holders.True = Ok (AsIs (holders.Int (pos 1)))
plain_integer_of fault (holders.Int z) = Ok (AsIs (holders.Int z))
plain_integer_of fault _ = Err fault

abbrev pub to_integer_by : Fault → Holder → TextOrList → Result Made Fault
to_integer_by fault value (OfText bytes) = when_read bytes text_integer_of
to_integer_by fault value (OfList _) = Err fault
to_integer_by fault value Neither = plain_integer_of fault value

abbrev pub to_integer_of : Pool → StoreValue → Holder → Result Made Fault
to_integer_of constants store value =
    to_integer_by (kind_fault store (value ∷ [])) value (text_or_list_of constants store value)

-- ---- max and min: the first of the greatest, or of the least, values

abbrev pub is_integer : Holder → Bool
is_integer value = is_some (integer value)

abbrev pub is_text_by : TextOrList → Bool
is_text_by (OfText _) = true
is_text_by (OfList _) = false
is_text_by Neither = false

abbrev pub is_text : Pool → StoreValue → Holder → Bool
is_text constants store value = is_text_by (text_or_list_of constants store value)

-- all are integers, or all are texts
abbrev pub are_alike : Pool → StoreValue → List Holder → Bool
are_alike constants store values = list_all is_integer values || list_all (is_text constants store) values

-- whether a value takes the place of the best before it, by the order of that one to it: where the greatest is wanted, or the least
abbrev pub is_better : Bool → Ordering → Bool
is_better true order = is_lt order
is_better false order = is_gt order

abbrev pub best_after : Bool → Holder → Holder → Result Ordering Fault → (Holder → Result Made Fault) → Result Made Fault
best_after greatest best value (Err fault) rest = Err fault
best_after greatest best value (Ok order) rest = rest (if is_better greatest order then value else best)

-- the best of a value and of those that follow it
unfoldable pub best_of : Bool → Pool → StoreValue → List Holder → Holder → Result Made Fault
best_of greatest constants store [] best = Ok (AsIs best)
best_of greatest constants store (value ∷ values) best =
    best_after greatest best value (order_of constants store best value) (λ next. best_of greatest constants store values next)

-- the fault of their kinds comes before two are compared
abbrev pub extreme_of : Bool → Pool → StoreValue → List Holder → Result Made Fault
extreme_of greatest constants store [] = Err ArgCount
extreme_of greatest constants store (value ∷ values) =
    if are_alike constants store (value ∷ values) then best_of greatest constants store values value
    else Err (kind_fault store (value ∷ values))

-- ---- makeString: a new string of copies of a text, or of the character of an integer

-- a Unicode scalar value: from 0 to D7FF, or from E000 to 10FFFF
abbrev pub is_scalar : ℕ → Bool
is_scalar n = nat_lt n 0xD800 || (nat_le 0xE000 n && nat_lt n 0x11_0000)

abbrev pub character_of : ℤ → Option (List ℕ)
character_of (pos n) = if is_scalar n then Some (encode_utf8 n) else None
character_of _ = None

abbrev pub copies_of : List ℕ → ℕ → Result Made Fault
copies_of bytes count = new_object (fitting_text_of (repeat count bytes))

abbrev pub text_copies_of : Option (List ℕ) → ℤ → Result Made Fault
text_copies_of bytes count = when_in_range (count_of count) (λ count. when_read bytes (λ bytes. copies_of bytes count))

abbrev pub character_copies_of : ℤ → ℤ → Result Made Fault
character_copies_of code count =
    when_in_range (character_of code) (λ bytes. when_in_range (count_of count) (copies_of bytes))

-- of a value that is neither a text nor a list
abbrev pub plain_copies_of : Fault → Option ℤ → Option ℤ → Result Made Fault
plain_copies_of fault None count = Err fault
plain_copies_of fault (Some code) count = when_integer count (character_copies_of code)

-- the fault of what is no text and no integer comes first, then that of a count that is no integer, then those of numbers
abbrev pub make_string_by : Fault → Option ℤ → Option ℤ → TextOrList → Result Made Fault
make_string_by fault code count (OfText bytes) = when_integer count (text_copies_of bytes)
make_string_by fault code count (OfList _) = Err fault
make_string_by fault code count Neither = plain_copies_of fault code count

-- how many copies: 1 where nothing is said
abbrev pub copy_count : List Holder → Holder
copy_count (value ∷ count ∷ _) = count
copy_count _ = holders.Int (pos 1)

abbrev pub make_string_of : Pool → StoreValue → Holder → Holder → Result Made Fault
make_string_of constants store value count =
    make_string_by (kind_fault store (value ∷ [])) (integer value) (integer count) (text_or_list_of constants store value)

-- ---- what a function comes to

-- that of a first argument
abbrev pub of_first : (Holder → Result Made Fault) → List Holder → Result Made Fault
of_first result [] = Err ArgCount
of_first result (value ∷ _) = result value

-- of arguments whose count it takes; the first is the topmost operand
abbrev pub result_of : Pool → StoreValue → PureBuiltin → List Holder → Result Made Fault
result_of constants store builtins.DataType args = of_first data_type_of args
result_of constants store builtins.ToString args = of_first (to_string_of constants store) args
result_of constants store builtins.ToInteger args = of_first (to_integer_of constants store) args
result_of constants store builtins.Max args = extreme_of true constants store args
result_of constants store builtins.Min args = extreme_of false constants store args
result_of constants store builtins.MakeString args = of_first (λ value. make_string_of constants store value (copy_count args)) args

-- the fault of their count comes first
abbrev pub counted_result : Pool → StoreValue → PureBuiltin → List Holder → Result Made Fault
counted_result constants store builtin args =
    if takes (row_of builtin) (length args) then result_of constants store builtin args else Err ArgCount

abbrev pub builtin_by : Pool → StoreValue → Option PureBuiltin → List Holder → Result Made Fault
builtin_by constants store None args = Err NoBuiltin
builtin_by constants store (Some builtin) args = counted_result constants store builtin args

-- by the index of a function
abbrev pub pure_builtin_of : Pool → StoreValue → ℕ → List Holder → Result Made Fault
pure_builtin_of constants store index args = builtin_by constants store (pure_at index) args
