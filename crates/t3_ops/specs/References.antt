-- The texts and lists that functions hand to each other: first by where they are, and then, once a constant was read, with bytes
-- and elements that are known to be there.
use Rattle.std.specs.Prelude.{◌≡◌, ℕ, Bool, true, false, ◌+◌, ◌*◌, ◌^◌, ◌<◌, List, [], ◌++◌, take, length, Option, Some, None, unwrap_or, IsSome}
use Rattle.t3_holder.specs.declared.holder.Holder.{Holder}
use Rattle.t3_holder.specs.declared.holder.Holder.TheVariants as holders
use Rattle.t3_pools.specs.Pool.{Pool}
use Rattle.t3_pools.specs.Constants.{bytes_in, holders_in, text_in, list_in}
use Rattle.t3_ops.specs.declared.values.TextRef.{TextRef}
use Rattle.t3_ops.specs.declared.values.TextRef.TheVariants as text_refs
use Rattle.t3_ops.specs.declared.values.ListRef.{ListRef}
use Rattle.t3_ops.specs.declared.values.ListRef.TheVariants as list_refs
use Rattle.t3_ops.specs.declared.values.TextBytes.{TextBytes}
use Rattle.t3_ops.specs.declared.values.TextBytes.TheVariants as texts
use Rattle.t3_ops.specs.declared.values.ListItems.{ListItems}
use Rattle.t3_ops.specs.declared.values.ListItems.TheVariants as lists
use Rattle.t3_ops.specs.declared.values.TextOrListRef.{TextOrListRef}
use Rattle.t3_ops.specs.declared.values.TextOrListRef.TheVariants as refs
use Rattle.t3_ops.specs.Values.{TextOrList, OfText, OfList, Neither}

-- a value that is neither a text, nor a list, nor a reference: the holder is all there is of it
abbrev pub is_plain : Holder → Bool
is_plain (holders.Text address) = false
is_plain (holders.List address) = false
is_plain (holders.Obj number) = false
is_plain _ = true

-- ---- where they are

abbrev pub text_of : Pool → TextRef → Option (List ℕ)
text_of constants (text_refs.Constant address) = text_in constants address
text_of constants (text_refs.Live bytes) = Some bytes.now

abbrev pub list_of : Pool → ListRef → Option (List Holder)
list_of constants (list_refs.Constant address) = list_in constants address
list_of constants (list_refs.Live items) = Some items.now

abbrev pub text_or_list_by : Pool → TextOrListRef → TextOrList
text_or_list_by constants (refs.Text text) = OfText (text_of constants text)
text_or_list_by constants (refs.List list) = OfList (list_of constants list)
text_or_list_by constants refs.Neither = Neither

-- ---- bytes and elements

-- the bytes of a text. Where they aren't all there, there are none: `IsTextBytes` says that they are
abbrev pub bytes_of : Pool → TextBytes → List ℕ
bytes_of constants (texts.Constant first length) = unwrap_or (bytes_in length constants first) []
bytes_of constants (texts.Live bytes) = bytes.now

-- all of its bytes are there, in the pool before 2^31
abbrev pub IsTextBytes : Pool → TextBytes → Type 0
IsTextBytes constants (texts.Constant first length) = IsSome (bytes_in length constants first) × (first + length < 2 ^ 31)
IsTextBytes constants (texts.Live bytes) = Unit {0}

-- the elements of a list
abbrev pub elements_of : Pool → ListItems → List Holder
elements_of constants (lists.Constant first count) = unwrap_or (holders_in count constants first) []
elements_of constants (lists.Live items) = items.now

-- all of its elements are there
abbrev pub IsListItems : Pool → ListItems → Type 0
IsListItems constants (lists.Constant first count) = IsSome (holders_in count constants first) × (first + 5 * count < 2 ^ 31)
IsListItems constants (lists.Live items) = Unit {0}

-- these are the first of those
abbrev pub IsPrefixOf : List ℕ → List ℕ → Type 0
IsPrefixOf xs ys = xs ≡ take (length xs) ys

-- ---- copies

-- the items were appended, and the answer is true; or they can't be read, and it is false
abbrev pub Appends : {A : Type 0} → List A → Option (List A) → Bool → List A → Type 0
Appends old None read new = read ≡ false
Appends old (Some items) read new = (read ≡ true) × (new ≡ old ++ items)
