-- What values are to an operation: integers, texts, lists, and references to objects that aren't there (the chapter on the machine).
use Rattle.std.specs.Prelude.{ℕ, ℤ, Bool, false, ◌==◌, ◌&&◌, List, Option, Some, None, is_none, if◌then◌else◌}
use Rattle.std.specs.List.{list_any}
use Rattle.t3_holder.specs.declared.holder.Holder.{Holder}
use Rattle.t3_holder.specs.declared.holder.Holder.TheVariants as holders
use Rattle.t3_holder.specs.HolderText.{tag_of, bits_of}
use Rattle.t3_pools.specs.Pool.{Pool}
use Rattle.t3_pools.specs.Constants.{text_in, list_in}
use Rattle.t3_store.specs.Value.{Value, Text, Items}
use Rattle.t3_store.specs.Store.{StoreValue, value_at}
use Rattle.t3_ops.specs.declared.fault.Fault.{Fault}
use Rattle.t3_ops.specs.declared.fault.Fault.TheVariants.{Kind, Stale}

-- the integer that a value is, if it is one
abbrev pub integer : Holder → Option ℤ
integer (holders.Int z) = Some z
integer _ = None

-- two holders are the same: of one type, with the same bits in it
abbrev pub same_holder : Holder → Holder → Bool
same_holder x y = tag_of x == tag_of y && bits_of x == bits_of y

-- a reference to an object that isn't there
abbrev pub is_stale : StoreValue → Holder → Bool
is_stale store (holders.Obj number) = is_none (value_at store number)
is_stale store _ = false

-- the fault of values of other kinds than are wanted, where objects among them are needed: a stale reference comes first
abbrev pub kind_fault : StoreValue → List Holder → Fault
kind_fault store values = if list_any (is_stale store) values then Stale else Kind

-- a value that is a text, with its bytes, or a list, with its elements, or neither. Where a constant can't be read, these are `None`
pub data TextOrList : Type 0 where
  OfText : (bytes : Option (List ℕ)) → TextOrList
  OfList : (elements : Option (List Holder)) → TextOrList
  Neither : TextOrList

abbrev pub object_text_or_list : Option Value → TextOrList
object_text_or_list (Some (Text bytes)) = OfText (Some bytes)
object_text_or_list (Some (Items items)) = OfList (Some items)
object_text_or_list (Some _) = Neither
object_text_or_list None = Neither

-- a text is a constant string or a live string, and a list a constant list or a live list
abbrev pub text_or_list_of : Pool → StoreValue → Holder → TextOrList
text_or_list_of constants store (holders.Text address) = OfText (text_in constants address)
text_or_list_of constants store (holders.List address) = OfList (list_in constants address)
text_or_list_of constants store (holders.Obj number) = object_text_or_list (value_at store number)
text_or_list_of constants store _ = Neither
