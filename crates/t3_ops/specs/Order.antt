-- The order of two values: integers by number, and texts by bytes (the chapter on the machine).
use Rattle.std.specs.Prelude.{ℕ, ℤ, List, [], ◌∷◌, Option, Some, None, Result, Ok, Err}
use Rattle.std.specs.declared.cmp.Ordering.{Ordering}
use Rattle.std.specs.Ordering.{nat_cmp, int_cmp}
use Rattle.std.specs.Cmp.Lexicographic.{slice_cmp}
use Rattle.t3_holder.specs.declared.holder.Holder.{Holder}
use Rattle.t3_pools.specs.Pool.{Pool}
use Rattle.t3_store.specs.Store.{StoreValue}
use Rattle.t3_ops.specs.declared.fault.Fault.{Fault}
use Rattle.t3_ops.specs.declared.fault.Fault.TheVariants.{BadConstant}
use Rattle.t3_ops.specs.Values.{TextOrList, OfText, text_or_list_of, integer, kind_fault}

-- two texts by bytes, where both can be read
abbrev pub bytes_order : Option (List ℕ) → Option (List ℕ) → Result Ordering Fault
bytes_order (Some x) (Some y) = Ok (slice_cmp nat_cmp x y)
bytes_order (Some x) None = Err BadConstant
bytes_order None _ = Err BadConstant

-- two texts by bytes, and this fault for anything else
abbrev pub texts_order : Fault → TextOrList → TextOrList → Result Ordering Fault
texts_order fault (OfText x) (OfText y) = bytes_order x y
texts_order fault _ _ = Err fault

-- two integers by number, and this for anything else
abbrev pub numbers_order : Option ℤ → Option ℤ → Result Ordering Fault → Result Ordering Fault
numbers_order (Some x) (Some y) others = Ok (int_cmp x y)
numbers_order _ _ others = others

-- how the left value is to the right one; a stale reference is told first, then another kind, and then a constant that can't be read
abbrev pub order_of : Pool → StoreValue → Holder → Holder → Result Ordering Fault
order_of constants store x y =
    numbers_order (integer x) (integer y)
    (texts_order (kind_fault store (x ∷ y ∷ [])) (text_or_list_of constants store x) (text_or_list_of constants store y))
