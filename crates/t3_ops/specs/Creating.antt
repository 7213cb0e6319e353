-- The values of new objects, from the arguments of their creation, of which the first is the topmost operand (the chapters on
-- metaclasses, in this project's profile).
use Rattle.std.specs.Prelude.{ℤ, pos, List, [], ◌∷◌, Option, Some, None, Result, Ok, Err, replicate}
use Rattle.t3_holder.specs.declared.holder.Holder.{Holder}
use Rattle.t3_holder.specs.declared.holder.Holder.TheVariants.{Nil}
use Rattle.t3_pools.specs.Pool.{Pool}
use Rattle.t3_store.specs.Value.{Value, Table}
use Rattle.t3_store.specs.Store.{StoreValue}
use Rattle.t3_ops.specs.declared.fault.Fault.{Fault}
use Rattle.t3_ops.specs.declared.fault.Fault.TheVariants.{ArgCount}
use Rattle.t3_ops.specs.Values.{TextOrList, OfText, OfList, Neither, text_or_list_of, integer, kind_fault}
use Rattle.t3_ops.specs.Containers.{Container, OfElements, OfEntries, NoContainer, container_of}
use Rattle.t3_ops.specs.Making.{when_integer, when_read, when_in_range, count_of, fitting_text_of, fitting_list_of, fitting_vector_of}

-- ---- a string: of the bytes of a text

abbrev pub string_by : Fault → TextOrList → Result Value Fault
string_by fault (OfText bytes) = when_read bytes fitting_text_of
string_by fault (OfList _) = Err fault
string_by fault Neither = Err fault

abbrev pub new_string_of : Pool → StoreValue → List Holder → Result Value Fault
new_string_of constants store (text ∷ []) = string_by (kind_fault store (text ∷ [])) (text_or_list_of constants store text)
new_string_of constants store _ = Err ArgCount

-- ---- a list: of its arguments

abbrev pub new_list_of : List Holder → Result Value Fault
new_list_of args = fitting_list_of args

-- ---- a table: without entries, and with nil as its default; two integers aren't used

abbrev pub empty_table : Value
empty_table = Table [] Nil

abbrev pub table_of_two : Option ℤ → Option ℤ → Result Value Fault
table_of_two x y = when_integer x (λ _. when_integer y (λ _. Ok empty_table))

abbrev pub new_table_of : List Holder → Result Value Fault
new_table_of [] = Ok empty_table
new_table_of (x ∷ y ∷ []) = table_of_two (integer x) (integer y)
new_table_of _ = Err ArgCount

-- ---- a vector: of nils, by their count, or of the elements of a list or a vector

pub data Filling : Type 0 where
  Nils : (count : ℤ) → Filling
  Elements : (elements : Option (List Holder)) → Filling

abbrev pub element_filling : Fault → Container → Result Filling Fault
element_filling fault (OfElements elements) = Ok (Elements elements)
element_filling fault (OfEntries _ _) = Err fault
element_filling fault NoContainer = Err fault

abbrev pub nils_or : Option ℤ → Result Filling Fault → Result Filling Fault
nils_or (Some count) otherwise = Ok (Nils count)
nils_or None otherwise = otherwise

abbrev pub filling_of : Pool → StoreValue → Holder → Result Filling Fault
filling_of constants store value =
    nils_or (integer value) (element_filling (kind_fault store (value ∷ [])) (container_of constants store value))

abbrev pub filled_vector : Filling → Result Value Fault
filled_vector (Nils count) = when_in_range (count_of count) (λ count. fitting_vector_of (replicate count Nil))
filled_vector (Elements elements) = when_read elements fitting_vector_of

-- the fault of the filling's kind comes first, then that of a size that is no integer, then those of numbers, then that of a constant
abbrev pub vector_by : Option ℤ → Result Filling Fault → Result Value Fault
vector_by size (Err fault) = Err fault
vector_by size (Ok filling) = when_integer size (λ size. when_in_range (count_of size) (λ _. filled_vector filling))

-- the size is tested, and then not used
abbrev pub new_vector_of : Pool → StoreValue → List Holder → Result Value Fault
new_vector_of constants store (size ∷ []) = vector_by (integer size) (Ok (Nils (pos 0)))
new_vector_of constants store (size ∷ filling ∷ []) = vector_by (integer size) (filling_of constants store filling)
new_vector_of constants store _ = Err ArgCount
