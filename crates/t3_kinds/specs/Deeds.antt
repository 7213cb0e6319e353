-- Deeds of the shapes that most methods come to, and what methods need of self and of their arguments.
use Rattle.std.specs.Prelude.{ℕ, ℤ, pos, negsuc, Bool, true, false, List, [], ◌∷◌, Option, Some, None, Result, Ok, Err}
use Rattle.t3_holder.specs.declared.holder.Holder.{Holder}
use Rattle.t3_holder.specs.declared.holder.Holder.TheVariants as holders
use Rattle.t3_pools.specs.Pool.{Pool}
use Rattle.t3_store.specs.Value.{Value}
use Rattle.t3_store.specs.Store.{StoreValue}
use Rattle.t3_ops.specs.declared.fault.Fault.{Fault}
use Rattle.t3_ops.specs.Arithmetic.{number}
use Rattle.t3_ops.specs.Values.{TextOrList, OfText, OfList, Neither, text_or_list_of, integer, kind_fault}
use Rattle.t3_ops.specs.Making.{unless_none, when_integer, when_in_range}
use Rattle.t3_ops.specs.Indexing.{element_index_of}
use Rattle.t3_kinds.specs.Changes.{Makes, Deed}
use Rattle.t3_kinds.specs.declared.part.Part.{Part}

-- ---- deeds

-- nothing changes
abbrev pub answers : Holder → Result Deed Fault
answers value = Ok (record { changes = []; answer = value })

-- true or nil
abbrev pub truth_value : Bool → Holder
truth_value true = holders.True
truth_value false = holders.Nil

abbrev pub answers_truth : Bool → Result Deed Fault
answers_truth holds = answers (truth_value holds)

abbrev pub answers_integer : Result ℤ Fault → Result Deed Fault
answers_integer (Ok z) = answers (holders.Int z)
answers_integer (Err fault) = Err fault

-- a count as an integer
abbrev pub answers_count : ℕ → Result Deed Fault
answers_count count = answers_integer (number (pos count))

-- a new persistent object, which is the answer
abbrev pub answers_new : Result Value Fault → StoreValue → Result Deed Fault
answers_new (Ok value) store = Ok (record { changes = Makes value ∷ []; answer = holders.Obj store.next })
answers_new (Err fault) store = Err fault

-- ---- what is needed

-- goes on with what was found; else that fault
abbrev pub when_ok : {A B : Type 0} → Result A Fault → (A → Result B Fault) → Result B Fault
when_ok (Ok found) result = result found
when_ok (Err fault) result = Err fault

-- the bytes of a text, which aren't read yet
abbrev pub bytes_in : TextOrList → Option (Option (List ℕ))
bytes_in (OfText bytes) = Some bytes
bytes_in (OfList _) = None
bytes_in Neither = None

-- the elements of a list, which aren't read yet
abbrev pub elements_in : TextOrList → Option (Option (List Holder))
elements_in (OfList elements) = Some elements
elements_in (OfText _) = None
elements_in Neither = None

-- goes on with the bytes of the text that a value is; what is none is a fault
abbrev pub when_text : {A : Type 0} → Pool → StoreValue → Holder → (Option (List ℕ) → Result A Fault) → Result A Fault
when_text constants store value result =
    unless_none (kind_fault store (value ∷ [])) (bytes_in (text_or_list_of constants store value)) result

-- goes on with the elements of the list that a value is; what is none is a fault
abbrev pub when_list : {A : Type 0} → Pool → StoreValue → Holder → (Option (List Holder) → Result A Fault) → Result A Fault
when_list constants store value result =
    unless_none (kind_fault store (value ∷ [])) (elements_in (text_or_list_of constants store value)) result

-- ---- arguments

-- the first one; nil where there is none
abbrev pub first_of : List Holder → Holder
first_of [] = holders.Nil
first_of (first ∷ _) = first

abbrev pub second_of : List Holder → Option Holder
second_of [] = None
second_of (_ ∷ []) = None
second_of (_ ∷ second ∷ _) = Some second

-- ---- parts of texts and lists

-- a number that is 0 or more
abbrev pub size_of : ℤ → Option ℕ
size_of (pos n) = Some n
size_of (negsuc n) = None

abbrev pub part_after : Option ℕ → Option ℕ → Result Part Fault
part_after skipped count = when_in_range skipped (λ skipped. Ok (record { skipped = skipped; count = count }))

abbrev pub counted_part : Option ℕ → ℤ → Result Part Fault
counted_part skipped count =
    when_in_range skipped (λ skipped. when_in_range (size_of count) (λ count. Ok (record { skipped = skipped; count = Some count })))

-- a part from the item of a number on, from 1, with so many items at most where that is told. The kinds are tested before the numbers
abbrev pub part_of : Holder → Option Holder → Result Part Fault
part_of from None = when_integer (integer from) (λ from. part_after (element_index_of from) None)
part_of from (Some count) =
    when_integer (integer from) (λ from. when_integer (integer count) (λ count. counted_part (element_index_of from) count))
