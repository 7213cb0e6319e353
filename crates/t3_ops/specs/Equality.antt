-- When two values are equal: a walk over pairs of values, in which each pair that is looked at is a turn (the chapter on the
-- machine; how many turns an instruction has is this project's profile).
use Rattle.std.specs.Prelude.{◌≡◌, ℕ, zero, suc, Bool, true, false, nat_eq, ◌==◌, List, [], ◌∷◌, ◌++◌, length, Option, Some, None, Result, Ok, Err, if◌then◌else◌}
use Rattle.std.specs.Cmp.Lexicographic.{pointwise}
use Rattle.std.specs.List.{zip}
use Rattle.t3_holder.specs.declared.holder.Holder.{Holder}
use Rattle.t3_pools.specs.Pool.{Pool}
use Rattle.t3_store.specs.Store.{StoreValue}
use Rattle.t3_ops.specs.declared.equality.EqualRefusal.{EqualRefusal}
use Rattle.t3_ops.specs.declared.equality.EqualRefusal.TheVariants as refusals
use Rattle.t3_ops.specs.declared.fault.Fault.{Fault as FaultName}
use Rattle.t3_ops.specs.declared.fault.Fault.TheVariants.{CompareLong, BadConstant}
use Rattle.t3_ops.specs.Values.{TextOrList, OfText, OfList, text_or_list_of, same_holder}

-- pairs of values
abbrev pub Pairs : Type 0
Pairs = List (Holder × Holder)

-- what a pair of values is found to be: the same, different, not to be told since a constant can't be read, or two lists of one
-- length, whose pairs of elements tell it
pub data Comparison : Type 0 where
  Same : Comparison
  Different : Comparison
  Unreadable : Comparison
  Inside : (pairs : Pairs) → Comparison

abbrev pub same_or_different : Bool → Comparison
same_or_different true = Same
same_or_different false = Different

-- two texts are equal if their bytes are
abbrev pub texts_comparison : Option (List ℕ) → Option (List ℕ) → Comparison
texts_comparison (Some x) (Some y) = same_or_different (pointwise nat_eq x y)
texts_comparison (Some x) None = Unreadable
texts_comparison None _ = Unreadable

-- two lists are equal if they have the same length, and their elements are equal in pairs
abbrev pub lists_comparison : Option (List Holder) → Option (List Holder) → Comparison
lists_comparison (Some xs) (Some ys) = if length xs == length ys then Inside (zip xs ys) else Different
lists_comparison (Some xs) None = Unreadable
lists_comparison None _ = Unreadable

-- any other two values are equal if they are the same holder
abbrev pub comparison_by : TextOrList → TextOrList → Bool → Comparison
comparison_by (OfText x) (OfText y) same = texts_comparison x y
comparison_by (OfList xs) (OfList ys) same = lists_comparison xs ys
comparison_by _ _ same = same_or_different same

abbrev pub comparison_of : Pool → StoreValue → Holder → Holder → Comparison
comparison_of constants store x y = comparison_by (text_or_list_of constants store x) (text_or_list_of constants store y) (same_holder x y)

-- whether all pairs are equal, with the turns that are left; or the fault that comes first
abbrev pub WalkResult : Type 0
WalkResult = Result (Bool × ℕ) FaultName

-- what a walk comes to after a pair, which was found to be this, with these turns left and these pairs after it
abbrev pub walk_after : Comparison → ℕ → Pairs → (Pairs → WalkResult) → WalkResult
walk_after Same turns rest walk = walk rest
walk_after Different turns rest walk = Ok (false, turns)
walk_after Unreadable turns rest walk = Err BadConstant
walk_after (Inside pairs) turns rest walk = walk (pairs ++ rest)

-- the pairs are looked at one after the other, each for a turn, and the pairs within two lists before those after them
unfoldable pub walk : Pool → StoreValue → ℕ → Pairs → WalkResult
walk constants store zero [] = Ok (true, 0)
walk constants store zero (_ ∷ _) = Err CompareLong
walk constants store (suc turns) [] = Ok (true, suc turns)
walk constants store (suc turns) (pair ∷ rest) =
    walk_after (comparison_of constants store pair.0 pair.1) turns rest (λ pairs. walk constants store turns pairs)

-- whether two values are equal, where this many turns are left
abbrev pub equal_of : Pool → StoreValue → ℕ → Holder → Holder → WalkResult
equal_of constants store turns x y = walk constants store turns ((x, y) ∷ [])

-- what a walk comes to is answered, and the turns that it leaves are those left; or memory is wanting
abbrev pub AnswersEqual : WalkResult → Result Bool EqualRefusal → ℕ → Type 0
AnswersEqual walked (Ok equal) turns = walked ≡ Ok (equal, turns)
AnswersEqual walked (Err (refusals.Fault fault)) turns = walked ≡ Err fault
AnswersEqual walked (Err refusals.NoMemory) turns = Unit {0}
