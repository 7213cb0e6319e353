-- Deeds that answer what is good.
use Rattle.std.proofs.Common.{ℕ, ℤ, pos, Bool, true, false, List, [], ◌∷◌, arith, Option, Result, Ok, Err}
use Rattle.std.specs.List.{AllByRecursion}
use Rattle.std.specs.Str.{IsUtf8}
use Rattle.t3_holder.specs.declared.holder.Holder.{Holder}
use Rattle.t3_holder.specs.declared.holder.Holder.TheVariants as holders
use Rattle.t3_pools.specs.Pool.{Pool}
use Rattle.t3_store.specs.Value.{Value}
use Rattle.t3_store.specs.Store.{StoreValue}
use Rattle.t3_ops.specs.declared.fault.Fault.{Fault}
use Rattle.t3_ops.specs.Arithmetic.{number}
use Rattle.t3_ops.specs.Values.{TextOrList, OfText, OfList, Neither, text_or_list_of, kind_fault}
use Rattle.t3_kinds.specs.Changes.{Deed}
use Rattle.t3_kinds.specs.Deeds.{answers, answers_truth, answers_integer, answers_count, answers_new, when_ok, bytes_in, elements_in, when_text, when_list, first_of}
use Rattle.t3_kinds.specs.ListMethods.{with_turns}
use Rattle.t3_good_values.specs.Values.{IsClosed, IsGoodNew, IsGoodResult}
use Rattle.t3_good_values.specs.Stores.{IsGoodStore, IsGoodDeed}
use Rattle.t3_good_values.proofs.Lists.{IfThere}
use Rattle.t3_good_values.proofs.Outcomes.{good-needed}
use Rattle.t3_good_values.proofs.Arithmetic.{IsNumber, number-fits}
use Rattle.t3_good_values.proofs.Parts.{AreGiven, HasUtf8, HasGoodItems, good-utf8, good-items}

-- what a method comes to is a good deed, if it is no fault
abbrev pub IsGoodAnswer : (Holder → Type 0) → Result Deed Fault → Type 0
IsGoodAnswer Good result = IsGoodResult (IsGoodDeed Good) result

-- also with the turns that are left
abbrev pub IsGoodDone : (Holder → Type 0) → Result (Deed × ℕ) Fault → Type 0
IsGoodDone Good result = IsGoodResult (λ (done : Deed × ℕ). IsGoodDeed Good done.0) result

-- ---- answers

pub good-answer : (Good : Holder → Type 0) (value : Holder) → Good value → IsGoodAnswer Good (answers value)
good-answer Good value good = record { changes = tt; answer = good }

pub good-truth : {Good : Holder → Type 0} → IsClosed Good → (holds : Bool) → IsGoodAnswer Good (answers_truth holds)
good-truth {Good} closed true = good-answer Good holders.True closed.true
good-truth {Good} closed false = good-answer Good holders.Nil closed.nil

good-integer : {Good : Holder → Type 0} → IsClosed Good → (result : Result ℤ Fault) → IsNumber result
    → IsGoodAnswer Good (answers_integer result)
good-integer {Good} closed (Ok z) fits = good-answer Good (holders.Int z) (closed.integer z fits)
good-integer closed (Err fault) fits = tt

pub good-count : {Good : Holder → Type 0} → IsClosed Good → (count : ℕ) → IsGoodAnswer Good (answers_count count)
good-count closed count = good-integer closed (number (pos count)) (number-fits (pos count))

-- the number that is next is an object's
pub good-next : {Good : Holder → Type 0} {store : StoreValue} → IsClosed Good → IsGoodStore Good store → Good (holders.Obj store.next)
good-next {Good} {store} closed good = closed.object store.next good.next.0 (omega (arith, good.next.1))

pub good-new : {Good : Holder → Type 0} {store : StoreValue} → IsClosed Good → IsGoodStore Good store → (value : Result Value Fault)
    → IsGoodResult (IsGoodNew Good) value → IsGoodAnswer Good (answers_new value store)
good-new closed good (Ok value) new = record { changes = (new, tt); answer = good-next closed good }
good-new closed good (Err fault) new = tt

pub good-with_turns : (Good : Holder → Type 0) (turns : ℕ) (result : Result Deed Fault) → IsGoodAnswer Good result
    → IsGoodDone Good (with_turns turns result)
good-with_turns Good turns (Ok deed) good = good
good-with_turns Good turns (Err fault) good = tt

-- ---- what is needed

pub good-ok : {A B : Type 0} (Q : B → Type 0) (found : Result A Fault) (result : A → Result B Fault)
    → ((value : A) → IsGoodResult Q (result value)) → IsGoodResult Q (when_ok found result)
good-ok Q (Ok found) result goes = goes found
good-ok Q (Err fault) result goes = tt

utf8-in : (shape : TextOrList) → HasUtf8 shape → IfThere (IfThere IsUtf8) (bytes_in shape)
utf8-in (OfText bytes) has = has
utf8-in (OfList items) has = tt
utf8-in Neither has = tt

items-in : (Good : Holder → Type 0) (shape : TextOrList) → HasGoodItems Good shape
    → IfThere (IfThere (AllByRecursion Good)) (elements_in shape)
items-in Good (OfText bytes) has = tt
items-in Good (OfList items) has = has
items-in Good Neither has = tt

pub good-when_text : {Good : Holder → Type 0} {constants : Pool} {store : StoreValue} {A : Type 0} (Q : A → Type 0)
    → AreGiven Good constants store → (value : Holder) (result : Option (List ℕ) → Result A Fault)
    → ((bytes : Option (List ℕ)) → IfThere IsUtf8 bytes → IsGoodResult Q (result bytes))
    → IsGoodResult Q (when_text constants store value result)
good-when_text {Good} {constants} {store} Q given value result goes =
    good-needed (IfThere IsUtf8) Q (kind_fault store (value ∷ [])) (bytes_in (text_or_list_of constants store value)) result
    (utf8-in (text_or_list_of constants store value) (good-utf8 given.store_good constants value)) goes

pub good-when_list : {Good : Holder → Type 0} {constants : Pool} {store : StoreValue} {A : Type 0} (Q : A → Type 0)
    → AreGiven Good constants store → (value : Holder) → Good value → (result : Option (List Holder) → Result A Fault)
    → ((items : Option (List Holder)) → IfThere (AllByRecursion Good) items → IsGoodResult Q (result items))
    → IsGoodResult Q (when_list constants store value result)
good-when_list {Good} {constants} {store} Q given value good result goes =
    good-needed (IfThere (AllByRecursion Good)) Q (kind_fault store (value ∷ []))
    (elements_in (text_or_list_of constants store value)) result
    (items-in Good (text_or_list_of constants store value) (good-items given value good)) goes

-- ---- arguments

pub good-first : {Good : Holder → Type 0} → IsClosed Good → (args : List Holder) → AllByRecursion Good args → Good (first_of args)
good-first closed [] all = closed.nil
good-first closed (first ∷ rest) all = all.0
