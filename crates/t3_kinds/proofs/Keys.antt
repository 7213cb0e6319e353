-- The strings and the values of keys, as far as a walk over entries has come.
use Rattle.std.proofs.Common.{◌≡◌, ℕ, suc, ◌<◌, ◌≤◌, Bool, true, false, List, [], ◌∷◌, ◌++◌, length, Option, Some, None, length-append, ◌^◌, refl, ap, ◌∙◌, arith}
use Rattle.std.specs.Prelude.{IfSome, ◌&&◌}
use Rattle.std.proofs.lemmas.Bool.{leb-true, false≢true}
use Rattle.t3_holder.specs.declared.holder.Holder.{Holder}
use Rattle.t3_tables.specs.declared.pair.Pair.{Pair}
use Rattle.t3_store.specs.Value.{Text, Items}
use Rattle.t3_store.specs.Store.{StoreValue}
use Rattle.t3_kinds.specs.Changes.{Change, Makes, changed_by}
use Rattle.t3_kinds.specs.TableMethods.{key_text, key_value, key_values, key_strings, with_string, next_after, number_after, has_fitting_text, have_fitting_texts}
use Rattle.t3_kinds.specs.Inner.Deeds.{CanBeDone, CanAllBeDone}

pub length-key_values : (next : ℕ) (pairs : List Pair) → length (key_values next pairs) ≡ length pairs
length-key_values next [] = refl
length-key_values next (pair ∷ pairs) = ap suc (length-key_values (next_after (key_text pair.key) next) pairs)

-- a key more
pub key_values-more : (next : ℕ) (pairs : List Pair) (pair : Pair)
    → key_values next (pairs ++ pair ∷ []) ≡ key_values next pairs ++ key_value (number_after next pairs) pair.key ∷ []
key_values-more next [] pair = refl
key_values-more next (first ∷ pairs) pair =
    ap (λ (values : List Holder). key_value next first.key ∷ values) (key_values-more (next_after (key_text first.key) next) pairs pair)

pub number_after-more : (next : ℕ) (pairs : List Pair) (pair : Pair)
    → number_after next (pairs ++ pair ∷ []) ≡ next_after (key_text pair.key) (number_after next pairs)
number_after-more next [] pair = refl
number_after-more next (first ∷ pairs) pair = number_after-more (next_after (key_text first.key) next) pairs pair

with_string-append : (text : Option (List ℕ)) (xs ys : List Change) → with_string text (xs ++ ys) ≡ with_string text xs ++ ys
with_string-append None xs ys = refl
with_string-append (Some bytes) xs ys = refl

pub key_strings-more : (pairs : List Pair) (pair : Pair) → key_strings (pairs ++ pair ∷ []) ≡ key_strings pairs ++ with_string (key_text pair.key) []
key_strings-more [] pair = refl
key_strings-more (first ∷ pairs) pair =
    ap (with_string (key_text first.key)) (key_strings-more pairs pair)
    ∙ with_string-append (key_text first.key) (key_strings pairs) (with_string (key_text pair.key) [])

-- ---- a store can make the strings

string-made : (text : Option (List ℕ)) (changes rest : List Change) (s : StoreValue) → has_fitting_text text ≡ true
    → ((t : StoreValue) → CanAllBeDone (changes ++ rest) t) → CanAllBeDone (with_string text changes ++ rest) s
string-made None changes rest s fits then = then s
string-made (Some bytes) changes rest s fits then =
    ((tt, leb-true (length bytes) 65535 fits), each (changed_by (Makes (Text bytes)) s))
  where
    each : (o : Option StoreValue) → IfSome o (CanAllBeDone (changes ++ rest))
    each None = tt
    each (Some t) = then t

first-fits : (a b : Bool) → (a && b) ≡ true → a ≡ true
first-fits true b is = refl
first-fits false b is = is

others-fit : (a b : Bool) → (a && b) ≡ true → b ≡ true
others-fit true b is = is
others-fit false b is = absurd (false≢true is)

pub can-strings : (pairs : List Pair) (rest : List Change) (s : StoreValue) → have_fitting_texts pairs ≡ true
    → ((t : StoreValue) → CanAllBeDone rest t) → CanAllBeDone (key_strings pairs ++ rest) s
can-strings [] rest s fit then = then s
can-strings (pair ∷ pairs) rest s fit then =
    let here = has_fitting_text (key_text pair.key) in
    let there = have_fitting_texts pairs in
    string-made (key_text pair.key) (key_strings pairs) rest s (first-fits here there fit)
    (λ t. can-strings pairs rest t (others-fit here there fit) then)

length-with_string : (text : Option (List ℕ)) (changes : List Change) → length (with_string text changes) ≤ suc (length changes)
length-with_string None changes = omega arith
length-with_string (Some bytes) changes = omega arith

pub length-key_strings : (pairs : List Pair) → length (key_strings pairs) ≤ length pairs
length-key_strings [] = omega arith
length-key_strings (pair ∷ pairs) =
    let long = length-with_string (key_text pair.key) (key_strings pairs) in
    let rest = length-key_strings pairs in
    omega (arith, long, rest)

one-can : (change : Change) (s : StoreValue) → CanBeDone change s → CanAllBeDone (change ∷ []) s
one-can change s can = (can, each (changed_by change s))
  where
    each : (o : Option StoreValue) → IfSome o (CanAllBeDone [])
    each None = tt
    each (Some t) = tt

-- the strings, and then the list
pub listing : (pairs : List Pair) (next : ℕ) (s : StoreValue) → length pairs ≤ 65535 → have_fitting_texts pairs ≡ true
    → CanAllBeDone (key_strings pairs ++ Makes (Items (key_values next pairs)) ∷ []) s
    × (length (key_strings pairs ++ Makes (Items (key_values next pairs)) ∷ []) < 2 ^ 17)
listing pairs next s few fit =
    let list = Makes (Items (key_values next pairs)) in
    let long = length-key_values next pairs in
    let strings = length-key_strings pairs in
    let all = length-append (key_strings pairs) (list ∷ []) in (
      can-strings pairs (list ∷ []) s fit (λ t. one-can list t (tt, omega (arith, long, few))),
      omega (arith, all, strings, few),
    )
