-- What was appended of lists, vectors and texts. Other crates may use what is said of the elements of a vector.
use Rattle.std.proofs.Common.{◌≡◌, ℕ, zero, suc, ◌+◌, ◌<◌, ◌≤◌, List, [], ◌∷◌, ◌++◌, take, drop, length, Option, Some, None, Result, Ok, Err, IfOk, OnErr, ◌-◌, IsSome, refl, sym, ap, subst, ◌∙◌, append_assoc, arith}
use Rattle.std.specs.List.{slice_get}
use Rattle.std.proofs.Math.Seq.{take-add}
use Rattle.std.proofs.lemmas.Option.{same_Some, none-some}
use Rattle.t3_undo.specs.declared.cell.Cell.TheVariants.{Elem}
use Rattle.t3_store.specs.Value.{Value, Tads, Text, Items, Vector, Table, holder_at}
use Rattle.t3_ops.specs.Elements.{vector_items, IsVectorOf}

-- a vector has so many elements, and an element of each number
pub vector-length : (value : Option Value) (count : ℕ) → IsVectorOf value count → length (vector_items value) ≡ count
vector-length None count is = absurd (none-some count is)
vector-length (Some (Tads supers class props)) count is = absurd (none-some count is)
vector-length (Some (Text bytes)) count is = absurd (none-some count is)
vector-length (Some (Items all)) count is = absurd (none-some count is)
vector-length (Some (Vector all)) count is = same_Some (length all) count is
vector-length (Some (Table pairs default)) count is = absurd (none-some count is)

element_by : (value : Option Value) (count index : ℕ) → IsVectorOf value count
    → holder_at value (Elem (suc index)) ≡ slice_get (vector_items value) index
element_by None count index is = absurd (none-some count is)
element_by (Some (Tads supers class props)) count index is = absurd (none-some count is)
element_by (Some (Text bytes)) count index is = absurd (none-some count is)
element_by (Some (Items all)) count index is = absurd (none-some count is)
element_by (Some (Vector all)) count index is = refl
element_by (Some (Table pairs default)) count index is = absurd (none-some count is)

take-more : {X : Type 0} (xs : List X) (index : ℕ) (x : X) → Some x ≡ slice_get xs index → take index xs ++ x ∷ [] ≡ take (index + 1) xs
take-more [] zero x here = absurd (none-some x (sym here))
take-more [] (suc index) x here = absurd (none-some x (sym here))
take-more (y ∷ ys) zero x here = ap (λ l. l ∷ []) (same_Some x y here)
take-more (y ∷ ys) (suc index) x here =
    let next : suc index + 1 ≡ suc (index + 1) = omega arith in
    ap (λ l. y ∷ l) (take-more ys index x here) ∙ ap (λ n. take n (y ∷ ys)) (sym next)

pub vector-element : (value : Option Value) (count index : ℕ) → IsVectorOf value count
    → holder_at value (Elem (index + 1)) ≡ slice_get (vector_items value) index
vector-element value count index is =
    let next : index + 1 ≡ suc index = omega arith in
    ap (λ n. holder_at value (Elem n)) next ∙ element_by value count index is

get_within : {X : Type 0} (xs : List X) (index : ℕ) → index < length xs → None ≡ slice_get xs index → ⊥
get_within [] index within none = absurd (omega arith)
get_within (x ∷ xs) zero within none = none-some x none
get_within (x ∷ xs) (suc index) within none = get_within xs index (omega arith) none

-- so an element of a number that a vector has isn't missing
pub vector-none : (value : Option Value) (count index : ℕ) → IsVectorOf value count → index < count
    → None ≡ holder_at value (Elem (index + 1)) → ⊥
vector-none value count index is within none =
    let long = vector-length value count is in
    get_within (vector_items value) index (omega arith) (none ∙ vector-element value count index is)

some-unless : {X : Type 0} (o : Option X) → (None ≡ o → ⊥) → IsSome o
some-unless None never = absurd (never refl)
some-unless (Some x) never = refl

-- it is there
pub vector-present : (value : Option Value) (count index : ℕ) → IsVectorOf value count → 0 < index → index ≤ count
    → IsSome (holder_at value (Elem index))
vector-present value count index is from to =
    let next : index ≡ index - 1 + 1 = omega arith in
    let P : ℕ → Type 0 = λ n. IsSome (holder_at value (Elem n)) in
    subst P (sym next) (some-unless (holder_at value (Elem (index - 1 + 1))) (vector-none value count (index - 1) is (omega arith)))

-- one element more was appended
pub append-more : {X : Type 0} (old now : List X) (xs : List X) (index : ℕ) (x : X) → now ≡ old ++ take index xs
    → Some x ≡ slice_get xs index → now ++ x ∷ [] ≡ old ++ take (index + 1) xs
append-more old now xs index x is here =
    ap (λ l. l ++ x ∷ []) is ∙ append_assoc old (take index xs) (x ∷ []) ∙ ap (λ l. old ++ l) (take-more xs index x here)

take-all : {X : Type 0} (xs : List X) (index : ℕ) → length xs ≤ index → take index xs ≡ xs
take-all [] zero past = refl
take-all [] (suc index) past = refl
take-all (x ∷ xs) zero past = absurd (omega arith)
take-all (x ∷ xs) (suc index) past = ap (λ l. x ∷ l) (take-all xs index (omega arith))

-- all of them were
pub append-all : {X : Type 0} (old now : List X) (xs : List X) (index : ℕ) → now ≡ old ++ take index xs → length xs ≤ index
    → now ≡ old ++ xs
append-all old now xs index is past = is ∙ ap (λ l. old ++ l) (take-all xs index past)

-- a piece more of a text was appended
pub append-piece : (old now xs piece : List ℕ) (at : ℕ) → now ≡ old ++ take at xs → piece ≡ take (length piece) (drop at xs)
    → now ++ piece ≡ old ++ take (at + length piece) xs
append-piece old now xs piece at is first =
    ap (λ l. l ++ piece) is
    ∙ append_assoc old (take at xs) piece
    ∙ ap (λ l. old ++ (take at xs ++ l)) first
    ∙ ap (λ l. old ++ l) (sym (take-add at (length piece) xs))

-- the value of an answer that isn't want of memory
pub if_ok : {A E : Type 0} (r : Result A E) (P Q : A → Type 0) → ((a : A) → P a → Q a) → IfOk r P → IfOk r Q
if_ok (Ok a) P Q step holds = step a holds
if_ok (Err e) P Q step holds = tt

-- a fact holds of an error too
pub on_err : {A E P : Type 0} (r : Result A E) → P → OnErr r P
on_err (Ok a) holds = tt
on_err (Err e) holds = holds
