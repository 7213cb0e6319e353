-- Which bytes stand from an address on, and which numbers they are. Other crates may use what stands here.
use Rattle.std.proofs.Common.{◌≡◌, ℕ, zero, suc, ◌+◌, ◌^◌, ◌<◌, List, [], ◌∷◌, ◌++◌, take, length, Option, Some, None, refl, sym, ap, subst, ◌∙◌, arith}
use Rattle.std.specs.FinMap.{get}
use Rattle.std.specs.List.{slice_get}
use Rattle.std.specs.Option.{option_map, option_and_then}
use Rattle.std.proofs.lemmas.Option.{same_Some, none-some}
use Rattle.t3_holder.specs.NumberText.{little_endian, value_of, AreBytes}
use Rattle.t3_holder.proofs.Numbers.{length-little_endian, value_of-little_endian, little_endian-value_of, value_fits}
use Rattle.t3_pools.specs.Pool.{Pool, HasBytes}
use Rattle.t3_pools.specs.Constants.{bytes_in, number_in, IsOfBytes}
use Rattle.t3_pools.specs.Inner.Reading.{IsNumber}

-- the bytes stand from an address on where each stands at its own
pub stands_each : (pool : Pool) (bytes : List ℕ) (at : ℕ) → ((j : ℕ) → j < length bytes → get pool (at + j) ≡ slice_get bytes j)
    → HasBytes pool at bytes
stands_each pool [] at each = tt
stands_each pool (byte ∷ bytes) at each =
    let here : at ≡ at + 0 = omega arith in (
      ap (λ n. get pool n) here ∙ each 0 (omega arith),
      stands_each pool bytes (at + 1) (λ j inside.
          let later : (at + 1) + j ≡ at + suc j = omega arith in
          ap (λ n. get pool n) later ∙ each (suc j) (omega arith)),
    )

pub stands_left : (pool : Pool) (xs ys : List ℕ) (at : ℕ) → HasBytes pool at (xs ++ ys) → HasBytes pool at xs
stands_left pool [] ys at has = tt
stands_left pool (x ∷ xs) ys at has = (has.0, stands_left pool xs ys (at + 1) has.1)

pub stands_right : (pool : Pool) (xs ys : List ℕ) (at : ℕ) → HasBytes pool at (xs ++ ys) → HasBytes pool (at + length xs) ys
stands_right pool [] ys at has = let here : at ≡ at + 0 = omega arith in subst (λ (n : ℕ). HasBytes pool n ys) here has
stands_right pool (x ∷ xs) ys at has = let later : (at + 1) + length xs ≡ at + suc (length xs) = omega arith in
    subst (λ (n : ℕ). HasBytes pool n ys) later (stands_right pool xs ys (at + 1) has.1)

pub stands_both : (pool : Pool) (xs ys : List ℕ) (at : ℕ) → HasBytes pool at xs → HasBytes pool (at + length xs) ys
    → HasBytes pool at (xs ++ ys)
stands_both pool [] ys at here there = let same : at + 0 ≡ at = omega arith in subst (λ (n : ℕ). HasBytes pool n ys) same there
stands_both pool (x ∷ xs) ys at here there = let later : at + suc (length xs) ≡ (at + 1) + length xs = omega arith in
    (here.0, stands_both pool xs ys (at + 1) here.1 (subst (λ (n : ℕ). HasBytes pool n ys) later there))

pub stands_take : (pool : Pool) (bytes : List ℕ) (at count : ℕ) → HasBytes pool at bytes → HasBytes pool at (take count bytes)
stands_take pool bytes at zero has = tt
stands_take pool [] at (suc count) has = tt
stands_take pool (byte ∷ bytes) at (suc count) has = (has.0, stands_take pool bytes (at + 1) count has.1)

-- from one address on there is one list of a length
pub same_bytes : (pool : Pool) (xs ys : List ℕ) (at : ℕ) → HasBytes pool at xs → HasBytes pool at ys → length xs ≡ length ys → xs ≡ ys
same_bytes pool [] [] at has_xs has_ys long = refl
same_bytes pool [] (y ∷ ys) at has_xs has_ys long = absurd (omega arith)
same_bytes pool (x ∷ xs) [] at has_xs has_ys long = absurd (omega arith)
same_bytes pool (x ∷ xs) (y ∷ ys) at has_xs has_ys long =
    let first : x ≡ y = same_Some x y (sym has_xs.0 ∙ has_ys.0) in
    let rest : xs ≡ ys = same_bytes pool xs ys (at + 1) has_xs.1 has_ys.1 (omega arith) in
    λ i. first i ∷ rest i

-- ---- so many bytes

pub bytes_in-stands : (pool : Pool) (bytes : List ℕ) (at : ℕ) → HasBytes pool at bytes → bytes_in (length bytes) pool at ≡ Some bytes
unfolding bytes_in
bytes_in-stands pool [] at has = refl
bytes_in-stands pool (byte ∷ bytes) at has =
    ap (λ o. option_and_then (λ byte. option_map (λ bytes. byte ∷ bytes) (bytes_in (length bytes) pool (at + 1))) o) has.0
    ∙ ap (λ o. option_map (λ bytes. byte ∷ bytes) o) (bytes_in-stands pool bytes (at + 1) has.1)

-- the bytes that are read stand there
record IsRead (pool : Pool) (at count : ℕ) (bytes : List ℕ) : Type 0 where
  pub stands : HasBytes pool at bytes
  pub long : length bytes ≡ count

read_more : (pool : Pool) (at count byte : ℕ) (rest : Option (List ℕ)) (bytes : List ℕ) → get pool at ≡ Some byte
    → ((tail : List ℕ) → rest ≡ Some tail → IsRead pool (at + 1) count tail)
    → option_map (λ tail. byte ∷ tail) rest ≡ Some bytes → IsRead pool at (suc count) bytes
read_more pool at count byte None bytes here later is = absurd cc
read_more pool at count byte (Some tail) bytes here later is =
    let whole : byte ∷ tail ≡ bytes = same_Some (byte ∷ tail) bytes is in
    let read = later tail refl in
    subst (λ (b : List ℕ). IsRead pool at (suc count) b) whole (record { stands = (here, read.stands); long = ap suc read.long })

is_read : (pool : Pool) (count at : ℕ) (bytes : List ℕ) → bytes_in count pool at ≡ Some bytes → IsRead pool at count bytes
unfolding bytes_in
is_read pool zero at bytes is = subst (λ (b : List ℕ). IsRead pool at 0 b) (same_Some [] bytes is) (record { stands = tt; long = refl })
is_read pool (suc count) at bytes is =
    let step : (o : Option ℕ) → get pool at ≡ o
    → option_and_then (λ byte. option_map (λ tail. byte ∷ tail) (bytes_in count pool (at + 1))) o ≡ Some bytes
    → IsRead pool at (suc count) bytes
    = λ o. elim o as (λ (o : Option ℕ). get pool at ≡ o
    → option_and_then (λ byte. option_map (λ tail. byte ∷ tail) (bytes_in count pool (at + 1))) o ≡ Some bytes
    → IsRead pool at (suc count) bytes) [
      | None ↦ λ none e. absurd (none-some bytes e)
      | Some byte ↦ λ here e. read_more pool at count byte (bytes_in count pool (at + 1)) bytes here
          (λ tail e. is_read pool count (at + 1) tail e) e
    ]
    in step (get pool at) refl is

pub stands-bytes_in : (pool : Pool) (count at : ℕ) (bytes : List ℕ) → bytes_in count pool at ≡ Some bytes → HasBytes pool at bytes
stands-bytes_in pool count at bytes is = (is_read pool count at bytes is).stands

pub length-bytes_in : (pool : Pool) (count at : ℕ) (bytes : List ℕ) → bytes_in count pool at ≡ Some bytes → length bytes ≡ count
length-bytes_in pool count at bytes is = (is_read pool count at bytes is).long

-- where one byte isn't there, they aren't all
pub none_then : {A B : Type 0} (o : Option A) (f : A → Option B) → ((a : A) → f a ≡ None) → option_and_then f o ≡ None
none_then None f none = refl
none_then (Some a) f none = none a

pub bytes_in-gap : (pool : Pool) (count at j : ℕ) → j < count → get pool (at + j) ≡ None → bytes_in count pool at ≡ None
unfolding bytes_in
bytes_in-gap pool zero at j inside gap = absurd (omega arith)
bytes_in-gap pool (suc count) at zero inside gap =
    let here : at ≡ at + 0 = omega arith in
    ap (λ o. option_and_then (λ byte. option_map (λ bytes. byte ∷ bytes) (bytes_in count pool (at + 1))) o)
    (ap (λ n. get pool n) here ∙ gap)
bytes_in-gap pool (suc count) at (suc j) inside gap =
    let later : (at + 1) + j ≡ at + suc j = omega arith in
    let rest = bytes_in-gap pool count (at + 1) j (omega arith) (ap (λ n. get pool n) later ∙ gap) in
    none_then (get pool at) _ (λ byte. ap (λ o. option_map (λ bytes. byte ∷ bytes) o) rest)

-- ---- numbers

pub number_in-none : (pool : Pool) (width at : ℕ) → bytes_in width pool at ≡ None → number_in width pool at ≡ None
unfolding number_in
number_in-none pool width at none = ap (λ o. option_map value_of o) none

pub number_in-stands : (pool : Pool) (width number at : ℕ) → number < 256 ^ width → HasBytes pool at (little_endian width number)
    → number_in width pool at ≡ Some number
unfolding number_in
number_in-stands pool width number at fits has =
    let read : bytes_in width pool at ≡ Some (little_endian width number) =
    ap (λ n. bytes_in n pool at) (sym (length-little_endian width number)) ∙ bytes_in-stands pool (little_endian width number) at has in
    ap (λ o. option_map value_of o) read ∙ ap Some (value_of-little_endian width number fits)

are_bytes : (pool : Pool) (bytes : List ℕ) (at : ℕ) → IsOfBytes pool → HasBytes pool at bytes → AreBytes bytes
are_bytes pool [] at of_bytes has = tt
are_bytes pool (byte ∷ bytes) at of_bytes has = (of_bytes at byte has.0, are_bytes pool bytes (at + 1) of_bytes has.1)

pub stands-number_in : (pool : Pool) (width at number : ℕ) → IsOfBytes pool → number_in width pool at ≡ Some number
    → IsNumber width pool at number
unfolding number_in
stands-number_in pool width at number of_bytes is =
    let step : (o : Option (List ℕ)) → bytes_in width pool at ≡ o → option_map value_of o ≡ Some number → IsNumber width pool at number
    = λ o. elim o as (λ (o : Option (List ℕ)). bytes_in width pool at ≡ o → option_map value_of o ≡ Some number
    → IsNumber width pool at number) [
      | None ↦ λ none e. absurd (none-some number e)
      | Some bytes ↦ λ read e.
          let is_value : value_of bytes ≡ number = same_Some (value_of bytes) number e in
          let has = stands-bytes_in pool width at bytes read in
          let long = length-bytes_in pool width at bytes read in
          let range = are_bytes pool bytes at of_bytes has in
          let spelled : bytes ≡ little_endian width (value_of bytes) =
          sym (little_endian-value_of bytes range) ∙ ap (λ w. little_endian w (value_of bytes)) long in
          subst (λ (n : ℕ). IsNumber width pool at n) is_value (record {
            fits = value_fits width bytes range long;
            stands = subst (λ (b : List ℕ). HasBytes pool at b) spelled has;
          })
    ]
    in step (bytes_in width pool at) refl is
