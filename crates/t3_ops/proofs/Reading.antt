-- Where what is read of constants stands.
use Rattle.std.proofs.Common.{◌≡◌, ℕ, zero, suc, ◌+◌, ◌-◌, ◌*◌, ◌<◌, ◌≤◌, List, [], ◌∷◌, ◌++◌, take, drop, length, Option, Some, None, refl, sym, ap, subst, ◌∙◌, take-append-drop, arith}
use Rattle.std.specs.Prelude.{unwrap_or, IsSome, option_map, option_and_then}
use Rattle.std.specs.List.{slice_get}
use Rattle.std.specs.Str.{is_utf8}
use Rattle.std.proofs.lemmas.List.{length-take-le, length-drop}
use Rattle.std.proofs.lemmas.Option.{same_Some, none-some, cond_some, option_and_then_some}
use Rattle.t3_holder.specs.declared.holder.Holder.{Holder}
use Rattle.t3_pools.specs.Pool.{Pool, HasBytes}
use Rattle.t3_pools.specs.Constants.{bytes_in, number_in, text_in, as_utf8, holder_in, holders_in, list_in, extent_of}
use Rattle.t3_pools.proofs.Standing.{stands_right, stands_take, same_bytes, stands-bytes_in, length-bytes_in}

-- ---- texts

pub text-bytes : (pool : Pool) (address : ℕ) (text : List ℕ) → text_in pool address ≡ Some text
    → bytes_in (length text) pool (address + 2) ≡ Some text
unfolding text_in
text-bytes pool address text is =
    option_and_then_some (λ count. option_and_then as_utf8 (bytes_in count pool (address + 2))) (number_in 2 pool address) text is
    (λ count counted rest.
    option_and_then_some as_utf8 (bytes_in count pool (address + 2)) text rest
    (λ bytes read valid.
    let same : bytes ≡ text = (cond_some (is_utf8 bytes) bytes text valid).1 in
    let long : length bytes ≡ count = length-bytes_in pool count (address + 2) bytes read in
    subst (λ (t : List ℕ). bytes_in (length t) pool (address + 2) ≡ Some t) same
    (ap (λ n. bytes_in n pool (address + 2)) long ∙ read)))

-- a constant text that was found, and its bytes
pub record IsTextAt (pool : Pool) (text : Option (List ℕ)) (first size : ℕ) : Type 0 where
  pub bytes : List ℕ
  pub is : text ≡ Some bytes
  pub read : bytes_in size pool first ≡ Some bytes

found_text : (pool : Pool) (address first size : ℕ) (text : Option (List ℕ)) → text_in pool address ≡ text
    → Some (first, size) ≡ extent_of address text → IsTextAt pool text first size
found_text pool address first size None same is = absurd (none-some (first, size) (sym is))
found_text pool address first size (Some bytes) same is =
    let extent = same_Some (first, size) (address + 2, length bytes) is in
    let read = text-bytes pool address bytes same in
    record {
      bytes = bytes;
      is = refl;
      read = (λ i. bytes_in (extent i).1 pool (extent i).0) ∙ read;
    }

pub text-found : (pool : Pool) (address first size : ℕ) → Some (first, size) ≡ extent_of address (text_in pool address)
    → IsTextAt pool (text_in pool address) first size
text-found pool address first size is = found_text pool address first size (text_in pool address) refl is

pub text-absent : (pool : Pool) (address : ℕ) → None ≡ extent_of address (text_in pool address) → None ≡ text_in pool address
text-absent pool address is =
    let step : (o : Option (List ℕ)) → None ≡ extent_of address o → None ≡ o
    = λ o. elim o as (λ (o : Option (List ℕ)). None ≡ extent_of address o → None ≡ o) [
      | None ↦ λ e. refl
      | Some bytes ↦ λ e. absurd (none-some (address + 2, length bytes) e)
    ] in step (text_in pool address) is

-- ---- lists

length-holders_in : (pool : Pool) (count address : ℕ) (elements : List Holder) → holders_in count pool address ≡ Some elements
    → length elements ≡ count
unfolding holders_in
length-holders_in pool zero address elements is = ap (λ (e : List Holder). length e) (sym (same_Some [] elements is))
length-holders_in pool (suc count) address elements is =
    option_and_then_some (λ holder. option_map (λ elements. holder ∷ elements) (holders_in count pool (address + 5)))
    (holder_in pool address) elements is
    (λ holder here rest.
    let step : (o : Option (List Holder)) → holders_in count pool (address + 5) ≡ o
    → option_map (λ elements. holder ∷ elements) o ≡ Some elements → length elements ≡ suc count
    = λ o. elim o as (λ (o : Option (List Holder)). holders_in count pool (address + 5) ≡ o
    → option_map (λ elements. holder ∷ elements) o ≡ Some elements → length elements ≡ suc count) [
      | None ↦ λ none e. absurd (none-some elements e)
      | Some tail ↦ λ read e.
          ap (λ (e : List Holder). length e) (sym (same_Some (holder ∷ tail) elements e))
          ∙ ap suc (length-holders_in pool count (address + 5) tail read)
    ]
    in step (holders_in count pool (address + 5)) refl rest)

list-holders : (pool : Pool) (address : ℕ) (elements : List Holder) → list_in pool address ≡ Some elements
    → holders_in (length elements) pool (address + 2) ≡ Some elements
unfolding list_in
list-holders pool address elements is =
    option_and_then_some (λ count. holders_in count pool (address + 2)) (number_in 2 pool address) elements is
    (λ count counted rest.
    let long : length elements ≡ count = length-holders_in pool count (address + 2) elements rest in
    ap (λ n. holders_in n pool (address + 2)) long ∙ rest)

-- a constant list that was found, and its elements
pub record IsListAt (pool : Pool) (list : Option (List Holder)) (first count : ℕ) : Type 0 where
  pub elements : List Holder
  pub is : list ≡ Some elements
  pub read : holders_in count pool first ≡ Some elements

found_list : (pool : Pool) (address first count : ℕ) (list : Option (List Holder)) → list_in pool address ≡ list
    → Some (first, count) ≡ extent_of address list → IsListAt pool list first count
found_list pool address first count None same is = absurd (none-some (first, count) (sym is))
found_list pool address first count (Some elements) same is =
    let extent = same_Some (first, count) (address + 2, length elements) is in
    let read = list-holders pool address elements same in
    record {
      elements = elements;
      is = refl;
      read = (λ i. holders_in (extent i).1 pool (extent i).0) ∙ read;
    }

pub list-found : (pool : Pool) (address first count : ℕ) → Some (first, count) ≡ extent_of address (list_in pool address)
    → IsListAt pool (list_in pool address) first count
list-found pool address first count is = found_list pool address first count (list_in pool address) refl is

pub list-absent : (pool : Pool) (address : ℕ) → None ≡ extent_of address (list_in pool address) → None ≡ list_in pool address
list-absent pool address is =
    let step : (o : Option (List Holder)) → None ≡ extent_of address o → None ≡ o
    = λ o. elim o as (λ (o : Option (List Holder)). None ≡ extent_of address o → None ≡ o) [
      | None ↦ λ e. refl
      | Some elements ↦ λ e. absurd (none-some (address + 2, length elements) e)
    ] in step (list_in pool address) is

-- ---- what is there of so many

element_step : (pool : Pool) (address index : ℕ) (holder : Holder) (tail : List Holder) → holder_in pool address ≡ Some holder
    → ((j : ℕ) → suc j ≡ index → holder_in pool (address + 5 + 5 * j) ≡ slice_get tail j)
    → holder_in pool (address + 5 * index) ≡ slice_get (holder ∷ tail) index
element_step pool address zero holder tail here later =
    let at : address + 5 * 0 ≡ address = omega arith in
    ap (λ a. holder_in pool a) at ∙ here
element_step pool address (suc j) holder tail here later =
    let at : address + 5 * suc j ≡ address + 5 + 5 * j = omega arith in
    ap (λ a. holder_in pool a) at ∙ later j refl

-- what is read of holders that stand is an element
pub holder-element : (pool : Pool) (count address index : ℕ) (elements : List Holder) → holders_in count pool address ≡ Some elements
    → index < count → holder_in pool (address + 5 * index) ≡ slice_get elements index
unfolding holders_in
holder-element pool zero address index elements is inside = absurd (omega arith)
holder-element pool (suc count) address index elements is inside =
    option_and_then_some (λ holder. option_map (λ elements. holder ∷ elements) (holders_in count pool (address + 5)))
    (holder_in pool address) elements is
    (λ holder here rest.
    let step : (o : Option (List Holder)) → holders_in count pool (address + 5) ≡ o
    → option_map (λ elements. holder ∷ elements) o ≡ Some elements → holder_in pool (address + 5 * index) ≡ slice_get elements index
    = λ o. elim o as (λ (o : Option (List Holder)). holders_in count pool (address + 5) ≡ o
    → option_map (λ elements. holder ∷ elements) o ≡ Some elements → holder_in pool (address + 5 * index) ≡ slice_get elements index) [
      | None ↦ λ none e. absurd (none-some elements e)
      | Some tail ↦ λ read e.
          let whole : holder ∷ tail ≡ elements = same_Some (holder ∷ tail) elements e in
          subst (λ (e : List Holder). holder_in pool (address + 5 * index) ≡ slice_get e index) whole
          (element_step pool address index holder tail here
          (λ j at. holder-element pool count (address + 5) j tail read (omega arith)))
    ]
    in step (holders_in count pool (address + 5)) refl rest)

-- there is no element behind the last one
slice_get_past : (elements : List Holder) (index : ℕ) → length elements ≤ index → slice_get elements index ≡ None
slice_get_past [] zero past = refl
slice_get_past [] (suc index) past = refl
slice_get_past (x ∷ xs) zero past = absurd (omega arith)
slice_get_past (x ∷ xs) (suc index) past = slice_get_past xs index (omega arith)

-- of what is read of a place, by the option that is there
pub option_element : (pool : Pool) (count address index : ℕ) (found : Option (List Holder)) → holders_in count pool address ≡ found
    → IsSome found → index < count → holder_in pool (address + 5 * index) ≡ slice_get (unwrap_or found []) index
option_element pool count address index None is some inside = absurd cc
option_element pool count address index (Some elements) is some inside = holder-element pool count address index elements is inside

pub length-option : (pool : Pool) (count address : ℕ) (found : Option (List Holder)) → holders_in count pool address ≡ found → IsSome found
    → length (unwrap_or found []) ≡ count
length-option pool count address None is some = absurd cc
length-option pool count address (Some elements) is some = length-holders_in pool count address elements is

pub element-past : (pool : Pool) (count address index : ℕ) (found : Option (List Holder)) → holders_in count pool address ≡ found
    → IsSome found → count ≤ index → None ≡ slice_get (unwrap_or found []) index
element-past pool count address index found is some past =
    let long = length-option pool count address found is some in
    sym (slice_get_past (unwrap_or found []) index (omega arith))

-- ---- pieces of texts

pub length-text : (pool : Pool) (count address : ℕ) (found : Option (List ℕ)) → bytes_in count pool address ≡ found → IsSome found
    → length (unwrap_or found []) ≡ count
length-text pool count address None is some = absurd cc
length-text pool count address (Some bytes) is some = length-bytes_in pool count address bytes is

-- bytes that stand from a place in a text on are the first of those that it has from there on
pub piece-first : (pool : Pool) (count address at : ℕ) (piece : List ℕ) (found : Option (List ℕ)) → bytes_in count pool address ≡ found
    → IsSome found → at ≤ count → HasBytes pool (address + at) piece → length piece ≤ count - at
    → piece ≡ take (length piece) (drop at (unwrap_or found []))
piece-first pool count address at piece None is some within stands short = absurd cc
piece-first pool count address at piece (Some bytes) is some within stands short =
    let long : length bytes ≡ count = length-bytes_in pool count address bytes is in
    let front : length (take at bytes) ≡ at = length-take-le at bytes (omega arith) in
    let whole : bytes ≡ take at bytes ++ drop at bytes = sym (take-append-drop at bytes) in
    let all = stands-bytes_in pool count address bytes is in
    let behind = stands_right pool (take at bytes) (drop at bytes) address (subst (λ (b : List ℕ). HasBytes pool address b) whole all) in
    let here = subst (λ (n : ℕ). HasBytes pool (address + n) (drop at bytes)) front behind in
    let rest = length-drop at bytes in
    same_bytes pool piece (take (length piece) (drop at bytes)) (address + at) stands
    (stands_take pool (drop at bytes) (address + at) (length piece) here)
    (sym (length-take-le (length piece) (drop at bytes) (omega arith)))
