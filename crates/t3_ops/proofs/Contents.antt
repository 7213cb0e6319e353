-- What is known of a text or a list by where it stands.
use Rattle.std.proofs.Common.{◌≡◌, ℕ, zero, suc, ◌+◌, ◌-◌, ◌*◌, ◌^◌, ◌<◌, ◌≤◌, min, List, [], ◌∷◌, ◌++◌, take, drop, length, Option, Some, None, Bor, refl, sym, ap, subst, ◌∙◌, take-append-drop, arith}
use Rattle.std.specs.Prelude.{unwrap_or, IsSome, is_some}
use Rattle.std.specs.FinMap.{get}
use Rattle.std.specs.List.{slice_get, zip}
use Rattle.std.proofs.lemmas.List.{length-take-le, length-take, length-drop}
use Rattle.std.proofs.lemmas.Option.{none-some, same_Some}
use Rattle.t3_holder.specs.declared.holder.Holder.{Holder}
use Rattle.t3_pools.specs.Pool.{Pool, HasBytes}
use Rattle.t3_pools.specs.Constants.{bytes_in, text_in, holder_in, holders_in, list_in, extent_of}
use Rattle.t3_pools.proofs.Standing.{stands_right, stands_take, stands-bytes_in, length-bytes_in}
use Rattle.t3_ops.specs.declared.values.TextRef.{TextRef}
use Rattle.t3_ops.specs.declared.values.TextRef.TheVariants as text_refs
use Rattle.t3_ops.specs.declared.values.ListRef.{ListRef}
use Rattle.t3_ops.specs.declared.values.ListRef.TheVariants as list_refs
use Rattle.t3_ops.specs.declared.values.TextBytes.{TextBytes}
use Rattle.t3_ops.specs.declared.values.TextBytes.TheVariants as texts
use Rattle.t3_ops.specs.declared.values.ListItems.{ListItems}
use Rattle.t3_ops.specs.declared.values.ListItems.TheVariants as lists
use Rattle.t3_ops.specs.References.{text_of, list_of, bytes_of, IsTextBytes, elements_of, IsListItems, IsPrefixOf}
use Rattle.t3_ops.proofs.Reading.{text-found, list-found, option_element, length-option, element-past, length-text, piece-first}

-- ---- what was read

pub text-read : (pool : Pool) (value : TextRef) (address first size : ℕ) → value ≡ text_refs.Constant address
    → Some (first, size) ≡ extent_of address (text_in pool address)
    → Some (bytes_of pool (texts.Constant first size)) ≡ text_of pool value
text-read pool value address first size is found =
    let at = text-found pool address first size found in
    ap (λ o. Some (unwrap_or o [])) at.read ∙ sym at.is ∙ ap (λ v. text_of pool v) (sym is)

pub text-stands : (pool : Pool) (address first size : ℕ) → Some (first, size) ≡ extent_of address (text_in pool address)
    → first + size < 2 ^ 31 → IsTextBytes pool (texts.Constant first size)
text-stands pool address first size found below =
    let at = text-found pool address first size found in
    (ap (λ o. is_some o) at.read, below)

pub list-read : (pool : Pool) (value : ListRef) (address first count : ℕ) → value ≡ list_refs.Constant address
    → Some (first, count) ≡ extent_of address (list_in pool address)
    → Some (elements_of pool (lists.Constant first count)) ≡ list_of pool value
list-read pool value address first count is found =
    let at = list-found pool address first count found in
    ap (λ o. Some (unwrap_or o [])) at.read ∙ sym at.is ∙ ap (λ v. list_of pool v) (sym is)

pub list-stands : (pool : Pool) (address first count : ℕ) → Some (first, count) ≡ extent_of address (list_in pool address)
    → first + 5 * count < 2 ^ 31 → IsListItems pool (lists.Constant first count)
list-stands pool address first count found below =
    let at = list-found pool address first count found in
    (ap (λ o. is_some o) at.read, below)

-- ---- lists

pub length-constant : (pool : Pool) (place : ListItems) (first count : ℕ) → place ≡ lists.Constant first count → IsListItems pool place
    → count ≡ length (elements_of pool place)
length-constant pool place first count is stands =
    subst (λ (p : ListItems). IsListItems pool p → count ≡ length (elements_of pool p)) (sym is)
    (λ stands. sym (length-option pool count first (holders_in count pool first) refl stands.0)) stands

pub element-constant : (pool : Pool) (place : ListItems) (first count index : ℕ) → place ≡ lists.Constant first count
    → IsListItems pool place → index < count → holder_in pool (first + 5 * index) ≡ slice_get (elements_of pool place) index
element-constant pool place first count index is stands inside =
    subst (λ (p : ListItems). IsListItems pool p → holder_in pool (first + 5 * index) ≡ slice_get (elements_of pool p) index) (sym is)
    (λ stands. option_element pool count first index (holders_in count pool first) refl stands.0 inside) stands

pub element-past-constant : (pool : Pool) (place : ListItems) (first count index : ℕ) → place ≡ lists.Constant first count
    → IsListItems pool place → count ≤ index → None ≡ slice_get (elements_of pool place) index
element-past-constant pool place first count index is stands past =
    subst (λ (p : ListItems). IsListItems pool p → None ≡ slice_get (elements_of pool p) index) (sym is)
    (λ stands. element-past pool count first index (holders_in count pool first) refl stands.0 past) stands

pub element-live : (pool : Pool) (place : ListItems) (items : Bor (List Holder)) (index : ℕ) (item : Option Holder)
    → place ≡ lists.Live items → item ≡ slice_get items.now index → item ≡ slice_get (elements_of pool place) index
element-live pool place items index item is here = here ∙ ap (λ p. slice_get (elements_of pool p) index) (sym is)

-- ---- texts

pub length-constant-text : (pool : Pool) (place : TextBytes) (first size : ℕ) → place ≡ texts.Constant first size
    → IsTextBytes pool place → size ≡ length (bytes_of pool place)
length-constant-text pool place first size is stands =
    subst (λ (p : TextBytes). IsTextBytes pool p → size ≡ length (bytes_of pool p)) (sym is)
    (λ stands. sym (length-text pool size first (bytes_in size pool first) refl stands.0)) stands

pub bounded-text : (pool : Pool) (place : TextBytes) (first size : ℕ) → place ≡ texts.Constant first size → IsTextBytes pool place
    → first + size < 2 ^ 31
bounded-text pool place first size is stands =
    subst (λ (p : TextBytes). IsTextBytes pool p → first + size < 2 ^ 31) (sym is) (λ stands. stands.1) stands

take_front : (n : ℕ) (xs : List ℕ) → length (take n xs) ≤ n
take_front n xs = let cut = length-take n xs in omega arith

piece_of_run : (pool : Pool) (first size at n : ℕ) (run : List ℕ) → IsSome (bytes_in size pool first) → at ≤ size
    → HasBytes pool (first + at) run → n ≤ size - at
    → IsPrefixOf (take n run) (drop at (unwrap_or (bytes_in size pool first) []))
piece_of_run pool first size at n run some within stands short =
    let front = take_front n run in
    piece-first pool size first at (take n run) (bytes_in size pool first) refl some within
    (stands_take pool run (first + at) n stands) (omega arith)

pub piece-constant : (pool : Pool) (place : TextBytes) (first size at n : ℕ) (run : List ℕ) → place ≡ texts.Constant first size
    → IsTextBytes pool place → at ≤ size → HasBytes pool (first + at) run → n ≤ size - at
    → IsPrefixOf (take n run) (drop at (bytes_of pool place))
piece-constant pool place first size at n run is stands within here short =
    subst (λ (p : TextBytes). IsTextBytes pool p → IsPrefixOf (take n run) (drop at (bytes_of pool p))) (sym is)
    (λ stands. piece_of_run pool first size at n run stands.0 within here short) stands

-- a byte stands at each place in bytes that were read
byte_there : (pool : Pool) (at : ℕ) (bytes : List ℕ) → HasBytes pool at bytes → 0 < length bytes → get pool at ≡ None → ⊥
byte_there pool at [] has some none = absurd (omega arith)
byte_there pool at (byte ∷ bytes) has some none = none-some byte (sym none ∙ has.0)

inside : (pool : Pool) (first size at : ℕ) (found : Option (List ℕ)) → bytes_in size pool first ≡ found → IsSome found → at < size
    → get pool (first + at) ≡ None → ⊥
inside pool first size at None is some within none = absurd cc
inside pool first size at (Some bytes) is some within none =
    let long : length bytes ≡ size = length-bytes_in pool size first bytes is in
    let front : length (take at bytes) ≡ at = length-take-le at bytes (omega arith) in
    let whole : bytes ≡ take at bytes ++ drop at bytes = sym (take-append-drop at bytes) in
    let all = stands-bytes_in pool size first bytes is in
    let behind = stands_right pool (take at bytes) (drop at bytes) first (subst (λ (b : List ℕ). HasBytes pool first b) whole all) in
    let here = subst (λ (n : ℕ). HasBytes pool (first + n) (drop at bytes)) front behind in
    let rest = length-drop at bytes in
    byte_there pool (first + at) (drop at bytes) here (omega arith) none

piece_some : (pool : Pool) (first size at n : ℕ) (run : List ℕ) → IsSome (bytes_in size pool first) → at ≤ size
    → (run ≡ [] → get pool (first + at) ≡ None) → n ≡ min (length run) (size - at) → take n run ≡ [] → at ≡ size
piece_some pool first size at n [] some within empty is none =
    let not_inside : ¬ (at < size) = λ below. inside pool first size at (bytes_in size pool first) refl some below (empty refl) in
    omega arith
piece_some pool first size at zero (byte ∷ run) some within empty is none = omega arith
piece_some pool first size at (suc n) (byte ∷ run) some within empty is none = absurd cc

pub piece-ends : (pool : Pool) (place : TextBytes) (first size at n : ℕ) (run : List ℕ) → place ≡ texts.Constant first size
    → IsTextBytes pool place → at ≤ size → (run ≡ [] → get pool (first + at) ≡ None) → n ≡ min (length run) (size - at)
    → take n run ≡ [] → at ≡ length (bytes_of pool place)
piece-ends pool place first size at n run is stands within empty cut none =
    subst (λ (p : TextBytes). IsTextBytes pool p → at ≡ length (bytes_of pool p)) (sym is)
    (λ stands. piece_some pool first size at n run stands.0 within empty cut none
    ∙ sym (length-text pool size first (bytes_in size pool first) refl stands.0)) stands

-- ---- pairs

pub get-drop : (xs : List Holder) (index : ℕ) (x : Holder) → Some x ≡ slice_get xs index → drop index xs ≡ x ∷ drop (index + 1) xs
get-drop [] zero x is = absurd cc
get-drop [] (suc index) x is = absurd cc
get-drop (y ∷ xs) zero x is = ap (λ (z : Holder). z ∷ xs) (sym (same_Some x y is))
get-drop (y ∷ xs) (suc index) x is =
    let next : suc index + 1 ≡ suc (index + 1) = omega arith in
    get-drop xs index x is ∙ ap (λ n. x ∷ drop n (y ∷ xs)) (sym next)

pub get-past : (xs : List Holder) (index : ℕ) → None ≡ slice_get xs index → drop index xs ≡ []
get-past [] zero is = refl
get-past [] (suc index) is = refl
get-past (y ∷ xs) zero is = absurd cc
get-past (y ∷ xs) (suc index) is = get-past xs index is

pub get-within : (xs : List Holder) (index : ℕ) (x : Holder) → Some x ≡ slice_get xs index → index < length xs
get-within [] zero x is = absurd cc
get-within [] (suc index) x is = absurd cc
get-within (y ∷ xs) zero x is = omega arith
get-within (y ∷ xs) (suc index) x is = let within = get-within xs index x is in omega arith

-- the pair of an index, and those behind it
pub pairs-more : (xs ys : List Holder) (index : ℕ) (x y : Holder) → Some x ≡ slice_get xs index → Some y ≡ slice_get ys index
    → zip (drop index xs) (drop index ys) ≡ (x, y) ∷ zip (drop (index + 1) xs) (drop (index + 1) ys)
pairs-more xs ys index x y in_xs in_ys = λ i. zip (get-drop xs index x in_xs i) (get-drop ys index y in_ys i)

pub pairs-left : (xs ys : List Holder) (index : ℕ) → None ≡ slice_get xs index → zip (drop index xs) (drop index ys) ≡ []
pairs-left xs ys index past = ap (λ (l : List Holder). zip l (drop index ys)) (get-past xs index past)

zip-nil : (xs : List Holder) → zip {X = Holder} xs [] ≡ []
zip-nil [] = refl
zip-nil (x ∷ xs) = refl

pub pairs-right : (xs ys : List Holder) (index : ℕ) → None ≡ slice_get ys index → zip (drop index xs) (drop index ys) ≡ []
pairs-right xs ys index past = ap (λ (l : List Holder). zip (drop index xs) l) (get-past ys index past) ∙ zip-nil (drop index xs)

pub get-past-length : (xs : List Holder) (index : ℕ) → None ≡ slice_get xs index → length xs ≤ index
get-past-length [] index is = omega arith
get-past-length (y ∷ xs) zero is = absurd cc
get-past-length (y ∷ xs) (suc index) is = let past = get-past-length xs index is in omega arith
