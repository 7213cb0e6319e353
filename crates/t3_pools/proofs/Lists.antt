-- What is known of the holders of a constant list while they are read, and what of it when the reading ends. Other crates may use what stands here.
use Rattle.std.proofs.Common.{◌≡◌, ℕ, zero, suc, ◌+◌, ◌*◌, ◌^◌, ◌<◌, true, false, List, [], ◌∷◌, ◌++◌, length, Option, Some, None, refl, sym, ap, subst, ◌∙◌, length-append, arith}
use Rattle.std.specs.FinMap.{get}
use Rattle.std.specs.Option.{option_map, option_and_then, is_some, IfSome, IsNone}
use Rattle.std.proofs.lemmas.Option.{same_Some, none-some, option_and_then_some}
use Rattle.t3_holder.specs.NumberText.{little_endian}
use Rattle.t3_holder.specs.HolderText.{raw_text, IsRaw, Means, IsNoHolder}
use Rattle.t3_holder.specs.declared.holder.Raw.{Raw}
use Rattle.t3_holder.specs.declared.holder.Holder.{Holder}
use Rattle.t3_pools.specs.Pool.{Pool, HasBytes}
use Rattle.t3_pools.specs.Constants.{HasHolder, HasHolders, HasList, FindsHolder, bytes_in, number_in, holder_in, holders_in, list_in, meaning_of, extent_of, IsOfBytes}
use Rattle.t3_pools.specs.Inner.Reading.{IsNumber, ReadsHolder, ReadsHolders, ListAnswer}
use Rattle.t3_pools.proofs.Standing.{number_in-none, number_in-stands, stands-number_in, none_then}
use Rattle.t3_pools.proofs.Meaning.{meaning-meant, meant-meaning, meaning-none}

pub holder_in-stands : (pool : Pool) (address : ℕ) (holder : Holder) → HasHolder pool address holder → holder_in pool address ≡ Some holder
unfolding holder_in raw_text
holder_in-stands pool address holder has =
    let tag = has.stands.0 in
    let bits = number_in-stands pool 4 has.raw.bits (address + 1) has.fits.bits has.stands.1 in
    ap (λ o. option_and_then (λ tag. option_and_then (meaning_of tag) (number_in 4 pool (address + 1))) o) tag
    ∙ ap (λ o. option_and_then (meaning_of has.raw.tag) o) bits
    ∙ meaning-meant has.raw holder has.means

holder_in-none : (pool : Pool) (address : ℕ) (raw : Raw) → HasBytes pool address (raw_text raw) → IsRaw raw → IsNoHolder raw
    → holder_in pool address ≡ None
unfolding holder_in raw_text
holder_in-none pool address raw stands fits none =
    let bits = number_in-stands pool 4 raw.bits (address + 1) fits.bits stands.1 in
    ap (λ o. option_and_then (λ tag. option_and_then (meaning_of tag) (number_in 4 pool (address + 1))) o) stands.0
    ∙ ap (λ o. option_and_then (meaning_of raw.tag) o) bits
    ∙ meaning-none raw fits.bits none

-- where five bytes aren't there, no holder is
pub holder-gap : (pool : Pool) (address : ℕ) → bytes_in 5 pool address ≡ None → holder_in pool address ≡ None
unfolding holder_in bytes_in
holder-gap pool address gap =
    let rest : (byte : ℕ) (o : Option (List ℕ)) → option_map (λ bytes. byte ∷ bytes) o ≡ None → o ≡ None
    = λ byte o. elim o as (λ (o : Option (List ℕ)). option_map (λ bytes. byte ∷ bytes) o ≡ None → o ≡ None) [
      | None ↦ λ e. refl
      | Some bytes ↦ λ e. absurd (none-some (byte ∷ bytes) (sym e))
    ] in
    let step : (o : Option ℕ) → option_and_then (λ byte. option_map (λ bytes. byte ∷ bytes) (bytes_in 4 pool (address + 1))) o ≡ None
    → option_and_then (λ tag. option_and_then (meaning_of tag) (number_in 4 pool (address + 1))) o ≡ None
    = λ o. elim o as (λ (o : Option ℕ). option_and_then (λ byte. option_map (λ bytes. byte ∷ bytes) (bytes_in 4 pool (address + 1))) o ≡ None
    → option_and_then (λ tag. option_and_then (meaning_of tag) (number_in 4 pool (address + 1))) o ≡ None) [
      | None ↦ λ e. refl
      | Some byte ↦ λ e. ap (λ o. option_and_then (meaning_of byte) o)
          (number_in-none pool 4 (address + 1) (rest byte (bytes_in 4 pool (address + 1)) e))
    ] in
    step (get pool address) gap

-- five bytes that stand are a holder that is told, or none is
pub reads-holder : (pool : Pool) (address : ℕ) (bytes : List ℕ) (raw : Raw) (told : Option Holder) → HasBytes pool address bytes
    → raw_text raw ≡ bytes → IsRaw raw → IfSome told (λ holder. Means raw holder) → (IsNone told → IsNoHolder raw)
    → ReadsHolder pool address told
reads-holder pool address bytes raw None stands is fits means none =
    holder_in-none pool address raw (subst (λ (b : List ℕ). HasBytes pool address b) (sym is) stands) fits (none refl)
reads-holder pool address bytes raw (Some holder) stands is fits means none = record {
  raw = raw;
  fits = fits;
  means = means;
  stands = subst (λ (b : List ℕ). HasBytes pool address b) (sym is) stands;
}

-- what is read of a holder is the holder that is there
pub holder-read : (pool : Pool) (address : ℕ) (read : Option Holder) → ReadsHolder pool address read → read ≡ holder_in pool address
holder-read pool address None none = sym none
holder-read pool address (Some holder) has = sym (holder_in-stands pool address holder has)

-- it is the one that stands there, and where none is read none stands
pub holder-found : (pool : Pool) (address : ℕ) (read : Option Holder) → ReadsHolder pool address read → FindsHolder pool address read
holder-found pool address None none = λ holder has. none-some holder (sym none ∙ holder_in-stands pool address holder has)
holder-found pool address (Some holder) has = has

-- ---- lists

pub holders_in-stands : (pool : Pool) (elements : List Holder) (address : ℕ) → HasHolders pool address elements
    → holders_in (length elements) pool address ≡ Some elements
unfolding holders_in
holders_in-stands pool [] address has = refl
holders_in-stands pool (holder ∷ elements) address has =
    ap (λ o. option_and_then (λ holder. option_map (λ elements. holder ∷ elements) (holders_in (length elements) pool (address + 5))) o)
    (holder_in-stands pool address holder has.0)
    ∙ ap (λ o. option_map (λ elements. holder ∷ elements) o) (holders_in-stands pool elements (address + 5) has.1)

holders_more : (pool : Pool) (elements : List Holder) (address : ℕ) (holder : Holder) → HasHolders pool address elements
    → HasHolder pool (address + 5 * length elements) holder → HasHolders pool address (elements ++ holder ∷ [])
holders_more pool [] address holder has more =
    let at : address + 5 * 0 ≡ address = omega arith in
    (subst (λ (a : ℕ). HasHolder pool a holder) at more, tt)
holders_more pool (first ∷ elements) address holder has more =
    let at : address + 5 * suc (length elements) ≡ (address + 5) + 5 * length elements = omega arith in
    (has.0, holders_more pool elements (address + 5) holder has.1 (subst (λ (a : ℕ). HasHolder pool a holder) at more))

holders_gap : (pool : Pool) (elements : List Holder) (count address : ℕ) → HasHolders pool address elements → length elements < count
    → holder_in pool (address + 5 * length elements) ≡ None → holders_in count pool address ≡ None
unfolding holders_in
holders_gap pool elements zero address has inside gap = absurd (omega arith)
holders_gap pool [] (suc count) address has inside gap =
    let at : address ≡ address + 5 * 0 = omega arith in
    ap (λ o. option_and_then (λ holder. option_map (λ elements. holder ∷ elements) (holders_in count pool (address + 5))) o)
    (ap (λ a. holder_in pool a) at ∙ gap)
holders_gap pool (holder ∷ elements) (suc count) address has inside gap =
    let at : (address + 5) + 5 * length elements ≡ address + 5 * suc (length elements) = omega arith in
    let rest = holders_gap pool elements count (address + 5) has.1 (omega arith) (ap (λ a. holder_in pool a) at ∙ gap) in
    none_then (holder_in pool address) _ (λ holder. ap (λ o. option_map (λ elements. holder ∷ elements) o) rest)

-- so many holders have been found
pub record Passed (pool : Pool) (first address index : ℕ) : Type 0 where
  pub elements : List Holder
  pub long : length elements ≡ index
  pub at : address ≡ first + 5 * index
  pub below : address < 2 ^ 31
  pub stands : HasHolders pool first elements

pub passed-none : (pool : Pool) (first : ℕ) → first < 2 ^ 31 → Passed pool first first 0
passed-none pool first below = record { elements = []; long = refl; at = omega arith; below = below; stands = tt }

pub passed-more : (pool : Pool) (first address index : ℕ) (told : Option Holder) → Passed pool first address index
    → ReadsHolder pool address told → is_some told ≡ true → IfSome told (λ _. address + 5 < 2 ^ 31)
    → Passed pool first (address + 5) (index + 1)
passed-more pool first address index None passed reads some below = absurd cc
passed-more pool first address index (Some holder) passed reads some below =
    let long = passed.long in
    let at = passed.at in
    let here : address ≡ first + 5 * length passed.elements = omega arith in
    let more = length-append passed.elements (holder ∷ []) in
    record {
      elements = passed.elements ++ holder ∷ [];
      long = omega arith;
      at = omega arith;
      below = below;
      stands = holders_more pool passed.elements first holder passed.stands (subst (λ (a : ℕ). HasHolder pool a holder) here reads);
    }

pub passed-all : (pool : Pool) (first address index count : ℕ) → Passed pool first address index → index ≡ count
    → ReadsHolders count pool first true
passed-all pool first address index count passed all = (passed.elements, (passed.long ∙ all, passed.stands))

pub passed-gap : (pool : Pool) (first address index count : ℕ) (told : Option Holder) → Passed pool first address index → index < count
    → ReadsHolder pool address told → is_some told ≡ false → holders_in count pool first ≡ None
passed-gap pool first address index count None passed inside reads none =
    let long = passed.long in
    let at = passed.at in
    let here : first + 5 * length passed.elements ≡ address = omega arith in
    holders_gap pool passed.elements count first passed.stands (omega arith) (ap (λ a. holder_in pool a) here ∙ reads)
passed-gap pool first address index count (Some holder) passed inside reads none = absurd cc

-- a constant list that stands is the one that is read
pub list_in-stands : (pool : Pool) (address : ℕ) (elements : List Holder) → HasList pool address elements
    → list_in pool address ≡ Some elements
unfolding list_in
list_in-stands pool address elements has =
    ap (λ o. option_and_then (λ count. holders_in count pool (address + 2)) o)
    (number_in-stands pool 2 (length elements) address has.fits has.count)
    ∙ holders_in-stands pool elements (address + 2) has.stands

-- ---- what is answered of a list

no_list : (pool : Pool) (address : ℕ) → list_in pool address ≡ None → ListAnswer pool address None
no_list pool address none = record {
  list = λ elements has. none-some elements (sym none ∙ list_in-stands pool address elements has);
  read = sym (ap (λ o. extent_of address o) none);
}

pub list-gap : (pool : Pool) (address : ℕ) → number_in 2 pool address ≡ None → ListAnswer pool address None
unfolding list_in
list-gap pool address none =
    no_list pool address (ap (λ o. option_and_then (λ count. holders_in count pool (address + 2)) o) none)

pub list-unfit : (pool : Pool) (address count : ℕ) → IsNumber 2 pool address count → holders_in count pool (address + 2) ≡ None
    → ListAnswer pool address None
unfolding list_in
list-unfit pool address count number none =
    no_list pool address (ap (λ o. option_and_then (λ count. holders_in count pool (address + 2)) o)
    (number_in-stands pool 2 count address number.fits number.stands) ∙ none)

pub list-found : (pool : Pool) (address count : ℕ) → IsNumber 2 pool address count → ReadsHolders count pool (address + 2) true
    → ListAnswer pool address (Some (address + 2, count))
list-found pool address count number found =
    let fits = number.fits in
    let size : length found.0 ≡ count = found.1.0 in
    let has : HasList pool address found.0 = record {
      fits = omega arith;
      count = subst (λ (b : List ℕ). HasBytes pool address b) (ap (λ n. little_endian 2 n) (sym size)) number.stands;
      stands = found.1.1;
    } in
    record {
      list = (found.0, (has, (refl, sym size)));
      read = ap (λ n. Some (address + 2, n)) (sym size) ∙ sym (ap (λ o. extent_of address o) (list_in-stands pool address found.0 has));
    }

-- ---- what is read stands

pub stands-holder_in : (pool : Pool) (address : ℕ) (holder : Holder) → IsOfBytes pool → holder_in pool address ≡ Some holder
    → HasHolder pool address holder
unfolding holder_in raw_text
stands-holder_in pool address holder of_bytes is =
    option_and_then_some (λ tag. option_and_then (meaning_of tag) (number_in 4 pool (address + 1))) (get pool address) holder is
    (λ tag here rest.
    option_and_then_some (meaning_of tag) (number_in 4 pool (address + 1)) holder rest
    (λ bits read meant.
    let number = stands-number_in pool 4 (address + 1) bits of_bytes read in
    let raw : Raw = record { tag = tag; bits = bits } in
    record {
      raw = raw;
      fits = record { tag = of_bytes address tag here; bits = number.fits };
      means = meant-meaning raw holder number.fits meant;
      stands = (here, number.stands);
    }))

-- holders that are read stand there
record AreHolders (pool : Pool) (address count : ℕ) (elements : List Holder) : Type 0 where
  pub stands : HasHolders pool address elements
  pub long : length elements ≡ count

stands-holders_in : (pool : Pool) (count address : ℕ) (elements : List Holder) → IsOfBytes pool
    → holders_in count pool address ≡ Some elements → AreHolders pool address count elements
unfolding holders_in
stands-holders_in pool zero address elements of_bytes is =
    subst (λ (e : List Holder). AreHolders pool address 0 e) (same_Some [] elements is) (record { stands = tt; long = refl })
stands-holders_in pool (suc count) address elements of_bytes is =
    option_and_then_some (λ holder. option_map (λ elements. holder ∷ elements) (holders_in count pool (address + 5)))
    (holder_in pool address) elements is
    (λ holder here rest.
    let step : (o : Option (List Holder)) → holders_in count pool (address + 5) ≡ o
    → option_map (λ elements. holder ∷ elements) o ≡ Some elements → AreHolders pool address (suc count) elements
    = λ o. elim o as (λ (o : Option (List Holder)). holders_in count pool (address + 5) ≡ o
    → option_map (λ elements. holder ∷ elements) o ≡ Some elements → AreHolders pool address (suc count) elements) [
      | None ↦ λ none e. absurd (none-some elements e)
      | Some tail ↦ λ read e.
          let later = stands-holders_in pool count (address + 5) tail of_bytes read in
          subst (λ (e : List Holder). AreHolders pool address (suc count) e) (same_Some (holder ∷ tail) elements e) (record {
            stands = (stands-holder_in pool address holder of_bytes here, later.stands);
            long = ap suc later.long;
          })
    ]
    in step (holders_in count pool (address + 5)) refl rest)

pub stands-list_in : (pool : Pool) (address : ℕ) (elements : List Holder) → IsOfBytes pool → list_in pool address ≡ Some elements
    → HasList pool address elements
unfolding list_in
stands-list_in pool address elements of_bytes is =
    option_and_then_some (λ count. holders_in count pool (address + 2)) (number_in 2 pool address) elements is
    (λ count counted rest.
    let number = stands-number_in pool 2 address count of_bytes counted in
    let holders = stands-holders_in pool count (address + 2) elements of_bytes rest in
    let size = holders.long in
    let fits = number.fits in
    record {
      fits = omega arith;
      count = subst (λ (b : List ℕ). HasBytes pool address b) (ap (λ n. little_endian 2 n) (sym size)) number.stands;
      stands = holders.stands;
    })
