-- The bytes of a kept pool.
use Rattle.std.proofs.Common.{◌≡◌, ◌≢◌, ℕ, zero, suc, ◌+◌, ◌*◌, ◌/◌, ◌%◌, ◌^◌, ◌<◌, ◌≤◌, ◌⊎◌, inl, inr, subst, Bool, true, false, cond, nat_eq, nat_lt, ◌||◌, List, [], ◌∷◌, ◌++◌, drop, get_or, length, Option, Some, None, refl, sym, ap, ◌∙◌, arith}
use Rattle.std.specs.Ordering.{nat_cmp}
use Rattle.std.specs.Cmp.{nat_cmp_total}
use Rattle.std.specs.FinMap.{get, find, from_entries, get-from_entries, same_map, nat_cmp-IsAntisymmetric}
use Rattle.std.specs.List.{AllByRecursion, flat_map, list_any, slice_get}
use Rattle.std.proofs.lemmas.Bool.{ltb-false, cases_lt, cases_eq, eq-eqb}
use Rattle.std.proofs.lemmas.Option.{slice_get_past}
use Rattle.std.proofs.lemmas.List.{length-drop}
use Rattle.std.proofs.Math.Nat.{div-add-mod, mul-le-mul_right}
use Rattle.t3_holder.specs.NumberText.{AreBytes}
use Rattle.t3_pools.specs.Pool.{Pool, Paged, page_bytes, HasBytes, ReachesPageEnd}
use Rattle.t3_pools.specs.Constants.{IsOfBytes}
use Rattle.t3_pools.specs.Building.{pages_at}
use Rattle.t3_pools.specs.Finding.{listed}
use Rattle.t3_pools.specs.Inner.Keeping.{paged_from, kept_bytes, IsKept, bytes_of, run_in, Runs}
use Rattle.t3_pools.proofs.Standing.{stands_each}
use Rattle.t3_pools.proofs.Bytes.{or_else-none, first_at, is_any_long, find_pages, find_none, or_parts_left, or_parts_right}

abbrev pub one : Option (List ℕ) → List (List ℕ)
one found = listed (λ page. page) found

abbrev pub is_long_in : ℕ → List (List ℕ) → Bool
is_long_in size pages = list_any (λ page. nat_lt size (length page)) pages

none_before : (pages : List (List ℕ)) (at index : ℕ) → index < at → pages_at index (paged_from at pages) ≡ []
none_before [] at index h = refl
none_before (page ∷ pages) at index h =
    let other : nat_eq at index ≡ false = grind arith in
    ap (λ b. cond b (page ∷ []) [] ++ pages_at index (paged_from (at + 1) pages)) other ∙ none_before pages (at + 1) index (omega arith)

at_paged : (pages : List (List ℕ)) (at place : ℕ) → pages_at (at + place) (paged_from at pages) ≡ one (slice_get pages place)
at_paged [] at place = refl
at_paged (page ∷ pages) at zero =
    let same : nat_eq at (at + 0) ≡ true = eq-eqb at (at + 0) (omega arith) in
    ap (λ b. cond b (page ∷ []) [] ++ pages_at (at + 0) (paged_from (at + 1) pages)) same
    ∙ ap (λ pages. page ∷ pages) (none_before pages (at + 1) (at + 0) (omega arith))
at_paged (page ∷ pages) at (suc place) =
    let other : nat_eq at (at + suc place) ≡ false = grind arith in
    let later : at + suc place ≡ (at + 1) + place = omega arith in
    ap (λ b. cond b (page ∷ []) [] ++ pages_at (at + suc place) (paged_from (at + 1) pages)) other
    ∙ ap (λ n. pages_at n (paged_from (at + 1) pages)) later
    ∙ at_paged pages (at + 1) place

pub pages_at-paged_from : (pages : List (List ℕ)) (index : ℕ) → pages_at index (paged_from 0 pages) ≡ one (slice_get pages index)
pages_at-paged_from pages index = let from : index ≡ 0 + index = omega arith in ap (λ n. pages_at n (paged_from 0 pages)) from
    ∙ at_paged pages 0 index

long_paged : (size : ℕ) (pages : List (List ℕ)) (at : ℕ) → is_any_long size (paged_from at pages) ≡ is_long_in size pages
long_paged size [] at = refl
long_paged size (page ∷ pages) at = ap (λ b. nat_lt size (length page) || b) (long_paged size pages (at + 1))

first_at-one : (place : ℕ) (found : Option (List ℕ)) → first_at place (one found) ≡ slice_get (bytes_of found) place
unfolding first_at
first_at-one place None = refl
first_at-one place (Some page) = or_else-none (slice_get page place)

-- pages that say the same at each index make one pool
pub same_pool : (size : ℕ) (all : List Paged) (pages : List (List ℕ)) → is_any_long size all ≡ false → is_long_in size pages ≡ false
    → ((index : ℕ) → pages_at index all ≡ one (slice_get pages index))
    → from_entries (flat_map (page_bytes size) all) ≡ kept_bytes size pages
unfolding kept_bytes
same_pool zero all pages short fits same =
    same_map nat_cmp_total nat_cmp-IsAntisymmetric _ _ (λ address.
    get-from_entries nat_cmp_total (flat_map (page_bytes 0) all) address ∙ find_none address all short
    ∙ sym (find_none address (paged_from 0 pages) (long_paged 0 pages 0 ∙ fits))
    ∙ sym (get-from_entries nat_cmp_total (flat_map (page_bytes 0) (paged_from 0 pages)) address))
same_pool (suc n) all pages short fits same =
    same_map nat_cmp_total nat_cmp-IsAntisymmetric _ _ (λ address.
    let size : ℕ = suc n in
    let at : address ≡ address / size * size + address % size = omega (arith, div-add-mod address size) in
    let inside : address % size < size = omega arith in
    get-from_entries nat_cmp_total (flat_map (page_bytes size) all) address
    ∙ ap (λ n. find nat_cmp n (flat_map (page_bytes size) all)) at
    ∙ find_pages size (address / size) (address % size) all inside short
    ∙ ap (λ o. first_at (address % size) o) (same (address / size) ∙ sym (pages_at-paged_from pages (address / size)))
    ∙ sym (find_pages size (address / size) (address % size) (paged_from 0 pages) inside (long_paged size pages 0 ∙ fits))
    ∙ ap (λ n. find nat_cmp n (flat_map (page_bytes size) (paged_from 0 pages))) (sym at)
    ∙ sym (get-from_entries nat_cmp_total (flat_map (page_bytes size) (paged_from 0 pages)) address))

-- the byte at a place of a page
pub kept_byte : (size index place : ℕ) (pages : List (List ℕ)) → place < size → is_long_in size pages ≡ false
    → get (kept_bytes size pages) (index * size + place) ≡ slice_get (bytes_of (slice_get pages index)) place
unfolding kept_bytes
kept_byte size index place pages inside fits =
    get-from_entries nat_cmp_total (flat_map (page_bytes size) (paged_from 0 pages)) (index * size + place)
    ∙ find_pages size index place (paged_from 0 pages) inside (long_paged size pages 0 ∙ fits)
    ∙ ap (λ o. first_at place o) (pages_at-paged_from pages index)
    ∙ first_at-one place (slice_get pages index)

pub kept_none : (pages : List (List ℕ)) (address : ℕ) → is_long_in 0 pages ≡ false → get (kept_bytes 0 pages) address ≡ None
unfolding kept_bytes
kept_none pages address fits =
    get-from_entries nat_cmp_total (flat_map (page_bytes 0) (paged_from 0 pages)) address
    ∙ find_none address (paged_from 0 pages) (long_paged 0 pages 0 ∙ fits)

pub fitting : (size index : ℕ) (pages : List (List ℕ)) → is_long_in size pages ≡ false → length (bytes_of (slice_get pages index)) ≤ size
fitting size index [] fits = omega arith
fitting size zero (page ∷ pages) fits = ltb-false size (length page)
    (or_parts_left (nat_lt size (length page)) (is_long_in size pages) fits)
fitting size (suc index) (page ∷ pages) fits = fitting size index pages
    (or_parts_right (nat_lt size (length page)) (is_long_in size pages) fits)

slice_get-drop : (bytes : List ℕ) (place j : ℕ) → slice_get (drop place bytes) j ≡ slice_get bytes (place + j)
slice_get-drop bytes zero j = let from : j ≡ 0 + j = omega arith in ap (λ n. slice_get bytes n) from
slice_get-drop [] (suc place) j = refl
slice_get-drop (byte ∷ bytes) (suc place) j = let later : suc (place + j) ≡ suc place + j = omega arith in slice_get-drop bytes place j
    ∙ ap (λ n. slice_get (byte ∷ bytes) n) later

drop-empty : (bytes : List ℕ) (place : ℕ) → drop place bytes ≡ [] → length bytes ≤ place
drop-empty [] place h = omega arith
drop-empty (byte ∷ bytes) zero h = absurd cc
drop-empty (byte ∷ bytes) (suc place) h = let rest = drop-empty bytes place h in omega arith

there : (pages : List (List ℕ)) (index : ℕ) → 0 < length (bytes_of (slice_get pages index)) → index < length pages
there [] index h = absurd (omega arith)
there (page ∷ pages) zero h = omega arith
there (page ∷ pages) (suc index) h = let rest = there pages index h in omega arith

-- bytes that reach from a place of a page to its end
record Reaches (size place : ℕ) (pool : Pool) (address : ℕ) (bytes : List ℕ) : Type 0 where
  pub stand : HasBytes pool address bytes
  pub empty : bytes ≡ [] → get pool address ≡ None
  pub narrow : 0 < length bytes → address + length bytes < 2 ^ 31
  pub within : 0 < length bytes → place + length bytes ≤ size
  pub ends : (place + length bytes ≡ size) ⊎ (get pool (address + length bytes) ≡ None)

-- a run ends where its page does, or behind the bytes of a short page
reaches_end : (size index place : ℕ) (pages : List (List ℕ)) → place < size → is_long_in size pages ≡ false
    → (place + length (drop place (bytes_of (slice_get pages index))) ≡ size)
    ⊎ (get (kept_bytes size pages) ((index * size + place) + length (drop place (bytes_of (slice_get pages index)))) ≡ None)
reaches_end size index place pages inside fits =
    let page : List ℕ = bytes_of (slice_get pages index) in
    let short : length (bytes_of (slice_get pages index)) ≤ size = fitting size index pages fits in
    let left = length-drop place (bytes_of (slice_get pages index)) in
    elim (cases_lt (place + length (drop place (bytes_of (slice_get pages index)))) size) [
      | inl before ↦
          let at : (index * size + place) + length (drop place (bytes_of (slice_get pages index)))
          ≡ index * size + (place + length (drop place (bytes_of (slice_get pages index)))) = omega arith in
          inr (ap (λ n. get (kept_bytes size pages) n) at
          ∙ kept_byte size index (place + length (drop place (bytes_of (slice_get pages index)))) pages before fits
          ∙ slice_get_past (bytes_of (slice_get pages index)) (place + length (drop place (bytes_of (slice_get pages index)))) (omega arith))
      | inr past ↦ inl (omega arith)
    ]

runs_at : (size index place : ℕ) (pages : List (List ℕ)) → place < size → IsKept size pages
    → Reaches size place (kept_bytes size pages) (index * size + place) (drop place (bytes_of (slice_get pages index)))
runs_at size index place pages inside kept =
    let page : List ℕ = bytes_of (slice_get pages index) in
    let short : length (bytes_of (slice_get pages index)) ≤ size = fitting size index pages kept.fits in
    let left = length-drop place (bytes_of (slice_get pages index)) in
    record {
      stand = stands_each (kept_bytes size pages) (drop place (bytes_of (slice_get pages index))) (index * size + place) (λ j within.
          let along : (index * size + place) + j ≡ index * size + (place + j) = omega arith in
          ap (λ n. get (kept_bytes size pages) n) along ∙ kept_byte size index (place + j) pages (omega arith) kept.fits
          ∙ sym (slice_get-drop (bytes_of (slice_get pages index)) place j));
      empty = λ none. kept_byte size index place pages inside kept.fits
          ∙ slice_get_past (bytes_of (slice_get pages index)) place (drop-empty (bytes_of (slice_get pages index)) place none);
      narrow = λ some.
          let below = there pages index (omega arith) in
          let most : (index + 1) * size ≤ length pages * size = mul-le-mul_right size (omega arith) in
          let one_more : (index + 1) * size ≡ index * size + size = omega arith in
          let narrow = kept.narrow in
          omega arith;
      within = λ some. omega arith;
      ends = reaches_end size index place pages inside kept.fits;
    }

run_in-drop : (size : ℕ) (pages : List (List ℕ)) (address : ℕ) → size ≢ 0
    → run_in size pages address ≡ drop (address % size) (bytes_of (slice_get pages (address / size)))
unfolding run_in
run_in-drop size pages address some =
    let test : nat_eq size 0 ≡ false = grind (arith, some) in
    ap (λ b. cond b [] (drop (address % size) (bytes_of (slice_get pages (address / size))))) test

pub run_in-zero : (size : ℕ) (pages : List (List ℕ)) (address : ℕ) → size ≡ 0 → [] ≡ run_in size pages address
unfolding run_in
run_in-zero size pages address none =
    sym (ap (λ b. cond b [] (drop (address % size) (bytes_of (slice_get pages (address / size))))) (eq-eqb size 0 none))

pub run_in-page : (size : ℕ) (pages : List (List ℕ)) (address : ℕ) (page : List ℕ) → size ≢ 0
    → bytes_of (slice_get pages (address / size)) ≡ page
    → drop (address % size) page ≡ run_in size pages address
run_in-page size pages address page some is = sym (run_in-drop size pages address some ∙ ap (λ p. drop (address % size) p) is)

-- what is known of the run of one address
record RunsIn (size : ℕ) (pool : Pool) (address : ℕ) (bytes : List ℕ) : Type 0 where
  pub stand : HasBytes pool address bytes
  pub empty : bytes ≡ [] → get pool address ≡ None
  pub narrow : 0 < length bytes → address + length bytes < 2 ^ 31
  pub whole : ReachesPageEnd size pool address bytes

to_runs : (size address : ℕ) (pool : Pool) (bytes : List ℕ) → Reaches size (address % size) pool address bytes
    → RunsIn size pool address bytes
to_runs size address pool bytes reaches = record {
  stand = reaches.stand;
  empty = reaches.empty;
  narrow = reaches.narrow;
  whole = record { within = reaches.within; ends = reaches.ends };
}

no_run : (size : ℕ) (pages : List (List ℕ)) (address : ℕ) → IsKept size pages → size ≡ 0 → RunsIn size (kept_bytes size pages) address []
no_run size pages address kept none =
    let zero_size : is_long_in 0 pages ≡ false = subst (λ (n : ℕ). is_long_in n pages ≡ false) none kept.fits in
    let nothing : (at : ℕ) → get (kept_bytes size pages) at ≡ None =
    λ at. ap (λ n. get (kept_bytes n pages) at) none ∙ kept_none pages at zero_size in
    record {
      stand = tt;
      empty = λ h. nothing address;
      narrow = λ h. absurd (omega arith);
      whole = record { within = λ h. absurd (omega arith); ends = inr (nothing (address + 0)) };
    }

runs_in : (size : ℕ) (pages : List (List ℕ)) (address : ℕ) → IsKept size pages
    → RunsIn size (kept_bytes size pages) address (run_in size pages address)
runs_in size pages address kept = elim (cases_eq size 0) [
  | inl none ↦ subst (λ (run : List ℕ). RunsIn size (kept_bytes size pages) address run) (run_in-zero size pages address none)
      (no_run size pages address kept none)
  | inr some ↦
      let at : address / size * size + address % size ≡ address = omega (arith, div-add-mod address size) in
      subst (λ (run : List ℕ). RunsIn size (kept_bytes size pages) address run) (sym (run_in-drop size pages address some))
      (to_runs size address (kept_bytes size pages) (drop (address % size) (bytes_of (slice_get pages (address / size))))
      (subst (λ (a : ℕ). Reaches size (address % size) (kept_bytes size pages) a (drop (address % size) (bytes_of (slice_get pages (address / size))))) at
      (runs_at size (address / size) (address % size) pages (omega arith) kept)))
]

-- no byte stands at 2^31 or beyond
kept-beyond : (size : ℕ) (pages : List (List ℕ)) (run : List ℕ) (far : ℕ) → 2 ^ 31 ≤ far → RunsIn size (kept_bytes size pages) far run
    → get (kept_bytes size pages) far ≡ None
kept-beyond size pages [] far le runs = runs.empty refl
kept-beyond size pages (byte ∷ run) far le runs = absurd (omega (arith, runs.narrow (omega arith)))

-- a list is bytes where each item is below 256
pub AreBytes-each : (bytes : List ℕ) → ((i : ℕ) → get_or bytes i 0 < 256) → AreBytes bytes
AreBytes-each [] each = tt
AreBytes-each (byte ∷ bytes) each = (each 0, AreBytes-each bytes (λ i. each (suc i)))

-- what stands in a list of bytes is a byte
byte_in : (bytes : List ℕ) (place byte : ℕ) → AreBytes bytes → slice_get bytes place ≡ Some byte → byte < 256
byte_in [] place byte are there = absurd cc
byte_in (b ∷ bytes) zero byte are there = let same : b ≡ byte = cc in subst (λ (n : ℕ). n < 256) same are.0
byte_in (b ∷ bytes) (suc place) byte are there = byte_in bytes place byte are.1 there

byte_in-page : (pages : List (List ℕ)) (index place byte : ℕ) → AllByRecursion AreBytes pages
    → slice_get (bytes_of (slice_get pages index)) place ≡ Some byte → byte < 256
byte_in-page [] index place byte are there = absurd cc
byte_in-page (page ∷ pages) zero place byte are there = byte_in page place byte are.0 there
byte_in-page (page ∷ pages) (suc index) place byte are there = byte_in-page pages index place byte are.1 there

-- each byte that stands is one of a page's
kept-IsOfBytes : (size : ℕ) (pages : List (List ℕ)) → IsKept size pages → IsOfBytes (kept_bytes size pages)
kept-IsOfBytes zero pages kept address byte there =
    let none : None ≡ Some byte = sym (kept_none pages address kept.fits) ∙ there in
    absurd cc
kept-IsOfBytes (suc n) pages kept address byte there =
    let size : ℕ = suc n in
    let at : address / size * size + address % size ≡ address = omega (arith, div-add-mod address size) in
    byte_in-page pages (address / size) (address % size) byte kept.bytes
    (sym (kept_byte size (address / size) (address % size) pages (omega arith) kept.fits)
    ∙ ap (λ n. get (kept_bytes size pages) n) at ∙ there)

pub kept_runs : (size : ℕ) (pages : List (List ℕ)) (address : ℕ) → IsKept size pages
    → Runs size (kept_bytes size pages) address (run_in size pages address)
kept_runs size pages address kept =
    let runs = runs_in size pages address kept in
    record {
      stand = runs.stand;
      empty = runs.empty;
      narrow = runs.narrow;
      whole = runs.whole;
      beyond = λ far le. kept-beyond size pages (run_in size pages far) far le (runs_in size pages far kept);
      bytes = kept-IsOfBytes size pages kept;
    }
