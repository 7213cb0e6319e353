-- What is known of a pool's pages from the pages that were gathered, and from those that were placed by their indices.
use Rattle.std.proofs.Common.{◌≡◌, ◌≢◌, ℕ, zero, suc, ◌*◌, ◌^◌, ◌<◌, ◌≤◌, inl, inr, subst, true, false, cond, nat_eq, nat_lt, nat_le, ◌||◌, List, [], ◌∷◌, ◌++◌, map, drop, get_or, length, Option, Some, None, refl, sym, ap, ◌∙◌, arith}
use Rattle.std.specs.List.{AllByRecursion, list_any, slice_get}
use Rattle.std.specs.Option.{is_some, option_map}
use Rattle.std.proofs.lemmas.Bool.{cases_lt, cases_eq, eq-eqb, or_from}
use Rattle.std.proofs.lemmas.Option.{slice_get_past, slice_get-map}
use Rattle.std.proofs.lemmas.List.{length-map}
use Rattle.std.proofs.Math.Seq.{drop-cons}
use denote.Ref.{Bor}
use Rattle.t3_holder.specs.NumberText.{AreBytes}
use Rattle.t3_pools.specs.declared.sheets.Sheet.{Sheet}
use Rattle.t3_pools.specs.Pool.{Paged}
use Rattle.t3_pools.specs.Building.{pages_at}
use Rattle.t3_pools.specs.Finding.{listed}
use Rattle.t3_pools.specs.Inner.Gathering.{paged, sheets_at}
use Rattle.t3_pools.specs.Inner.Keeping.{IsKept}
use Rattle.t3_pools.proofs.Bytes.{is_any_long, or_parts_left, or_parts_right}
use Rattle.t3_pools.proofs.Kept.{one, is_long_in}

abbrev pub now : Bor (List ℕ) → List ℕ
now page = page.now

pub long_map : (size : ℕ) (pages : List (Bor (List ℕ))) → list_any (λ page. nat_lt size (length page.now)) pages ≡ is_long_in size
    (map now pages)
long_map size [] = refl
long_map size (page ∷ pages) = ap (λ b. nat_lt size (length page.now) || b) (long_map size pages)

pub kept_pages : (size : ℕ) (pages : List (Bor (List ℕ))) → list_any (λ page. nat_lt size (length page.now)) pages ≡ false
    → length pages * size < 2 ^ 31 → AllByRecursion AreBytes (map now pages)
    → IsKept size (map now pages)
kept_pages size pages fits narrow bytes =
    record {
      fits = sym (long_map size pages) ∙ fits;
      narrow = subst (λ (n : ℕ). n * size < 2 ^ 31) (sym (length-map pages now)) narrow;
      bytes = bytes;
    }

-- ---- two pages of one index

at_least_one : (sheet : Sheet) (sheets : List Sheet) → 1 ≤ length (sheets_at sheet.index (sheet ∷ sheets))
at_least_one sheet sheets =
    let first : sheets_at sheet.index (sheet ∷ sheets) ≡ sheet.bytes.now ∷ sheets_at sheet.index sheets =
    ap (λ b. cond b (sheet.bytes.now ∷ []) [] ++ sheets_at sheet.index sheets) (eq-eqb sheet.index sheet.index refl) in
    let counted = ap (λ (pages : List (List ℕ)). length pages) first in
    omega arith

pub two_sheets : (sheets : List Sheet) (i : ℕ) (sheet : Sheet) (found : Option (Bor (List ℕ))) → i < length sheets
    → sheet ≡ get_or sheets i sheet → is_some found ≡ true
    → listed now found ++ sheets_at sheet.index (drop i sheets) ≡ sheets_at sheet.index sheets
    → 2 ≤ length (sheets_at sheet.index sheets)
two_sheets sheets i sheet None inside is there all = absurd cc
two_sheets sheets i sheet (Some page) inside is there all =
    let rest : drop i sheets ≡ sheet ∷ drop (suc i) sheets = drop-cons sheets i sheet inside ∙ ap (λ (s : Sheet). s ∷ drop (suc i) sheets) (sym is) in
    let left : 1 ≤ length (sheets_at sheet.index (drop i sheets)) =
    subst (λ (s : List Sheet). 1 ≤ length (sheets_at sheet.index s)) (sym rest) (at_least_one sheet (drop (suc i) sheets)) in
    let counted = ap (λ (pages : List (List ℕ)). length pages) all in
    omega arith

-- ---- from the sheets to the pages

pub at-paged : (number index : ℕ) (sheets : List Sheet) → pages_at index (map (paged number) sheets) ≡ sheets_at index sheets
at-paged number index [] = refl
at-paged number index (sheet ∷ sheets) = ap (λ rest. cond (nat_eq sheet.index index) (sheet.bytes.now ∷ []) [] ++ rest)
    (at-paged number index sheets)

pub far-paged : (number count : ℕ) (sheets : List Sheet) → list_any (λ p. nat_le count p.index) (map (paged number) sheets) ≡ list_any
    (λ sheet. nat_le count sheet.index) sheets
far-paged number count [] = refl
far-paged number count (sheet ∷ sheets) = ap (λ b. nat_le count sheet.index || b) (far-paged number count sheets)

pub long-paged : (number size : ℕ) (sheets : List Sheet) → is_any_long size (map (paged number) sheets) ≡ list_any
    (λ sheet. nat_lt size (length sheet.bytes.now)) sheets
long-paged number size [] = refl
long-paged number size (sheet ∷ sheets) = ap (λ b. nat_lt size (length sheet.bytes.now) || b) (long-paged number size sheets)

-- no page stands at an index that isn't below the count, where none is far
none_far : (count index : ℕ) (all : List Paged) → list_any (λ p. nat_le count p.index) all ≡ false → count ≤ index → pages_at index all ≡ []
none_far count index [] near past = refl
none_far count index (p ∷ all) near past =
    let here : nat_le count p.index ≡ false = or_parts_left (nat_le count p.index)
    (list_any (λ (p : Paged). nat_le count p.index) all) near in
    let later = or_parts_right (nat_le count p.index) (list_any (λ (p : Paged). nat_le count p.index) all) near in
    let below : p.index < count = grind (arith, here) in
    let other : nat_eq p.index index ≡ false = grind arith in
    ap (λ b. cond b (p.bytes ∷ []) [] ++ pages_at index all) other ∙ none_far count index all later past

-- each index has the page that was placed there, and no other
pub placed_pages : (count : ℕ) (all : List Paged) (sorted : ℕ → Option (Bor (List ℕ))) (ordered : List (Bor (List ℕ)))
    → list_any (λ p. nat_le count p.index) all ≡ false
    → ((index : ℕ) → listed now (sorted index) ≡ pages_at index all)
    → length ordered ≡ count
    → ((index : ℕ) → index < count → sorted index ≡ slice_get ordered index)
    → (index : ℕ) → pages_at index all ≡ one (slice_get (map now ordered) index)
placed_pages count all sorted ordered near each counted same index = elim (cases_lt index count) [
  | inl below ↦ sym (each index) ∙ ap (λ o. listed now o) (same index below) ∙ listed_map (slice_get ordered index)
      ∙ ap one (sym (slice_get-map now ordered index))
  | inr past ↦ none_far count index all near past ∙ sym (ap one (slice_get_past (map now ordered) index (subst (λ n. n ≤ index) (sym (length-map ordered now ∙ counted)) past)))
]
  where
    listed_map : (found : Option (Bor (List ℕ))) → listed now found ≡ one (option_map now found)
    listed_map None = refl
    listed_map (Some page) = refl

-- ---- the rules that these pages keep

one_at_most : (found : Option (List ℕ)) → length (one found) ≤ 1
one_at_most None = omega arith
one_at_most (Some page) = omega arith

pub no_twice : (all : List Paged) (pages : List (List ℕ)) → ((index : ℕ) → pages_at index all ≡ one (slice_get pages index))
    → (index : ℕ) → ¬ 2 ≤ length (pages_at index all)
no_twice all pages same index twice =
    let counted = ap (λ (p : List (List ℕ)). length p) (same index) in
    let most = one_at_most (slice_get pages index) in
    absurd (omega arith)

is_there : (pages : List (List ℕ)) (index : ℕ) → index < length pages → one (slice_get pages index) ≢ []
is_there [] index below none = absurd (omega arith)
is_there (page ∷ pages) zero below none = absurd cc
is_there (page ∷ pages) (suc index) below none = is_there pages index (omega arith) none

pub no_gap : (all : List Paged) (pages : List (List ℕ)) → ((index : ℕ) → pages_at index all ≡ one (slice_get pages index)) → (index : ℕ)
    → index < length pages → pages_at index all ≢ []
no_gap all pages same index below none = is_there pages index below (sym (same index) ∙ none)

short_at : (size index : ℕ) (all : List Paged) (page : List ℕ) (rest : List (List ℕ)) → is_any_long size all ≡ false
    → pages_at index all ≡ page ∷ rest → nat_lt size (length page) ≡ false
short_at size index [] page rest short is = absurd cc
short_at size index (p ∷ all) page rest short is =
    let here : nat_lt size (length p.bytes) ≡ false = or_parts_left (nat_lt size (length p.bytes)) (is_any_long size all) short in
    let later = or_parts_right (nat_lt size (length p.bytes)) (is_any_long size all) short in
    elim (cases_eq p.index index) [
      | inl same ↦
          let first : pages_at index (p ∷ all) ≡ p.bytes ∷ pages_at index all = ap (λ b. cond b (p.bytes ∷ []) [] ++ pages_at index all)
          (eq-eqb p.index index same) in
          let both : p.bytes ∷ pages_at index all ≡ page ∷ rest = sym first ∙ is in
          let bytes : p.bytes ≡ page = cc in
          subst (λ (b : List ℕ). nat_lt size (length b) ≡ false) bytes here
      | inr apart ↦
          let other : nat_eq p.index index ≡ false = grind (arith, apart) in
          let skipped : pages_at index (p ∷ all) ≡ pages_at index all = ap (λ b. cond b (p.bytes ∷ []) [] ++ pages_at index all) other in
          short_at size index all page rest later (sym skipped ∙ is)
    ]

short_each : (size : ℕ) (pages : List (List ℕ)) → ((index : ℕ) (page : List ℕ) → slice_get pages index ≡ Some page → nat_lt size (length page) ≡ false) → is_long_in size pages ≡ false
short_each size [] each = refl
short_each size (page ∷ pages) each =
    let here = each 0 page refl in
    let later = short_each size pages (λ index. each (suc index)) in
    or_from (nat_lt size (length page)) (is_long_in size pages) here later

-- the pages that were placed are as short as all
pub short_pages : (size : ℕ) (all : List Paged) (pages : List (List ℕ))
    → ((index : ℕ) → pages_at index all ≡ one (slice_get pages index)) → is_any_long size all ≡ false
    → is_long_in size pages ≡ false
short_pages size all pages same short = short_each size pages
    (λ index page found. short_at size index all page [] short (same index ∙ ap one found))
