-- Exception tables: the entry at an address, what is known of a table while it is gone over, and the handler that it gives.
use Rattle.std.proofs.Common.{◌≡◌, ℕ, zero, suc, ◌+◌, ◌*◌, ◌^◌, ◌<◌, ◌≤◌, true, false, cond, List, [], ◌∷◌, ◌++◌, length, Option, Some, None, refl, sym, ap, ◌∙◌, subst, arith}
use Rattle.std.proofs.lemmas.List.{length-append, append-nil}
use Rattle.std.specs.List.{flat_map, find, AllByRecursion}
use Rattle.std.specs.Option.{option_map}
use Rattle.t3_holder.specs.NumberText.{little_endian}
use Rattle.t3_holder.proofs.Numbers.{length-little_endian, same_number}
use Rattle.t3_blocks.proofs.Lists.{AllByRecursion-push}
use Rattle.t3_pools.specs.Pool.{Pool, HasBytes}
use Rattle.t3_pools.proofs.Standing.{stands_left, stands_right, stands_both, same_bytes}
use Rattle.t3_methods.specs.ExceptionTable.{Entry, IsEntry, entry_text, HasTable, catches, handler_among}
use Rattle.t3_methods.specs.Inner.Window.{Shows, ShowsAll, number_at}
use Rattle.t3_methods.specs.Inner.Tables.{HasEntry, earlier_of}
use Rattle.t3_methods.proofs.Shown.{short, number_less, number_stands}

at_start : (code : Pool) (at : ℕ) (bytes : List ℕ) → HasBytes code at bytes → HasBytes code (at + 0) bytes
at_start code at bytes = subst (λ (n : ℕ). HasBytes code n bytes) (let e : at ≡ at + 0 = omega arith in e)

from_start : (code : Pool) (at : ℕ) (bytes : List ℕ) → HasBytes code (at + 0) bytes → HasBytes code at bytes
from_start code at bytes = subst (λ (n : ℕ). HasBytes code n bytes) (let e : at + 0 ≡ at = omega arith in e)

-- ---- an entry

pub length-entry_text : (entry : Entry) → length (entry_text entry) ≡ 10
length-entry_text entry =
    let a = length-little_endian 2 entry.first in
    let b = length-little_endian 2 entry.last in
    let c = length-little_endian 4 entry.class in
    let d = length-little_endian 2 entry.handler in
    simp (length-append) (omega (arith, a, b, c, d))

pub entry_short : (code : Pool) (at : ℕ) (bytes : List ℕ) → ShowsAll code at bytes → length bytes < 10 → (entry : Entry) → ¬ HasEntry code at entry
entry_short code at bytes shows less entry has =
    short code at 0 10 bytes (entry_text entry) shows.whole (omega arith) (omega arith) (omega arith) (length-entry_text entry)
    (at_start code at (entry_text entry) has.stands)

-- a number that a window says stands in front of what stands behind it
with_number : (code : Pool) (at place width n : ℕ) (bytes ys : List ℕ) → Shows code at bytes → place + width ≤ length bytes
    → n ≡ number_at width bytes place → HasBytes code (at + (place + width)) ys → HasBytes code (at + place) (little_endian width n ++ ys)
with_number code at place width n bytes ys shows le is behind =
    let front = subst (λ (m : ℕ). HasBytes code (at + place) (little_endian width m)) (sym is) (number_stands code at place width bytes shows le) in
    let there : at + (place + width) ≡ (at + place) + length (little_endian width n) = omega (arith, length-little_endian width n) in
    stands_both code (little_endian width n) ys (at + place) front (subst (λ (m : ℕ). HasBytes code m ys) there behind)

number_fits : (code : Pool) (at place width n : ℕ) (bytes : List ℕ) → Shows code at bytes → place + width ≤ length bytes → n ≡ number_at width bytes place
    → n < 256 ^ width
number_fits code at place width n bytes shows le is =
    subst (λ (m : ℕ). m < 256 ^ width) (sym is) (number_less code at place width bytes shows le)

pub entry_shown : (code : Pool) (at first last class handler : ℕ) (bytes : List ℕ) → Shows code at bytes → 10 ≤ length bytes
    → first ≡ number_at 2 bytes 0 → last ≡ number_at 2 bytes 2 → class ≡ number_at 4 bytes 4 → handler ≡ number_at 2 bytes 8
    → HasEntry code at (record { first = first; last = last; class = class; handler = handler })
entry_shown code at first last class handler bytes shows le first_is last_is class_is handler_is =
    let fourth : HasBytes code (at + 8) (little_endian 2 handler) =
    subst (λ (m : ℕ). HasBytes code (at + 8) (little_endian 2 m)) (sym handler_is) (number_stands code at 8 2 bytes shows (omega arith)) in
    let third = with_number code at 4 4 class bytes (little_endian 2 handler) shows (omega arith) class_is fourth in
    let second = with_number code at 2 2 last bytes (little_endian 4 class ++ little_endian 2 handler) shows (omega arith) last_is third in
    let all = with_number code at 0 2 first bytes (little_endian 2 last ++ (little_endian 4 class ++ little_endian 2 handler)) shows (omega arith) first_is second in
    record {
      fits = record {
        first = omega (arith, number_fits code at 0 2 first bytes shows (omega arith) first_is);
        last = omega (arith, number_fits code at 2 2 last bytes shows (omega arith) last_is);
        class = omega (arith, number_fits code at 4 4 class bytes shows (omega arith) class_is);
        handler = omega (arith, number_fits code at 8 2 handler bytes shows (omega arith) handler_is);
      };
      stands = from_start code at _ all;
    }

-- ---- entries

-- each of them
each_entry : (code : Pool) (at nth : ℕ) (entries : List Entry) → nth < length entries → AllByRecursion IsEntry entries
    → HasBytes code at (flat_map entry_text entries) → (entry : Entry) × HasEntry code (at + 10 * nth) entry
each_entry code at nth [] less fit have = absurd (omega arith)
each_entry code at zero (entry ∷ entries) less fit have =
    let here : at ≡ at + 10 * 0 = omega arith in (
      entry,
      subst (λ (n : ℕ). HasEntry code n entry) here
          (record { fits = fit.0; stands = stands_left code (entry_text entry) (flat_map entry_text entries) at have }),
    )
each_entry code at (suc nth) (entry ∷ entries) less fit have =
    let behind = stands_right code (entry_text entry) (flat_map entry_text entries) at have in
    let long : at + length (entry_text entry) ≡ at + 10 = ap (λ n. at + n) (length-entry_text entry) in
    let rest = each_entry code (at + 10) nth entries (omega arith) fit.1
    (subst (λ (n : ℕ). HasBytes code n (flat_map entry_text entries)) long behind) in
    let there : (at + 10) + 10 * nth ≡ at + 10 * suc nth = omega arith in
    (rest.0, subst (λ (n : ℕ). HasEntry code n rest.0) there rest.1)

-- one more behind them
entries_more : (code : Pool) (at : ℕ) (entries : List Entry) (entry : Entry) → HasBytes code at (flat_map entry_text entries)
    → HasBytes code (at + 10 * length entries) (entry_text entry) → HasBytes code at (flat_map entry_text (entries ++ entry ∷ []))
entries_more code at [] entry have one =
    subst (λ (b : List ℕ). HasBytes code at b) (sym (append-nil (entry_text entry))) (from_start code at (entry_text entry) one)
entries_more code at (x ∷ entries) entry have one =
    let front = stands_left code (entry_text x) (flat_map entry_text entries) at have in
    let behind = stands_right code (entry_text x) (flat_map entry_text entries) at have in
    let long : at + length (entry_text x) ≡ at + 10 = ap (λ n. at + n) (length-entry_text x) in
    let there : at + 10 * suc (length entries) ≡ (at + 10) + 10 * length entries = omega arith in
    let rest = entries_more code (at + 10) entries entry (subst (λ (n : ℕ). HasBytes code n (flat_map entry_text entries)) long behind)
    (subst (λ (n : ℕ). HasBytes code n (entry_text entry)) there one) in
    stands_both code (entry_text x) (flat_map entry_text (entries ++ entry ∷ [])) at front
    (subst (λ (n : ℕ). HasBytes code n (flat_map entry_text (entries ++ entry ∷ []))) (sym long) rest)

-- the first that catches, with one more behind them
handler_more : (method place : ℕ) (classes : List ℕ) (entries : List Entry) (entry : Entry)
    → earlier_of method place classes (handler_among method place classes entries) entry ≡ handler_among method place classes (entries ++ entry ∷ [])
handler_more method place classes [] entry =
    elim (catches method place classes entry) as (λ b. cond b (Some entry.handler) None ≡ option_map (λ (e : Entry). e.handler) (cond b (Some entry) None)) [
      | true ↦ refl
      | false ↦ refl
    ]
handler_more method place classes (x ∷ entries) entry =
    elim (catches method place classes x) as (λ b.
    earlier_of method place classes (option_map (λ (e : Entry). e.handler) (cond b (Some x) (find (catches method place classes) entries))) entry
    ≡ option_map (λ (e : Entry). e.handler) (cond b (Some x) (find (catches method place classes) (entries ++ entry ∷ [])))) [
      | true ↦ refl
      | false ↦ handler_more method place classes entries entry
    ]

-- ---- a table that is gone over

-- so many entries stand from an address on, and this is the handler of the first of them that catches
pub record Passed (code : Pool) (at method place : ℕ) (classes : List ℕ) (count : ℕ) (handler : Option ℕ) : Type 0 where
  pub entries : List Entry
  pub many : length entries ≡ count
  pub fit : AllByRecursion IsEntry entries
  pub have : HasBytes code at (flat_map entry_text entries)
  pub first : handler ≡ handler_among method place classes entries

pub passed_none : (code : Pool) (at method place : ℕ) (classes : List ℕ) → Passed code at method place classes 0 None
passed_none code at method place classes = record { entries = []; many = refl; fit = tt; have = tt; first = refl }

pub passed_more : (code : Pool) (at method place : ℕ) (classes : List ℕ) (count next : ℕ) (found handler : Option ℕ) (entry : Entry)
    → Passed code at method place classes count found → next ≡ at + 10 * count → HasEntry code next entry
    → handler ≡ earlier_of method place classes found entry → Passed code at method place classes (count + 1) handler
passed_more code at method place classes count next found handler entry passed is has told =
    let there : next ≡ at + 10 * length passed.entries = is ∙ ap (λ n. at + 10 * n) (sym passed.many) in
    record {
      entries = passed.entries ++ entry ∷ [];
      many = simp (length-append) (omega (arith, passed.many));
      fit = AllByRecursion-push IsEntry passed.entries entry passed.fit has.fits;
      have = entries_more code at passed.entries entry passed.have (subst (λ (n : ℕ). HasBytes code n (entry_text entry)) there has.stands);
      first = told ∙ ap (λ o. earlier_of method place classes o entry) passed.first ∙ handler_more method place classes passed.entries entry;
    }

-- ---- a table

count_there : (code : Pool) (table count : ℕ) (bytes : List ℕ) (entries : List Entry) → Shows code table bytes → 2 ≤ length bytes → count ≡ number_at 2 bytes 0
    → HasTable code table entries → length entries ≡ count
count_there code table count bytes entries shows le is has =
    let fits = number_fits code table 0 2 count bytes shows (omega arith) is in
    let front = stands_left code (little_endian 2 (length entries)) (flat_map entry_text entries) table has.stands in
    let here = from_start code table _ (subst (λ (m : ℕ). HasBytes code (table + 0) (little_endian 2 m)) (sym is)
    (number_stands code table 0 2 bytes shows (omega arith))) in
    let long = length-little_endian 2 (length entries) ∙ sym (length-little_endian 2 count) in
    same_number 2 (length entries) count (omega (arith, has.fits)) fits (same_bytes code _ _ table front here long)

pub table_short : (code : Pool) (table : ℕ) (bytes : List ℕ) → ShowsAll code table bytes → length bytes < 2 → (entries : List Entry) → ¬ HasTable code table entries
table_short code table bytes shows less entries has =
    let front = stands_left code (little_endian 2 (length entries)) (flat_map entry_text entries) table has.stands in
    short code table 0 2 bytes (little_endian 2 (length entries)) shows.whole (omega arith) (omega arith) (omega arith)
    (length-little_endian 2 (length entries)) (at_start code table _ front)

pub table_gap : (code : Pool) (table count nth next : ℕ) (bytes : List ℕ) → Shows code table bytes → 2 ≤ length bytes → count ≡ number_at 2 bytes 0
    → nth < count → next ≡ (table + 2) + 10 * nth → ((entry : Entry) → ¬ HasEntry code next entry) → (entries : List Entry)
    → ¬ HasTable code table entries
table_gap code table count nth next bytes shows le is less there none entries has =
    let many = count_there code table count bytes entries shows le is has in
    let behind = stands_right code (little_endian 2 (length entries)) (flat_map entry_text entries) table has.stands in
    let long : table + length (little_endian 2 (length entries)) ≡ table + 2 = ap (λ n. table + n) (length-little_endian 2 (length entries)) in
    let some = each_entry code (table + 2) nth entries (omega (arith, many)) has.each
    (subst (λ (n : ℕ). HasBytes code n (flat_map entry_text entries)) long behind) in
    none some.0 (subst (λ (n : ℕ). HasEntry code n some.0) (sym there) some.1)

pub table_whole : (code : Pool) (table method place : ℕ) (classes : List ℕ) (count nth : ℕ) (handler : Option ℕ) (bytes : List ℕ) → Shows code table bytes
    → 2 ≤ length bytes → count ≡ number_at 2 bytes 0 → nth ≡ count → Passed code (table + 2) method place classes nth handler
    → (entries : List Entry) × (HasTable code table entries × (handler ≡ handler_among method place classes entries))
table_whole code table method place classes count nth handler bytes shows le is all passed =
    let many : count ≡ length passed.entries = sym (passed.many ∙ all) in
    let fits = number_fits code table 0 2 count bytes shows (omega arith) is in
    let whole = with_number code table 0 2 count bytes (flat_map entry_text passed.entries) shows (omega arith) is passed.have in (
      passed.entries,
      (
        record {
          fits = omega (arith, many, fits);
          each = passed.fit;
          stands = subst (λ (n : ℕ). HasBytes code table (little_endian 2 n ++ flat_map entry_text passed.entries)) many (from_start code table _ whole);
        },
        passed.first,
      ),
    )
