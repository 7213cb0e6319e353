-- Entries, tables and handlers, as functions have them of code.
use Rattle.std.proofs.Common.{◌≡◌, ◌≢◌, ℕ, suc, ◌+◌, ◌==◌, ◌<◌, ◌≤◌, Bool, true, false, List, ◌∷◌, length, Option, Some, None, Result, Ok, Err, refl, sym, ap, ◌∙◌, subst, arith, rules, cond, if◌then◌else◌}
use Rattle.std.specs.List.{find}
use Rattle.std.specs.Option.{option_map, option_and_then}
use Rattle.t3_holder.specs.NumberText.{little_endian}
use Rattle.t3_pools.specs.Pool.{Pool, HasBytes}
use Rattle.t3_pools.specs.Constants.{number_in}
use Rattle.t3_pools.proofs.Standing.{bytes_in-gap, number_in-none, number_in-stands}
use Rattle.t3_methods.specs.declared.header.Header.{Header}
use Rattle.t3_methods.specs.declared.refusal.CodeRefusal.{CodeRefusal}
use Rattle.t3_methods.specs.MethodHeader.{header_in}
use Rattle.t3_methods.specs.ExceptionTable.{Entry, entry_from, entry_in, entries_in, table_in, catches, handler_among, handler_from, handler_by_header, handler_of}
use Rattle.t3_methods.specs.Inner.Window.{Shows, ShowsAll, number_at}
use Rattle.t3_methods.specs.Inner.Tables.{earlier_of}
use Rattle.t3_methods.proofs.Shown.{number_stands, number_less, ten_shown, ten_short, number_from-ten}

-- ---- an entry

-- where a window ends too soon no entry is there
pub entry_in-short : (code : Pool) (at : ℕ) (bytes : List ℕ) → ShowsAll code at bytes → length bytes < 10 → None ≡ entry_in code at
unfolding entry_in
entry_in-short code at bytes shows less = sym (ap (option_map entry_from) (ten_short code at bytes shows less))

-- the numbers of a window are an entry
pub entry_in-shown : (code : Pool) (at a b c h : ℕ) (bytes : List ℕ) → Shows code at bytes → 10 ≤ length bytes
    → a ≡ number_at 2 bytes 0 → b ≡ number_at 2 bytes 2 → c ≡ number_at 4 bytes 4 → h ≡ number_at 2 bytes 8
    → Some (record { first = a; last = b; class = c; handler = h }) ≡ entry_in code at
unfolding entry_in
entry_in-shown code at a b c h bytes shows le a_is b_is c_is h_is =
    let a_there = number_from-ten bytes 0 2 a (omega arith) le a_is in
    let b_there = number_from-ten bytes 2 2 b (omega arith) le b_is in
    let c_there = number_from-ten bytes 4 4 c (omega arith) le c_is in
    let h_there = number_from-ten bytes 8 2 h (omega arith) le h_is in
    (λ i. Some (record { first = a_there i; last = b_there i; class = c_there i; handler = h_there i }))
    ∙ sym (ap (option_map entry_from) (ten_shown code at bytes shows le))

-- ---- a table that is gone over

-- the handler that was found, or else that of the first of the further entries that catches
abbrev pub found_or_among : ℕ → ℕ → List ℕ → Option ℕ → List Entry → Option ℕ
found_or_among method place classes (Some handler) entries = Some handler
found_or_among method place classes None entries = handler_among method place classes entries

-- what is found of so many entries from an address on, where some before them were gone over
abbrev pub found_after : ℕ → Pool → ℕ → (method place : ℕ) → List ℕ → Option ℕ → Option (Option ℕ)
found_after count code at method place classes found = option_map (found_or_among method place classes found) (entries_in count code at)

count_in : (code : Pool) (at count : ℕ) (bytes : List ℕ) → Shows code at bytes → 2 ≤ length bytes → count ≡ number_at 2 bytes 0
    → number_in 2 code at ≡ Some count
count_in code at count bytes shows le is =
    let start : at + 0 ≡ at = omega arith in
    let here = subst (λ (n : ℕ). HasBytes code n (little_endian 2 (number_at 2 bytes 0))) start
    (number_stands code at 0 2 bytes shows (omega (arith, le))) in
    number_in-stands code 2 (number_at 2 bytes 0) at (number_less code at 0 2 bytes shows (omega (arith, le))) here ∙ ap Some (sym is)

among_first : (method place : ℕ) (classes : List ℕ) (o : Option (List Entry))
    → option_map (handler_among method place classes) o ≡ option_map (found_or_among method place classes None) o
among_first method place classes None = refl
among_first method place classes (Some entries) = refl

-- where a window has no count no table is there
pub table_in-short : (code : Pool) (at method place : ℕ) (classes : List ℕ) (bytes : List ℕ) → ShowsAll code at bytes → length bytes < 2
    → None ≡ option_map (handler_among method place classes) (table_in code at)
unfolding table_in
table_in-short code at method place classes bytes shows less =
    let none = number_in-none code 2 at (bytes_in-gap code 2 at (length bytes) less (shows.whole (omega (arith, less)))) in
    sym (ap (λ o. option_map (handler_among method place classes) (option_and_then (λ count. entries_in count code (at + 2)) o)) none)

-- what is found of the table, by its count
pub table_in-count : (code : Pool) (at method place : ℕ) (classes : List ℕ) (count : ℕ) (bytes : List ℕ) → Shows code at bytes
    → 2 ≤ length bytes
    → count ≡ number_at 2 bytes 0
    → option_map (handler_among method place classes) (table_in code at) ≡ found_after count code (at + 2) method place classes None
unfolding table_in
table_in-count code at method place classes count bytes shows le is =
    ap (λ o. option_map (handler_among method place classes) (option_and_then (λ count. entries_in count code (at + 2)) o))
    (count_in code at count bytes shows le is)
    ∙ among_first method place classes (entries_in count code (at + 2))

-- one entry more is gone over
earlier_still : (method place : ℕ) (classes : List ℕ) (found : Option ℕ) (entry : Entry) (entries : List Entry)
    → found_or_among method place classes found (entry ∷ entries)
    ≡ found_or_among method place classes (earlier_of method place classes found entry) entries
earlier_still method place classes (Some handler) entry entries = refl
earlier_still method place classes None entry entries =
    elim (catches method place classes entry) as (λ b.
    option_map (λ (e : Entry). e.handler) (cond b (Some entry) (find (catches method place classes) entries))
    ≡ found_or_among method place classes (cond b (Some entry.handler) None) entries) [
      | true ↦ refl
      | false ↦ refl
    ]

still : (method place : ℕ) (classes : List ℕ) (found : Option ℕ) (entry : Entry) (o : Option (List Entry))
    → option_map (found_or_among method place classes found) (option_map (λ entries. entry ∷ entries) o)
    ≡ option_map (found_or_among method place classes (earlier_of method place classes found entry)) o
still method place classes found entry None = refl
still method place classes found entry (Some entries) = ap Some (earlier_still method place classes found entry entries)

-- where the next entry is there, it is one of those gone over
pub passes_entry : (code : Pool) (at method place : ℕ) (classes : List ℕ) (left : ℕ) (found : Option ℕ) (entry : Entry)
    → entry_in code at ≡ Some entry
    → found_after (suc left) code at method place classes found
    ≡ found_after left code (at + 10) method place classes (earlier_of method place classes found entry)
unfolding entries_in
passes_entry code at method place classes left found entry is =
    ap (λ o. option_map (found_or_among method place classes found)
    (option_and_then (λ e. option_map (λ es. e ∷ es) (entries_in left code (at + 10))) o)) is
    ∙ still method place classes found entry (entries_in left code (at + 10))

-- where it isn't there, nothing is found of the table
pub lacks_entry : (code : Pool) (at method place : ℕ) (classes : List ℕ) (left : ℕ) (found : Option ℕ) → entry_in code at ≡ None
    → found_after (suc left) code at method place classes found ≡ None
unfolding entries_in
lacks_entry code at method place classes left found is =
    ap (λ o. option_map (found_or_among method place classes found)
    (option_and_then (λ e. option_map (λ es. e ∷ es) (entries_in left code (at + 10))) o)) is

-- where all are gone over, what was found is the answer
pub all_found : (code : Pool) (at method place : ℕ) (classes : List ℕ) (found : Option ℕ)
    → found_after 0 code at method place classes found ≡ Some found
unfolding entries_in
all_found code at method place classes None = refl
all_found code at method place classes (Some handler) = refl

-- ---- a handler

marked : (n : ℕ) → n ≢ 0 → (n == 0) ≡ false
marked n other = search (arith, rules)

unmarked : (n : ℕ) → n ≡ 0 → (n == 0) ≡ true
unmarked n is = ap (λ m. m == 0) is

-- a method without a header
pub handler_of-refused : (code : Pool) (method place : ℕ) (classes : List ℕ) (refusal : CodeRefusal) → Err refusal ≡ header_in code method
    → Err refusal ≡ handler_of code method place classes
unfolding handler_of
handler_of-refused code method place classes refusal is = ap (handler_by_header code method place classes) is

-- what a header's table gives, if it names one
abbrev table_told : Bool → Pool → ℕ → ℕ → List ℕ → ℕ → Result (Option ℕ) CodeRefusal
table_told none code method place classes offset =
    if none then Ok None else handler_from (option_map (handler_among method place classes) (table_in code (method + offset)))

-- a method without a table
pub handler_of-none : (code : Pool) (method place : ℕ) (classes : List ℕ) (header : Header) → Ok header ≡ header_in code method
    → header.exceptions ≡ 0
    → Ok None ≡ handler_of code method place classes
unfolding handler_of
handler_of-none code method place classes header is none =
    ap (λ b. table_told b code method place classes header.exceptions) (sym (unmarked header.exceptions none))
    ∙ ap (handler_by_header code method place classes) is

-- a method with a table, whole or not
pub handler_of-table : (code : Pool) (method place at : ℕ) (classes : List ℕ) (header : Header) (told : Option (Option ℕ))
    → Ok header ≡ header_in code method
    → header.exceptions ≢ 0 → at ≡ method + header.exceptions → told ≡ option_map (handler_among method place classes) (table_in code at)
    → handler_from told ≡ handler_of code method place classes
unfolding handler_of
handler_of-table code method place at classes header told is some there read =
    ap handler_from (read ∙ ap (λ n. option_map (handler_among method place classes) (table_in code n)) there)
    ∙ ap (λ b. table_told b code method place classes header.exceptions) (sym (marked header.exceptions some))
    ∙ ap (handler_by_header code method place classes) is
