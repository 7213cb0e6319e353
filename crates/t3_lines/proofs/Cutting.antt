-- The lines of bytes, taken off one by one.
use Rattle.std.proofs.Common.{◌≡◌, ℕ, zero, suc, ◌+◌, ◌-◌, ◌<◌, Bool, true, false, ◌==◌, if◌then◌else◌, cond, Some, List, [], ◌∷◌, ◌++◌, length, take, drop, refl, sym, ap, subst, ◌∙◌, arith, length-append}
use Rattle.std.specs.Prelude.{slice_get, slice_index}
use Rattle.std.specs.List.{filter, slice_split, onto_first, All}
use Rattle.std.specs.Str.Lines.{lines, lines_of_parts, strip_carriage_return}
use Rattle.std.proofs.lemmas.List.{take-append-drop, drop_more, take_more}
use Rattle.std.proofs.Math.Seq.{take-append-add, get_or-append_right}
use Rattle.std.proofs.lemmas.List.Elements.{filter-append}
use Rattle.std.proofs.lemmas.List.Splits.{slice_split_none, slice_split_at}
use Rattle.std.proofs.lemmas.Bool.Decides.{nat_tests}
use Rattle.t3_lines.specs.Lines.{is_newline, ended_lines}
use Rattle.t3_lines.specs.Inner.Taking.{IsLineEnd}

pub ended-append : (a b : List ℕ) → ended_lines (a ++ b) ≡ ended_lines a + ended_lines b
ended-append a b = ap (λ bs. length bs) (filter-append is_newline a b) ∙ length-append (filter is_newline a) (filter is_newline b)

by_test : (is : Bool) (byte : ℕ) (rest : List ℕ) → length (cond is (byte ∷ rest) rest) ≡ 0 → (is ≡ false) × (length rest ≡ 0)
by_test true byte rest none = absurd (omega arith)
by_test false byte rest none = (refl, none)

none_pass : (bytes : List ℕ) → ended_lines bytes ≡ 0 → All (λ (byte : ℕ). is_newline byte ≡ false) bytes
none_pass [] none k d less = absurd (omega arith)
none_pass (byte ∷ bytes) none zero d less = (by_test (is_newline byte) byte (filter is_newline bytes) none).0
none_pass (byte ∷ bytes) none (suc k) d less =
    none_pass bytes (by_test (is_newline byte) byte (filter is_newline bytes) none).1 k d (omega arith)

-- a split into a first part and others
record HasFirst (parts : List (List ℕ)) : Type 0 where
  first : List ℕ
  others : List (List ℕ)
  is : parts ≡ first ∷ others

has_first : (bytes : List ℕ) → HasFirst (slice_split is_newline bytes)
has_first [] = record { first = []; others = []; is = refl }
has_first (byte ∷ bytes) =
    let rest = has_first bytes in
    by_byte (is_newline byte) (slice_split is_newline bytes) rest
  where
    by_byte : (is : Bool) (parts : List (List ℕ)) → HasFirst parts → HasFirst (cond is ([] ∷ parts) (onto_first byte parts))
    by_byte true parts has = record { first = []; others = parts; is = refl }
    by_byte false parts has = record { first = byte ∷ has.first; others = has.others; is = ap (onto_first byte) has.is }

lines_of_parts-more : (line : List ℕ) (parts : List (List ℕ)) → HasFirst parts
    → lines_of_parts (line ∷ parts) ≡ strip_carriage_return line ∷ lines_of_parts parts
lines_of_parts-more line parts has =
    ap (λ ps. lines_of_parts (line ∷ ps)) has.is ∙ ap (λ ps. strip_carriage_return line ∷ lines_of_parts ps) (sym has.is)

-- the first line, where a newline ends it
pub lines-ended : (line rest : List ℕ) → ended_lines line ≡ 0 → lines (line ++ 10 ∷ rest) ≡ strip_carriage_return line ∷ lines rest
lines-ended line rest none =
    ap lines_of_parts (slice_split_at is_newline line 10 rest (none_pass line none) refl)
    ∙ lines_of_parts-more line (slice_split is_newline rest) (has_first rest)

one_part : (line : List ℕ) → 0 < length line → lines_of_parts (line ∷ []) ≡ line ∷ []
one_part line some =
    let P : Bool → List (List ℕ) = λ is. if is then [] else line ∷ [] in
    let is : (length line == 0) ≡ false = grind (arith, nat_tests) in
    ap P is

-- and where none does
pub lines-last : (line : List ℕ) → ended_lines line ≡ 0 → 0 < length line → lines line ≡ line ∷ []
lines-last [] none some = absurd (omega arith)
lines-last (byte ∷ line) none some =
    ap lines_of_parts (slice_split_none is_newline (byte ∷ line) (none_pass (byte ∷ line) none)) ∙ one_part (byte ∷ line) some

pub rest_is : (bytes : List ℕ) (place : ℕ) → IsLineEnd bytes place → bytes ≡ take place bytes ++ 10 ∷ drop (place + 1) bytes
rest_is bytes place end =
    sym (take-append-drop place bytes)
    ∙ ap (λ b. take place bytes ++ b) (drop_more bytes place 0 end.within ∙ ap (λ (b : ℕ). b ∷ drop (place + 1) bytes) end.newline)

-- the newline itself is one
pub ended-through : (bytes : List ℕ) (place : ℕ) → IsLineEnd bytes place → ended_lines (take (place + 1) bytes) ≡ 1
ended-through bytes place end =
    ap ended_lines (take_more bytes place 0 end.within ∙ ap (λ (b : ℕ). take place bytes ++ b ∷ []) end.newline)
    ∙ ended-append (take place bytes) (10 ∷ []) ∙ ap (λ (n : ℕ). n + 1) end.first

pub slice_get-at : {X : Type 0} (before : List X) (x : X) (rest : List X) → slice_get (before ++ x ∷ rest) (length before) ≡ Some x
slice_get-at [] x rest = refl
slice_get-at (y ∷ before) x rest = slice_get-at before x rest

-- the first newline stands after bytes that have none
pub end_after : (first rest : List ℕ) (place at : ℕ) → ended_lines first ≡ 0 → IsLineEnd rest place → at ≡ length first + place
    → IsLineEnd (first ++ rest) at
end_after first rest place at none end is =
    let P : ℕ → Type 0 = λ p. IsLineEnd (first ++ rest) p in
    let same : length first + place - length first ≡ place = omega arith in
    subst P (sym is) (record {
      within = omega (arith, end.within, length-append first rest);
      newline =
          get_or-append_right first rest (length first + place) 0 (omega arith) ∙ ap (λ (k : ℕ). slice_index rest k) same ∙ end.newline;
      first =
          ap ended_lines (take-append-add first rest place)
          ∙ ended-append first (take place rest) ∙ omega (arith, none, end.first);
    })
