-- The values of options, word by word.
use Rattle.std.proofs.Common.{◌≡◌, ℕ, true, false, cond, map, Bor, MatchOption, ◌+◌, ◌<◌, ◌≤◌, List, [], ◌∷◌, ◌++◌, length, take, drop, get_or, Option, Some, None, refl, sym, ap, subst, ◌∙◌, arith}
use Rattle.std.specs.Prelude.{is_some}
use Rattle.std.specs.List.{cons_option}
use Rattle.std.specs.Option.{option_copied, option_to_list}
use Rattle.std.specs.Str.{IsCharBoundary}
use Rattle.std.specs.Str.Pattern.{FindsTextPrefix, StripsPrefix}
use Rattle.std.proofs.lemmas.Str.Pattern.{starts_text}
use Rattle.std.proofs.lemmas.List.Elements.{filter_map-append}
use Rattle.std.proofs.lemmas.List.{take_more, take-append-drop, take_all, append-nil, get_or-map, length-map}
use Rattle.t3_words.specs.Options.{value_after, values_of}
use Rattle.t3_words.specs.Inner.Parsing.{only_value}

-- what stripping a prefix gives
pub stripped_value : (prefix word : List ℕ) (stripped : Option (Bor (List ℕ)))
    → MatchOption stripped (FindsTextPrefix prefix word None) (λ x. StripsPrefix (FindsTextPrefix prefix) word x.now)
    → option_copied stripped ≡ value_after prefix word
stripped_value prefix word None lacks = ap (λ b. cond b (Some (drop (length prefix) word)) None) (starts_text false prefix word lacks)
stripped_value prefix word (Some x) (n, (size, is, boundary), rest, sizes) =
    let P : ℕ → Type 0 = IsCharBoundary word in
    let starts = starts_text true prefix word (n, (size, is, boundary), subst P (sym size) boundary) in
    ap Some (rest ∙ ap (λ k. drop k word) size) ∙ ap (λ b. cond b (Some (drop (length prefix) word)) None) starts

-- ---- the values of the words up to one, which are one or none so far

-- those of the words before it, and its own
values_more : {X : Type 0} (text_of : X → List ℕ) (prefix : List ℕ) (words : List X) (at : ℕ) (word : X) → at < length words
    → word ≡ get_or words at word
    → values_of prefix (take (at + 1) (map text_of words))
    ≡ values_of prefix (take at (map text_of words)) ++ cons_option (value_after prefix (text_of word)) []
values_more text_of prefix words at word within is =
    let texts = map text_of words in
    let so_far = values_of prefix (take at texts) in
    ap (values_of prefix) (take_more texts at [] (omega (arith, length-map words text_of)))
    ∙ filter_map-append (value_after prefix) (take at texts) (get_or texts at [] ∷ [])
    ∙ ap (λ text. so_far ++ values_of prefix (text ∷ [])) (get_or-map text_of words at word [] within ∙ ap text_of (sym is))

-- it has none
pub next_none : {X : Type 0} (text_of : X → List ℕ) (prefix : List ℕ) (words : List X) (at : ℕ) (word : X) (found : Option (List ℕ))
    → at < length words → word ≡ get_or words at word → values_of prefix (take at (map text_of words)) ≡ option_to_list found
    → None ≡ value_after prefix (text_of word)
    → values_of prefix (take (at + 1) (map text_of words)) ≡ option_to_list found
next_none text_of prefix words at word found within is so_far none =
    values_more text_of prefix words at word within is ∙ (λ i. so_far i ++ cons_option (sym none i) []) ∙ append-nil (option_to_list found)

-- it has the first
pub next_first : {X : Type 0} (text_of : X → List ℕ) (prefix : List ℕ) (words : List X) (at : ℕ) (word : X)
    (found : Option (Bor (List ℕ))) (value : List ℕ) → at < length words → word ≡ get_or words at word → is_some found ≡ false
    → values_of prefix (take at (map text_of words)) ≡ option_to_list (option_copied found) → Some value ≡ value_after prefix (text_of word)
    → values_of prefix (take (at + 1) (map text_of words)) ≡ value ∷ []
next_first text_of prefix words at word None value within is first so_far some =
    values_more text_of prefix words at word within is ∙ (λ i. so_far i ++ cons_option (sym some i) [])
next_first text_of prefix words at word (Some x) value within is first so_far some = absurd (let clash : true ≡ false = first in cc)

-- it has a second
pub next_second : {X : Type 0} (text_of : X → List ℕ) (prefix : List ℕ) (words : List X) (at : ℕ) (word : X)
    (found : Option (Bor (List ℕ))) (value : List ℕ) → at < length words → word ≡ get_or words at word → is_some found ≡ true
    → values_of prefix (take at (map text_of words)) ≡ option_to_list (option_copied found) → Some value ≡ value_after prefix (text_of word)
    → only_value (values_of prefix (map text_of words)) ≡ None
next_second text_of prefix words at word None value within is second so_far some = absurd (let clash : false ≡ true = second in cc)
next_second text_of prefix words at word (Some x) value within is second so_far some =
    let texts = map text_of words in
    let rest = values_of prefix (drop (at + 1) texts) in
    let both = values_more text_of prefix words at word within is ∙ (λ i. so_far i ++ cons_option (sym some i) []) in
    ap (λ ts. only_value (values_of prefix ts)) (sym (take-append-drop (at + 1) texts))
    ∙ ap only_value (filter_map-append (value_after prefix) (take (at + 1) texts) (drop (at + 1) texts) ∙ ap (λ vs. vs ++ rest) both)

-- all words were looked at
pub values_found : {X : Type 0} (text_of : X → List ℕ) (prefix : List ℕ) (words : List X) (at : ℕ) (found : Option (List ℕ))
    → length words ≤ at → values_of prefix (take at (map text_of words)) ≡ option_to_list found
    → only_value (values_of prefix (map text_of words)) ≡ Some found
values_found text_of prefix words at found all so_far =
    let texts = map text_of words in
    ap (λ ts. only_value (values_of prefix ts)) (sym (take_all at texts (omega (arith, length-map words text_of))))
    ∙ ap only_value so_far ∙ by_found found
  where
    by_found : (found : Option (List ℕ)) → only_value (option_to_list found) ≡ Some found
    by_found None = refl
    by_found (Some value) = refl
