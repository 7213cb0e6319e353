-- Where a text is cut behind whole characters, the rest is a text; and a text begins with a character of one to four bytes.
use Rattle.std.proofs.Common.{◌≡◌, ℕ, ◌<◌, ◌≤◌, Bool, true, false, ◌&&◌, List, [], ◌∷◌, ◌++◌, take, length, refl, sym, ap, subst, ◌∙◌, append_assoc, length-append, arith}
use Rattle.std.specs.Str.{IsUtf8, IsValidUpTo, encode_utf8_all, all_scalars}
use Rattle.std.specs.Char.{encode_utf8}
use Rattle.t3_pools.specs.Inner.Reading.{IsLongestUtf8}
use Rattle.std.proofs.Math.Seq.{take-append_seam}
use Rattle.std.proofs.lemmas.Str.{encode_same, length-encode, len_utf8_bounds, IsUtf8-encode}

and_first : (x y : Bool) → (x && y) ≡ true → x ≡ true
and_first true y h = refl
and_first false y h = absurd cc

and_second : (x y : Bool) → (x && y) ≡ true → y ≡ true
and_second true y h = h
and_second false y h = absurd cc

-- what is left of characters when the first of them are cut off
rest_of : (cut all rest : List ℕ) → all_scalars all ≡ true → encode_utf8_all all ≡ encode_utf8_all cut ++ rest → IsUtf8 rest
rest_of [] all rest scalars is = (all, (scalars, is))
rest_of (c ∷ cut) [] rest scalars is =
    let counted = ap (λ (b : List ℕ). length b) is in
    let long = length-append (encode_utf8 c ++ encode_utf8_all cut) rest in
    let whole = length-append (encode_utf8 c) (encode_utf8_all cut) in
    let first = length-encode c in
    let some = (len_utf8_bounds c).0 in
    absurd (omega arith)
rest_of (c ∷ cut) (d ∷ all) rest scalars is =
    let both : encode_utf8 d ++ encode_utf8_all all ≡ encode_utf8 c ++ (encode_utf8_all cut ++ rest) =
    is ∙ append_assoc (encode_utf8 c) (encode_utf8_all cut) rest in
    rest_of cut all rest (and_second _ _ scalars) (encode_same d c (encode_utf8_all all) (encode_utf8_all cut ++ rest) both).1

-- behind whole characters the rest of a text is a text
pub utf8-rest : (text rest : List ℕ) → IsUtf8 text → IsUtf8 (text ++ rest) → IsUtf8 rest
utf8-rest text rest here all =
    rest_of here.0 all.0 rest all.1.0 (all.1.1 ∙ ap (λ (b : List ℕ). b ++ rest) (sym here.1.1))

-- a text's first character takes so many of its bytes
pub record FirstCharacter (text : List ℕ) (size : ℕ) : Type 0 where
  pub some : 0 < size
  pub small : size ≤ 4
  pub within : size ≤ length text
  pub whole : IsUtf8 (take size text)

begins : (cs text : List ℕ) → all_scalars cs ≡ true → encode_utf8_all cs ≡ text → 0 < length text → (size : ℕ) × FirstCharacter text size
begins [] text scalars is some = let counted = ap (λ (b : List ℕ). length b) is in absurd (omega arith)
begins (c ∷ cs) text scalars is some =
    let bounds = len_utf8_bounds c in
    let size = length-encode c in
    let long = length-append (encode_utf8 c) (encode_utf8_all cs) in
    let counted = ap (λ (b : List ℕ). length b) is in
    let first : take (length (encode_utf8 c)) text ≡ encode_utf8 c =
    ap (λ (b : List ℕ). take (length (encode_utf8 c)) b) (sym is) ∙ take-append_seam (encode_utf8 c) (encode_utf8_all cs) in (
      length (encode_utf8 c),
      record {
        some = omega (arith, bounds.0);
        small = omega (arith, bounds.1);
        within = omega arith;
        whole = subst (λ (b : List ℕ). IsUtf8 b) (sym first) (IsUtf8-encode c (and_first _ _ scalars));
      },
    )

-- a text that has a byte begins with a character
pub utf8-first : (text : List ℕ) → IsUtf8 text → 0 < length text → (size : ℕ) × FirstCharacter text size
utf8-first text utf8 some = begins utf8.0 text utf8.1.0 utf8.1.1 some

-- what is told valid is the longest prefix that is UTF-8
pub longest-utf8 : (bytes : List ℕ) (found valid : ℕ) → found ≡ valid → IsValidUpTo bytes valid → IsLongestUtf8 bytes found
longest-utf8 bytes found valid is up_to =
    let short = up_to.short in
    record {
      within = omega arith;
      whole = subst (λ (n : ℕ). IsUtf8 (take n bytes)) (sym is) up_to.front;
      longest = λ more above within. up_to.longest more (omega arith);
    }
