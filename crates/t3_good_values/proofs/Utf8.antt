-- Texts in UTF-8: what is made of them is in UTF-8 too.
use Rattle.std.proofs.Common.{◌≡◌, ◌∙◌, ◌<◌, ℕ, zero, suc, ℤ, pos, negsuc, Bool, true, false, refl, sym, ap, List, [], ◌∷◌, take, drop, arith, ◌&&◌, ◌||◌, cond, nat_lt, nat_le, Option, Some, None, if◌then◌else◌, FitsSigned}
use Rattle.std.specs.Prelude.{codes}
use Rattle.std.specs.Int.{w32}
use Rattle.std.specs.List.{AllByRecursion, repeat}
use Rattle.std.specs.Char.{encode_utf8}
use Rattle.std.specs.Fmt.{signed_decimal}
use Rattle.std.specs.Str.{IsUtf8, IsAscii}
use Rattle.std.proofs.Math.Utf8.{scalars, scalar}
use Rattle.std.proofs.lemmas.Str.{IsUtf8-nil, IsUtf8-append, IsUtf8-encode, IsUtf8-from_ascii}
use Rattle.std.proofs.lemmas.Str.Ascii.{IsAscii-nil, IsAscii-cons}
use Rattle.std.proofs.lemmas.Fmt.{IsAscii-signed}
use Rattle.t3_ops.specs.Builtins.{is_scalar, character_of}
use Rattle.t3_kinds.specs.TextMethods.{character_start, characters_at_most, characters_in}
use Rattle.t3_kinds.specs.declared.part.Part.{Part}
use Rattle.t3_kinds.proofs.Characters.{has_characters}
use Rattle.t3_good_values.proofs.Lists.{IfThere}

all-ascii : (bytes : List ℕ) → AllByRecursion (λ byte. byte < 128) bytes → IsAscii bytes
all-ascii [] all = IsAscii-nil
all-ascii (byte ∷ bytes) all = IsAscii-cons byte bytes all.0 (all-ascii bytes all.1)

pub utf8-true : IsUtf8 (codes "true")
utf8-true = IsUtf8-from_ascii (codes "true") (all-ascii (codes "true") (omega arith, (omega arith, (omega arith, (omega arith, tt)))))

pub utf8-nil : IsUtf8 (codes "nil")
utf8-nil = IsUtf8-from_ascii (codes "nil") (all-ascii (codes "nil") (omega arith, (omega arith, (omega arith, tt))))

pub utf8-signed : (z : ℤ) → FitsSigned w32 z → IsUtf8 (signed_decimal z)
utf8-signed z fits = IsUtf8-from_ascii (signed_decimal z) (IsAscii-signed z (omega (arith, fits.sfits)))

-- ---- copies

pub utf8-repeat : (count : ℕ) (bytes : List ℕ) → IsUtf8 bytes → IsUtf8 (repeat count bytes)
utf8-repeat zero bytes utf8 = IsUtf8-nil
utf8-repeat (suc count) bytes utf8 = IsUtf8-append bytes (repeat count bytes) utf8 (utf8-repeat count bytes utf8)

or-cond : (b c : Bool) → cond b true c ≡ (b || c)
or-cond true c = refl
or-cond false c = refl

pub utf8-character : (code : ℤ) → IfThere IsUtf8 (character_of code)
utf8-character (pos n) = by (is_scalar n) refl
  where
    by : (is : Bool) → is_scalar n ≡ is → IfThere IsUtf8 (if is then Some (encode_utf8 n) else None)
    by true is = IsUtf8-encode n (or-cond (nat_lt n 0xD800) (nat_le 0xE000 n && nat_lt n 0x11_0000) ∙ is)
    by false is = tt
utf8-character (negsuc n) = tt

-- ---- characters

both-true : (b c : Bool) → b && c ≡ true → (b ≡ true) × (c ≡ true)
both-true true c e = (refl, e)
both-true false c e = absurd cc

and-true : (b c : Bool) → b ≡ true → c ≡ true → b && c ≡ true
and-true b c e f = ap (λ x. x && c) e ∙ f

scalars-drop : (number : ℕ) (points : List ℕ) → scalars points ≡ true → scalars (drop number points) ≡ true
scalars-drop zero points all = all
scalars-drop (suc number) [] all = refl
scalars-drop (suc number) (c ∷ cs) all = scalars-drop number cs (both-true (scalar c) (scalars cs) all).1

scalars-take : (number : ℕ) (points : List ℕ) → scalars points ≡ true → scalars (take number points) ≡ true
scalars-take zero points all = refl
scalars-take (suc number) [] all = refl
scalars-take (suc number) (c ∷ cs) all =
    let parts = both-true (scalar c) (scalars cs) all in
    and-true (scalar c) (scalars (take number cs)) parts.0 (scalars-take number cs parts.1)

utf8-after : (number : ℕ) (bytes : List ℕ) → IsUtf8 bytes → IsUtf8 (drop (character_start number bytes) bytes)
utf8-after number bytes (points, (all, is)) = (
  drop number points,
  (
    scalars-drop number points all,
    sym ((has_characters points).from number) ∙ ap (λ (b : List ℕ). drop (character_start number b) b) is,
  ),
)

utf8-before : (number : ℕ) (bytes : List ℕ) → IsUtf8 bytes → IsUtf8 (take (character_start number bytes) bytes)
utf8-before number bytes (points, (all, is)) = (
  take number points,
  (
    scalars-take number points all,
    sym ((has_characters points).up_to number) ∙ ap (λ (b : List ℕ). take (character_start number b) b) is,
  ),
)

at-most : (count : Option ℕ) (bytes : List ℕ) → IsUtf8 bytes → IsUtf8 (characters_at_most count bytes)
at-most None bytes utf8 = utf8
at-most (Some count) bytes utf8 = utf8-before count bytes utf8

pub utf8-part : (part : Part) (bytes : List ℕ) → IsUtf8 bytes → IsUtf8 (characters_in part bytes)
utf8-part part bytes utf8 = at-most part.count (drop (character_start part.skipped bytes) bytes) (utf8-after part.skipped bytes utf8)
