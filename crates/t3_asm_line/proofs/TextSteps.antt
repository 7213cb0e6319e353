-- One byte more of a quoted text.
use Rattle.std.proofs.Common.{◌≡◌, ℕ, ◌+◌, ◌<◌, List, [], ◌∷◌, ◌++◌, length, get_or, drop, refl, ap, sym, ◌∙◌, append_assoc, Option, Some, None}
use Rattle.std.specs.Option.{option_map}
use Rattle.std.proofs.lemmas.List.{at_drop_more}
use Rattle.t3_asm_line.specs.declared.quoted.Due.{Due}
use Rattle.t3_asm_line.specs.declared.quoted.Due.TheVariants.{AnyByte}
use Rattle.t3_asm_line.specs.declared.quoted.Turn.{Turn}
use Rattle.t3_asm_line.specs.declared.quoted.Turn.TheVariants.{Give}
use Rattle.t3_asm_line.specs.Quoted.{text_from, with_byte}
use Rattle.t3_asm_line.specs.Inner.Escaped.{text_behind}

given : (front : List ℕ) (byte : ℕ) (text : Option (List ℕ))
    → option_map (λ more. (front ++ byte ∷ []) ++ more) text ≡ option_map (λ more. front ++ more) (with_byte (Some byte) text)
given front byte None = refl
given front byte (Some text) = ap Some (append_assoc front (byte ∷ []) text)

-- what is left of a text behind one more byte
pub text_from-behind : (due : Due) (turn : Turn) (bytes : List ℕ) (at : ℕ) (front : List ℕ) (text : Option (List ℕ)) → at < length bytes
    → ((rest : List ℕ) → text_from due (get_or bytes at 0 ∷ rest) ≡ text_behind turn rest)
    → option_map (λ more. front ++ more) (text_from due (drop at bytes)) ≡ text
    → option_map (λ more. front ++ more) (text_behind turn (drop (at + 1) bytes)) ≡ text
text_from-behind due turn bytes at front text inside behind is =
    ap (λ rest. option_map (λ more. front ++ more) rest) (sym (behind (drop (at + 1) bytes)))
    ∙ ap (λ rest. option_map (λ more. front ++ more) rest) (sym (at_drop_more (text_from due) bytes at 0 inside)) ∙ is

-- and where that byte gives one of the text
pub text_from-give : (due : Due) (byte : ℕ) (bytes : List ℕ) (at : ℕ) (front : List ℕ) (text : Option (List ℕ)) → at < length bytes
    → ((rest : List ℕ) → text_from due (get_or bytes at 0 ∷ rest) ≡ text_behind (Give byte) rest)
    → option_map (λ more. front ++ more) (text_from due (drop at bytes)) ≡ text
    → option_map (λ more. (front ++ byte ∷ []) ++ more) (text_from AnyByte (drop (at + 1) bytes)) ≡ text
text_from-give due byte bytes at front text inside behind is =
    given front byte (text_from AnyByte (drop (at + 1) bytes)) ∙ text_from-behind due (Give byte) bytes at front text inside behind is
