-- The methods of texts (the chapter on strings, in this project's profile).
use Rattle.std.specs.Prelude.{◌≡◌, ℕ, ◌+◌, ◌-◌, ◌==◌, Bool, not, ◌&&◌, nat_lt, nat_le, List, [], ◌∷◌, length, take, drop, encode_utf8_all, Option, Some, None, Result, if◌then◌else◌}
use Rattle.std.specs.List.{count_by}
use Rattle.t3_holder.specs.declared.holder.Holder.{Holder}
use Rattle.t3_pools.specs.Pool.{Pool}
use Rattle.t3_store.specs.Store.{StoreValue}
use Rattle.t3_ops.specs.declared.fault.Fault.{Fault}
use Rattle.t3_ops.specs.Making.{when_read, fitting_text_of}
use Rattle.t3_kinds.specs.Changes.{Deed}
use Rattle.t3_kinds.specs.Deeds.{answers_truth, answers_count, answers_new, when_ok, when_text, part_of}
use Rattle.t3_kinds.specs.declared.part.Part.{Part}

-- ---- characters

-- whether a character begins with a byte: all others of a character are from 80 to BF
abbrev pub begins : ℕ → Bool
begins byte = not (nat_le 128 byte && nat_lt byte 192)

-- how many characters a text has
abbrev pub character_count : List ℕ → ℕ
character_count bytes = count_by begins bytes

-- the index of the byte with which the character of a number begins, from 0 on, or the length where there are no more
abbrev pub character_start : ℕ → List ℕ → ℕ
character_start number [] = 0
character_start number (byte ∷ bytes) =
    if not (begins byte) then 1 + character_start number bytes
    else if number == 0 then 0 else 1 + character_start (number - 1) bytes

abbrev pub characters_at_most : Option ℕ → List ℕ → List ℕ
characters_at_most None bytes = bytes
characters_at_most (Some count) bytes = take (character_start count bytes) bytes

-- the characters of a part
abbrev pub characters_in : Part → List ℕ → List ℕ
characters_in part bytes = characters_at_most part.count (drop (character_start part.skipped bytes) bytes)

-- so it is of the characters of a text in UTF-8, by their code points: they are counted, and it is cut before each of them and after each
pub record HasCharacters (points : List ℕ) : Type 0 where
  pub count : character_count (encode_utf8_all points) ≡ length points
  pub from : (number : ℕ) → drop (character_start number (encode_utf8_all points)) (encode_utf8_all points) ≡ encode_utf8_all (drop number points)
  pub up_to : (number : ℕ) → take (character_start number (encode_utf8_all points)) (encode_utf8_all points) ≡ encode_utf8_all (take number points)

-- ---- length, substr: of a text by its bytes, which aren't read yet

abbrev pub text_length_of : Option (List ℕ) → Result Deed Fault
text_length_of bytes = when_read bytes (λ bytes. answers_count (character_count bytes))

abbrev pub part_of_text : StoreValue → Option (List ℕ) → Part → Result Deed Fault
part_of_text store bytes part = when_read bytes (λ bytes. answers_new (fitting_text_of (characters_in part bytes)) store)

abbrev pub substr_of : StoreValue → Option (List ℕ) → Holder → Option Holder → Result Deed Fault
substr_of store bytes from count = when_ok (part_of from count) (part_of_text store bytes)

-- ---- startsWith, endsWith

-- whether a test holds of the bytes of two texts
abbrev pub tested_texts : (List ℕ → List ℕ → Bool) → Option (List ℕ) → Option (List ℕ) → Result Deed Fault
tested_texts test bytes other = when_read bytes (λ bytes. when_read other (λ other. answers_truth (test bytes other)))

-- the kind of the argument is tested before a constant is read
abbrev pub compared_texts : (List ℕ → List ℕ → Bool) → Pool → StoreValue → Option (List ℕ) → Holder → Result Deed Fault
compared_texts test constants store bytes other = when_text constants store other (tested_texts test bytes)
