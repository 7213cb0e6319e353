-- Where a part of an item isn't there, no item begins the bytes.
use Rattle.std.proofs.Common.{◌≡◌, ℕ, ◌+◌, ◌-◌, ◌^◌, ◌<◌, ◌≤◌, List, ◌++◌, length, Option, Some, None, sym, ap, subst, ◌∙◌, append_assoc, arith}
use Rattle.std.specs.Prelude.{MatchOption}
use Rattle.std.specs.List.{IsSplitAt}
use Rattle.std.proofs.lemmas.List.{length-append, take-append-drop}
use Rattle.t3_holder.specs.NumberText.{little_endian}
use Rattle.t3_holder.specs.declared.holder.Raw.{Raw}
use Rattle.t3_holder.specs.HolderText.{raw_text, IsRaw}
use Rattle.t3_holder.proofs.Numbers.{length-little_endian}
use Rattle.t3_blocks.specs.Spelling.{name_text, IsName, prop_text, IsProp, frame_text, IsFrame, static_text, IsStatic, symbol_text, IsSymbol}
use Rattle.t3_blocks.specs.Malformed.{BeginsWithItem}
use Rattle.t3_blocks.specs.Inner.Metas.{meta_head_text, IsMetaHead}
use Rattle.t3_blocks.proofs.Lists.{number_split, name_split}
use Rattle.t3_blocks.proofs.ItemTexts.{three, raws_told}

pub at_none : {X : Type 0} (answer : Option X) (No : Type 0) (Yes : X → Type 0) → answer ≡ None → No → MatchOption answer No Yes
at_none answer No Yes is holds = subst (λ o. MatchOption o No Yes) (sym is) holds

pub mapped : {X : Type 0} {No None_ : Type 0} {Yes Some_ : X → Type 0} (answer : Option X) → (No → None_) → ((x : X) → Yes x → Some_ x)
    → MatchOption answer No Yes → MatchOption answer None_ Some_
mapped None none some holds = none holds
mapped (Some x) none some holds = some x holds

pub after_number : (width n : ℕ) (x : List ℕ) → length (little_endian width n ++ x) ≡ width + length x
after_number width n x = omega (arith, length-append (little_endian width n) x, length-little_endian width n)

-- ---- frames

pub no_frame_size : (bytes : List ℕ) → length bytes < 2 → ¬ BeginsWithItem frame_text IsFrame bytes
no_frame_size bytes short begins =
    absurd (omega (
      arith,
      ap length begins.is,
      length-append (frame_text begins.item) begins.trailing,
      after_number 2 (2 + length begins.item) begins.item,
    ))

-- what a frame says of its size and what follows it
frame_parts : (bytes rest : List ℕ) (size : ℕ) → size < 2 ^ 16 → bytes ≡ little_endian 2 size ++ rest
    → (begins : BeginsWithItem frame_text IsFrame bytes) → (size ≡ 2 + length begins.item) × (rest ≡ begins.item ++ begins.trailing)
frame_parts bytes rest size fits is begins =
    number_split 2 size (2 + length begins.item) rest (begins.item ++ begins.trailing) fits begins.fits
    (sym is ∙ begins.is ∙ append_assoc (little_endian 2 (2 + length begins.item)) begins.item begins.trailing)

pub no_frame : (bytes rest : List ℕ) (size : ℕ) → size < 2 ^ 16 → bytes ≡ little_endian 2 size ++ rest → size < 2
    → ¬ BeginsWithItem frame_text IsFrame bytes
no_frame bytes rest size fits is small begins =
    let parts = frame_parts bytes rest size fits is begins in
    absurd (omega (arith, parts.0))

pub no_frame_body : (bytes rest : List ℕ) (size : ℕ) → size < 2 ^ 16 → bytes ≡ little_endian 2 size ++ rest → length rest < size - 2
    → ¬ BeginsWithItem frame_text IsFrame bytes
no_frame_body bytes rest size fits is short begins =
    let parts = frame_parts bytes rest size fits is begins in
    absurd (omega (arith, parts.0, ap length parts.1, length-append begins.item begins.trailing))

pub is_frame : (bytes rest body trailing : List ℕ) (size : ℕ) → size < 2 ^ 16 → bytes ≡ little_endian 2 size ++ rest → 2 ≤ size
    → IsSplitAt rest (size - 2) body trailing → IsFrame body × (bytes ≡ frame_text body ++ trailing)
is_frame bytes rest body trailing size fits is least split =
    let long : size ≡ 2 + length body = omega (arith, split.3) in
    let rest_is : rest ≡ body ++ trailing = sym (take-append-drop (size - 2) rest) ∙ (λ i. sym split.1 i ++ sym split.2 i) in
    (omega arith, is ∙ (λ i. little_endian 2 (long i) ++ rest_is i) ∙ sym (append_assoc (little_endian 2 (2 + length body)) body trailing))

-- ---- symbols

pub no_raw : (bytes : List ℕ) → length bytes < 5 → ¬ BeginsWithItem symbol_text IsSymbol bytes
unfolding raw_text
no_raw bytes short begins =
    let symbol = begins.item in
    absurd (omega (
      arith,
      ap length begins.is,
      length-append (symbol_text symbol) begins.trailing,
      length-append (raw_text symbol.raw) (name_text symbol.name),
      length-little_endian 4 symbol.raw.bits,
    ))

pub no_symbol_name : (bytes rest : List ℕ) (raw : Raw) → IsRaw raw → bytes ≡ raw_text raw ++ rest → ¬ BeginsWithItem name_text IsName rest
    → ¬ BeginsWithItem symbol_text IsSymbol bytes
no_symbol_name bytes rest raw fits is none begins =
    let symbol = begins.item in
    let parts = raws_told raw symbol.raw rest (name_text symbol.name ++ begins.trailing) fits begins.fits.0
    (sym is ∙ begins.is ∙ append_assoc (raw_text symbol.raw) (name_text symbol.name) begins.trailing) in
    none (record { item = symbol.name; trailing = begins.trailing; fits = begins.fits.1; is = parts.1 })

-- ---- objects

pub no_static_number : (width : ℕ) (bytes : List ℕ) → length bytes < 4 → ¬ BeginsWithItem (static_text width) (IsStatic width) bytes
no_static_number width bytes short begins =
    let object = begins.item in
    let rest = little_endian width (length object.bytes) ++ object.bytes in
    absurd (omega (arith, ap length begins.is, length-append (static_text width object) begins.trailing, after_number 4 object.number rest))

static_parts : (width : ℕ) (bytes rest : List ℕ) (number : ℕ) → number < 2 ^ 32 → bytes ≡ little_endian 4 number ++ rest
    → (begins : BeginsWithItem (static_text width) (IsStatic width) bytes)
    → rest ≡ little_endian width (length begins.item.bytes) ++ (begins.item.bytes ++ begins.trailing)
static_parts width bytes rest number fits is begins =
    let object = begins.item in
    (number_split 4 number object.number rest _ fits begins.fits.0
    (sym is ∙ begins.is ∙ three (little_endian 4 object.number)
    (little_endian width (length object.bytes)) object.bytes begins.trailing)).1

pub no_static_size : (width : ℕ) (bytes rest : List ℕ) (number : ℕ) → number < 2 ^ 32 → bytes ≡ little_endian 4 number ++ rest
    → length rest < width → ¬ BeginsWithItem (static_text width) (IsStatic width) bytes
no_static_size width bytes rest number fits is short begins =
    let object = begins.item in
    absurd (omega (
      arith,
      ap length (static_parts width bytes rest number fits is begins),
      after_number width (length object.bytes) (object.bytes ++ begins.trailing),
    ))

pub no_static_bytes : (width : ℕ) (bytes rest trailing : List ℕ) (number size : ℕ) → number < 2 ^ 32
    → bytes ≡ little_endian 4 number ++ rest → size < 256 ^ width → rest ≡ little_endian width size ++ trailing → length trailing < size
    → ¬ BeginsWithItem (static_text width) (IsStatic width) bytes
no_static_bytes width bytes rest trailing number size fits is fits_size is_size short begins =
    let object = begins.item in
    let parts = number_split width size (length object.bytes) trailing (object.bytes ++ begins.trailing) fits_size begins.fits.1
    (sym is_size ∙ static_parts width bytes rest number fits is begins) in
    absurd (omega (arith, parts.0, ap length parts.1, length-append object.bytes begins.trailing))

-- ---- properties

pub no_prop_number : (size : ℕ) (bytes : List ℕ) → length bytes < 2 → ¬ BeginsWithItem prop_text (IsProp size) bytes
no_prop_number size bytes short begins =
    let entry = begins.item in
    absurd (omega (arith, ap length begins.is, length-append (prop_text entry) begins.trailing, after_number 2 entry.number entry.extra))

pub no_prop : (size : ℕ) (bytes : List ℕ) → size < 2 → ¬ BeginsWithItem prop_text (IsProp size) bytes
no_prop size bytes small begins = absurd (omega (arith, begins.fits.1))

pub no_prop_extra : (size : ℕ) (bytes rest : List ℕ) (number : ℕ) → number < 2 ^ 16 → bytes ≡ little_endian 2 number ++ rest
    → length rest < size - 2 → ¬ BeginsWithItem prop_text (IsProp size) bytes
no_prop_extra size bytes rest number fits is short begins =
    let entry = begins.item in
    let parts = number_split 2 number entry.number rest (entry.extra ++ begins.trailing) fits begins.fits.0
    (sym is ∙ begins.is ∙ append_assoc (little_endian 2 entry.number) entry.extra begins.trailing) in
    absurd (omega (arith, begins.fits.1, ap length parts.1, length-append entry.extra begins.trailing))

-- ---- what comes before the properties

meta_parts : (body rest name : List ℕ) → IsName name → body ≡ name_text name ++ rest
    → (begins : BeginsWithItem meta_head_text IsMetaHead body)
    → rest ≡ little_endian 2 begins.item.count ++ (little_endian 2 begins.item.size ++ begins.trailing)
meta_parts body rest name fits is begins =
    let head = begins.item in
    let numbers = little_endian 2 head.count ++ little_endian 2 head.size in
    (name_split name head.name rest (numbers ++ begins.trailing)
    (sym is ∙ begins.is ∙ append_assoc (name_text head.name) numbers begins.trailing)).1
    ∙ append_assoc (little_endian 2 head.count) (little_endian 2 head.size) begins.trailing

pub no_meta_name : (body : List ℕ) → ¬ BeginsWithItem name_text IsName body → ¬ BeginsWithItem meta_head_text IsMetaHead body
no_meta_name body none begins =
    let head = begins.item in
    let numbers = little_endian 2 head.count ++ little_endian 2 head.size in
    none (record {
      item = head.name;
      trailing = numbers ++ begins.trailing;
      fits = begins.fits.name;
      is = begins.is
          ∙ append_assoc (name_text head.name) numbers begins.trailing;
    })

pub no_meta_count : (body rest name : List ℕ) → IsName name → body ≡ name_text name ++ rest → length rest < 2
    → ¬ BeginsWithItem meta_head_text IsMetaHead body
no_meta_count body rest name fits is short begins =
    let head = begins.item in
    absurd (omega (
      arith,
      ap length (meta_parts body rest name fits is begins),
      after_number 2 head.count (little_endian 2 head.size ++ begins.trailing),
    ))

pub no_meta_size : (body rest trailing name : List ℕ) (count : ℕ) → IsName name → body ≡ name_text name ++ rest → count < 2 ^ 16
    → rest ≡ little_endian 2 count ++ trailing → length trailing < 2 → ¬ BeginsWithItem meta_head_text IsMetaHead body
no_meta_size body rest trailing name count fits is fits_count is_count short begins =
    let head = begins.item in
    let parts = number_split 2 count head.count trailing (little_endian 2 head.size ++ begins.trailing) fits_count begins.fits.count
    (sym is_count ∙ meta_parts body rest name fits is begins) in
    absurd (omega (arith, ap length parts.1, after_number 2 head.size begins.trailing))
