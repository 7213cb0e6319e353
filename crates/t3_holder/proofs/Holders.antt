-- Raw holders and their texts, and which holders they mean. Other crates may use what stands here.
use Rattle.std.proofs.Common.{◌≡◌, ℕ, ◌%◌, ◌^◌, ◌<◌, true, List, [], ◌∷◌, length, take, drop, get_or, refl, sym, ap, ◌∙◌, inl, inr, arith}
use Rattle.std.specs.Prelude.{◌==◌, if◌then◌else◌}
use Rattle.std.specs.Int.{w32, cast_signed}
use Rattle.std.specs.List.{list_any}
use Rattle.std.proofs.lemmas.Int.{to_z-of_z}
use Rattle.std.proofs.lemmas.List.{take_all}
use Rattle.t3_holder.specs.NumberText.{little_endian, value_of, AreBytes}
use Rattle.t3_holder.specs.declared.holder.Raw.{Raw}
use Rattle.t3_holder.specs.declared.holder.Holder.{Holder}
use Rattle.t3_holder.specs.declared.holder.Holder.TheVariants as holders
use Rattle.t3_holder.specs.HolderText.{raw_text, tag_of, bits_of, IsRaw, IsHolder, IsGood, Means, meant_tags, IsNoHolder}
use Rattle.t3_holder.proofs.Numbers.{same_number, value_fits, little_endian-value_of, length-little_endian, four_parts}

-- ---- five bytes

pub one_raw : (a b : Raw) → IsRaw a → IsRaw b → raw_text a ≡ raw_text b → a ≡ b
unfolding raw_text
one_raw a b fits_a fits_b e =
    let tag : a.tag ≡ b.tag = cc in
    let texts : little_endian 4 a.bits ≡ little_endian 4 b.bits = cc in
    let bits = same_number 4 a.bits b.bits fits_a.bits fits_b.bits texts in
    λ i. record { tag = tag i; bits = bits i }

pub some_raw : (text : List ℕ) → length text ≡ 5 → AreBytes text → (raw : Raw) × IsRaw raw × (raw_text raw ≡ text)
unfolding raw_text
some_raw [] long bytes = absurd (omega arith)
some_raw (tag ∷ value) long bytes =
    let four : length value ≡ 4 = omega arith in
    let text : little_endian 4 (value_of value) ≡ value =
    ap (λ w. little_endian w (value_of value)) (sym four) ∙ little_endian-value_of value bytes.1 in
    let raw : Raw = record { tag = tag; bits = value_of value } in
    (raw, record { tag = bytes.0; bits = value_fits 4 value bytes.1 four }, ap (λ t. tag ∷ t) text)

-- ---- what is meant

-- the holder of a type and a value, if any means them
abbrev pub holder_from : ℕ → ℕ → Holder
holder_from tag bits =
    if tag == 1 then holders.Nil else (
    if tag == 2 then holders.True else (
    if tag == 5 then holders.Obj bits else (
    if tag == 6 then holders.Prop (bits % 2 ^ 16) else (
    if tag == 7 then holders.Int (cast_signed w32 bits) else (
    if tag == 8 then holders.Text bits else (
    if tag == 9 then holders.Shown bits else (
    if tag == 10 then holders.List bits else (
    if tag == 11 then holders.Code bits else (
    if tag == 12 then holders.Func bits else
    holders.Enum bits)))))))))

at_tag : (raw : Raw) (holder : Holder) (tag : ℕ) → raw.tag ≡ tag → holder_from tag raw.bits ≡ holder → holder_from raw.tag raw.bits ≡ holder
at_tag raw holder tag is e = ap (λ t. holder_from t raw.bits) is ∙ e

of_means : (raw : Raw) (holder : Holder) → Means raw holder → holder_from raw.tag raw.bits ≡ holder
of_means raw holders.Nil means = at_tag raw holders.Nil 1 means.tag refl
of_means raw holders.True means = at_tag raw holders.True 2 means.tag refl
of_means raw (holders.Obj number) means = at_tag raw (holders.Obj number) 5 means.tag (ap holders.Obj means.bits)
of_means raw (holders.Prop number) means = at_tag raw (holders.Prop number) 6 means.tag (ap holders.Prop means.bits)
of_means raw (holders.Int number) means =
    at_tag raw (holders.Int number) 7 means.tag (ap holders.Int (ap (cast_signed w32) means.bits ∙ to_z-of_z w32 number means.fits))
of_means raw (holders.Text address) means = at_tag raw (holders.Text address) 8 means.tag (ap holders.Text means.bits)
of_means raw (holders.Shown address) means = at_tag raw (holders.Shown address) 9 means.tag (ap holders.Shown means.bits)
of_means raw (holders.List address) means = at_tag raw (holders.List address) 10 means.tag (ap holders.List means.bits)
of_means raw (holders.Code address) means = at_tag raw (holders.Code address) 11 means.tag (ap holders.Code means.bits)
of_means raw (holders.Func address) means = at_tag raw (holders.Func address) 12 means.tag (ap holders.Func means.bits)
of_means raw (holders.Enum number) means = at_tag raw (holders.Enum number) 15 means.tag (ap holders.Enum means.bits)

pub one_holder : (raw : Raw) (a b : Holder) → Means raw a → Means raw b → a ≡ b
one_holder raw a b means_a means_b = sym (of_means raw a means_a) ∙ of_means raw b means_b

-- ---- what means nothing

known_tag : (holder : Holder) → list_any (λ tag. tag == tag_of holder) meant_tags ≡ true
known_tag holders.Nil = refl
known_tag holders.True = refl
known_tag (holders.Obj number) = refl
known_tag (holders.Prop number) = refl
known_tag (holders.Int number) = refl
known_tag (holders.Text address) = refl
known_tag (holders.Shown address) = refl
known_tag (holders.List address) = refl
known_tag (holders.Code address) = refl
known_tag (holders.Func address) = refl
known_tag (holders.Enum number) = refl

object_numbered : (raw : Raw) (holder : Holder) → Means raw holder → tag_of holder ≡ 5 → raw.bits ≡ 0 → ⊥
object_numbered raw (holders.Obj number) means tag none = absurd (omega (arith, means.good, means.bits))
object_numbered raw _ means tag none = absurd (omega (arith, tag))

property_numbered : (raw : Raw) (holder : Holder) → Means raw holder → tag_of holder ≡ 6 → raw.bits % 2 ^ 16 ≡ 0 → ⊥
property_numbered raw (holders.Prop number) means tag none = absurd (omega (arith, means.good, means.bits))
property_numbered raw _ means tag none = absurd (omega (arith, tag))

pub none_meant : (raw : Raw) (holder : Holder) → IsNoHolder raw → Means raw holder → ⊥
none_meant raw holder (inl unknown) means =
    let known : list_any (λ tag. tag == raw.tag) meant_tags ≡ true =
    ap (λ t. list_any (λ tag. tag == t) meant_tags) means.tag ∙ known_tag holder in
    absurd cc
none_meant raw holder (inr (inl object)) means = object_numbered raw holder means (sym means.tag ∙ object.0) object.1
none_meant raw holder (inr (inr property)) means = property_numbered raw holder means (sym means.tag ∙ property.0) property.1

-- ---- each holder is meant

low_bits : (number : ℕ) → number < 2 ^ 16 → number % 2 ^ 16 ≡ number
low_bits number fits = omega arith

pub is_meant : (holder : Holder) → IsHolder holder → IsGood holder → Means (record { tag = tag_of holder; bits = bits_of holder }) holder
is_meant holders.Nil fits good = record { fits = tt; good = tt; tag = refl; bits = refl }
is_meant holders.True fits good = record { fits = tt; good = tt; tag = refl; bits = refl }
is_meant (holders.Obj number) fits good = record { fits = fits; good = good; tag = refl; bits = refl }
is_meant (holders.Prop number) fits good = record { fits = fits; good = good; tag = refl; bits = low_bits number fits }
is_meant (holders.Int number) fits good = record { fits = fits; good = tt; tag = refl; bits = refl }
is_meant (holders.Text address) fits good = record { fits = fits; good = tt; tag = refl; bits = refl }
is_meant (holders.Shown address) fits good = record { fits = fits; good = tt; tag = refl; bits = refl }
is_meant (holders.List address) fits good = record { fits = fits; good = tt; tag = refl; bits = refl }
is_meant (holders.Code address) fits good = record { fits = fits; good = tt; tag = refl; bits = refl }
is_meant (holders.Func address) fits good = record { fits = fits; good = tt; tag = refl; bits = refl }
is_meant (holders.Enum number) fits good = record { fits = fits; good = tt; tag = refl; bits = refl }

-- ---- what is read and written

pub raw_text-read : (bytes : List ℕ) (bits : ℕ) → length bytes ≡ 5 → take 4 (drop 1 bytes) ≡ little_endian 4 bits
    → raw_text (record { tag = get_or bytes 0 0; bits = bits }) ≡ bytes
unfolding raw_text
raw_text-read [] bits long is = absurd (omega arith)
raw_text-read (tag ∷ value) bits long is = ap (λ t. tag ∷ t) (sym is ∙ take_all 4 value (omega arith))

pub raw_text-written : (raw : Raw) (bytes : List ℕ) → bytes ≡ little_endian 4 raw.bits
    → raw.tag ∷ get_or bytes 0 0 ∷ get_or bytes 1 0 ∷ get_or bytes 2 0 ∷ get_or bytes 3 0 ∷ [] ≡ raw_text raw
unfolding raw_text
raw_text-written raw bytes is = ap (λ t. raw.tag ∷ t) (four_parts bytes (ap length is ∙ length-little_endian 4 raw.bits) ∙ is)
