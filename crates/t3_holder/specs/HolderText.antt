-- Data holders: their five bytes, and what they mean (the chapter on the image format).
use Rattle.std.specs.Prelude.{◌≡◌, ℕ, ◌%◌, ◌^◌, ◌<◌, ◌⊎◌, false, ◌==◌, List, [], ◌∷◌, FitsSigned}
use Rattle.std.specs.Int.{w32}
use Rattle.std.specs.List.{list_any}
use Rattle.t3_holder.specs.NumberText.{little_endian, twos_complement}
use Rattle.t3_holder.specs.declared.holder.Raw.{Raw}
use Rattle.t3_holder.specs.declared.holder.Holder.{Holder}
use Rattle.t3_holder.specs.declared.holder.Holder.TheVariants as holders

-- a type in one byte, and a value in four
unfoldable pub raw_text : Raw → List ℕ
raw_text raw = raw.tag ∷ little_endian 4 raw.bits

-- the parts fit their fields
pub record IsRaw (raw : Raw) : Type 0 where
  pub tag : raw.tag < 256
  pub bits : raw.bits < 2 ^ 32

-- the number of each type
abbrev pub tag_of : Holder → ℕ
tag_of holders.Nil = 1
tag_of holders.True = 2
tag_of (holders.Obj number) = 5
tag_of (holders.Prop number) = 6
tag_of (holders.Int number) = 7
tag_of (holders.Text address) = 8
tag_of (holders.Shown address) = 9
tag_of (holders.List address) = 10
tag_of (holders.Code address) = 11
tag_of (holders.Func address) = 12
tag_of (holders.Enum number) = 15

-- the value of each holder in 32 bits, of which those that its type doesn't use are 0
abbrev pub bits_of : Holder → ℕ
bits_of holders.Nil = 0
bits_of holders.True = 0
bits_of (holders.Obj number) = number
bits_of (holders.Prop number) = number
bits_of (holders.Int number) = twos_complement 4 number
bits_of (holders.Text address) = address
bits_of (holders.Shown address) = address
bits_of (holders.List address) = address
bits_of (holders.Code address) = address
bits_of (holders.Func address) = address
bits_of (holders.Enum number) = number

-- of 32 bits, those that a holder of this type uses: none, the low 16, or all
abbrev pub used_bits : Holder → ℕ → ℕ
used_bits holders.Nil bits = 0
used_bits holders.True bits = 0
used_bits (holders.Prop number) bits = bits % 2 ^ 16
used_bits _ bits = bits

-- the number of a holder fits its field
abbrev pub IsHolder : Holder → Type 0
IsHolder holders.Nil = Unit {0}
IsHolder holders.True = Unit {0}
IsHolder (holders.Obj number) = number < 2 ^ 32
IsHolder (holders.Prop number) = number < 2 ^ 16
IsHolder (holders.Int number) = FitsSigned w32 number
IsHolder (holders.Text address) = address < 2 ^ 32
IsHolder (holders.Shown address) = address < 2 ^ 32
IsHolder (holders.List address) = address < 2 ^ 32
IsHolder (holders.Code address) = address < 2 ^ 32
IsHolder (holders.Func address) = address < 2 ^ 32
IsHolder (holders.Enum number) = number < 2 ^ 32

-- no object and no property has the number 0
abbrev pub IsGood : Holder → Type 0
IsGood (holders.Obj number) = 0 < number
IsGood (holders.Prop number) = 0 < number
IsGood _ = Unit {0}

-- a raw holder means this one: it has its type, and the bits that are used are its
pub record Means (raw : Raw) (holder : Holder) : Type 0 where
  pub fits : IsHolder holder
  pub good : IsGood holder
  pub tag : raw.tag ≡ tag_of holder
  pub bits : used_bits holder raw.bits ≡ bits_of holder

-- the types of holders that mean something
abbrev pub meant_tags : List ℕ
meant_tags = 1 ∷ 2 ∷ 5 ∷ 6 ∷ 7 ∷ 8 ∷ 9 ∷ 10 ∷ 11 ∷ 12 ∷ 15 ∷ []

-- the type means nothing, or it is an object or a property with the number 0, a property's in the low 16 bits
abbrev pub IsNoHolder : Raw → Type 0
IsNoHolder raw = (list_any (λ tag. tag == raw.tag) meant_tags ≡ false)
    ⊎ (((raw.tag ≡ 5) × (raw.bits ≡ 0)) ⊎ ((raw.tag ≡ 6) × (raw.bits % 2 ^ 16 ≡ 0)))
