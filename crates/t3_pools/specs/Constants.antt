-- Constant strings and lists: how they stand in a pool, from the value to the bytes, and what a pool has at an address, as functions
-- (the chapter on the image format).
use Rattle.std.specs.Prelude.{◌≡◌, ℕ, zero, suc, ◌+◌, ◌%◌, ◌^◌, ◌<◌, ◌==◌, Bool, true, ◌&&◌, nat_lt, List, [], ◌∷◌, ◌++◌, length, Option, Some, None, if◌then◌else◌}
use Rattle.std.specs.FinMap.{get}
use Rattle.std.specs.Int.{w32, cast_signed}
use Rattle.std.specs.List.{find}
use Rattle.std.specs.Option.{option_map, option_and_then}
use Rattle.std.specs.Str.{IsUtf8, is_utf8}
use Rattle.t3_holder.specs.NumberText.{little_endian, value_of}
use Rattle.t3_holder.specs.HolderText.{raw_text, tag_of, IsRaw, Means}
use Rattle.t3_holder.specs.declared.holder.Raw.{Raw}
use Rattle.t3_holder.specs.declared.holder.Holder.{Holder}
use Rattle.t3_holder.specs.declared.holder.Holder.TheVariants as holders
use Rattle.t3_pools.specs.Pool.{Pool, HasBytes}

-- ---- what stands

-- a constant string: its length in two bytes, and then its bytes, which are UTF-8
pub record HasText (pool : Pool) (address : ℕ) (text : List ℕ) : Type 0 where
  pub fits : length text < 2 ^ 16
  pub utf8 : IsUtf8 text
  pub stands : HasBytes pool address (little_endian 2 (length text) ++ text)

-- a holder: five bytes that mean it
pub record HasHolder (pool : Pool) (address : ℕ) (holder : Holder) : Type 0 where
  pub raw : Raw
  pub fits : IsRaw raw
  pub means : Means raw holder
  pub stands : HasBytes pool address (raw_text raw)

-- holders, one after the other
abbrev pub HasHolders : Pool → ℕ → List Holder → Type 0
HasHolders pool address [] = Unit {0}
HasHolders pool address (holder ∷ holders) = HasHolder pool address holder × HasHolders pool (address + 5) holders

-- a constant list: its count in two bytes, and then its holders
pub record HasList (pool : Pool) (address : ℕ) (elements : List Holder) : Type 0 where
  pub fits : length elements < 2 ^ 16
  pub count : HasBytes pool address (little_endian 2 (length elements))
  pub stands : HasHolders pool (address + 2) elements

-- this holder stands at an address; or none does
abbrev pub FindsHolder : Pool → ℕ → Option Holder → Type 0
FindsHolder pool address None = (holder : Holder) → ¬ HasHolder pool address holder
FindsHolder pool address (Some holder) = HasHolder pool address holder

-- a constant string stands at an address, so long and with its first byte there; or none does
abbrev pub FindsText : Pool → ℕ → Option (ℕ × ℕ) → Type 0
FindsText pool address None = (text : List ℕ) → ¬ HasText pool address text
FindsText pool address (Some found) =
    (text : List ℕ) × (HasText pool address text × ((found.0 ≡ address + 2) × (found.1 ≡ length text)))

-- a constant list stands at an address, with so many holders and its first one there; or none does
abbrev pub FindsList : Pool → ℕ → Option (ℕ × ℕ) → Type 0
FindsList pool address None = (elements : List Holder) → ¬ HasList pool address elements
FindsList pool address (Some found) =
    (elements : List Holder) × (HasList pool address elements × ((found.0 ≡ address + 2) × (found.1 ≡ length elements)))

-- ---- what a pool has at an address, as functions

-- so many bytes from an address on, where all of them are there
unfoldable pub bytes_in : ℕ → Pool → ℕ → Option (List ℕ)
bytes_in zero pool address = Some []
bytes_in (suc count) pool address =
    option_and_then (λ byte. option_map (λ bytes. byte ∷ bytes) (bytes_in count pool (address + 1))) (get pool address)

-- the number in so many bytes, its lowest byte first
unfoldable pub number_in : ℕ → Pool → ℕ → Option ℕ
number_in width pool address = option_map value_of (bytes_in width pool address)

-- these bytes, where they are UTF-8
abbrev pub as_utf8 : List ℕ → Option (List ℕ)
as_utf8 bytes = if is_utf8 bytes then Some bytes else None

-- the constant string at an address
unfoldable pub text_in : Pool → ℕ → Option (List ℕ)
text_in pool address =
    option_and_then (λ count. option_and_then as_utf8 (bytes_in count pool (address + 2))) (number_in 2 pool address)

-- what these bits would be under each type
abbrev pub holders_by : ℕ → List Holder
holders_by bits =
    holders.Nil ∷ holders.True ∷ holders.Obj bits ∷ holders.Prop (bits % 2 ^ 16) ∷ holders.Int (cast_signed w32 bits)
    ∷ holders.Text bits ∷ holders.Shown bits ∷ holders.List bits ∷ holders.Code bits ∷ holders.Func bits ∷ holders.Enum bits ∷ []

-- no object and no property has the number 0
abbrev pub is_good : Holder → Bool
is_good (holders.Obj number) = nat_lt 0 number
is_good (holders.Prop number) = nat_lt 0 number
is_good _ = true

-- what a type and bits mean: what the bits are under this type, where that is good
abbrev pub meaning_of : ℕ → ℕ → Option Holder
meaning_of tag bits = find (λ holder. tag_of holder == tag && is_good holder) (holders_by bits)

-- the holder in the five bytes at an address
unfoldable pub holder_in : Pool → ℕ → Option Holder
holder_in pool address = option_and_then (λ tag. option_and_then (meaning_of tag) (number_in 4 pool (address + 1))) (get pool address)

-- so many holders from an address on, where all of them are good
unfoldable pub holders_in : ℕ → Pool → ℕ → Option (List Holder)
holders_in zero pool address = Some []
holders_in (suc count) pool address =
    option_and_then (λ holder. option_map (λ elements. holder ∷ elements) (holders_in count pool (address + 5))) (holder_in pool address)

-- the constant list at an address
unfoldable pub list_in : Pool → ℕ → Option (List Holder)
list_in pool address = option_and_then (λ count. holders_in count pool (address + 2)) (number_in 2 pool address)

-- the address of the first byte of a text and its length, or of the first holder of a list and its count
abbrev pub extent_of : {Item : Type 0} → ℕ → Option (List Item) → Option (ℕ × ℕ)
extent_of address found = option_map (λ items. (address + 2, length items)) found

-- each byte of the pool fits a byte
abbrev pub IsOfBytes : Pool → Type 0
IsOfBytes pool = (address byte : ℕ) → get pool address ≡ Some byte → byte < 256
