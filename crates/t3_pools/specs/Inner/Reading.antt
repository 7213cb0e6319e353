-- What the functions that read a pool's numbers, texts and holders answer.
use Rattle.std.specs.Prelude.{◌≡◌, ℕ, ◌^◌, ◌<◌, ◌≤◌, Bool, true, false, List, length, take, Option, Some, None}
use Rattle.std.specs.Str.{IsUtf8}
use Rattle.t3_holder.specs.NumberText.{little_endian}
use Rattle.t3_holder.specs.declared.holder.Holder.{Holder}
use Rattle.t3_pools.specs.Pool.{Pool, HasBytes}
use Rattle.t3_pools.specs.Constants.{bytes_in, number_in, text_in, list_in, holder_in, holders_in, extent_of, HasHolder, HasHolders, FindsText, FindsList}

-- a window has the bytes from an address on; or not all of them are there
abbrev pub Fills : Pool → ℕ → List ℕ → Bool → Type 0
Fills pool address window true = HasBytes pool address window
Fills pool address window false = bytes_in (length window) pool address ≡ None

-- a number fits so many bytes, and stands there
pub record IsNumber (width : ℕ) (pool : Pool) (address number : ℕ) : Type 0 where
  pub fits : number < 256 ^ width
  pub stands : HasBytes pool address (little_endian width number)

-- the number in so many bytes
abbrev pub ReadsNumber : ℕ → Pool → ℕ → Option ℕ → Type 0
ReadsNumber width pool address None = number_in width pool address ≡ None
ReadsNumber width pool address (Some number) = IsNumber width pool address number

-- the holder in five bytes
abbrev pub ReadsHolder : Pool → ℕ → Option Holder → Type 0
ReadsHolder pool address None = holder_in pool address ≡ None
ReadsHolder pool address (Some holder) = HasHolder pool address holder

-- so many holders
abbrev pub ReadsHolders : ℕ → Pool → ℕ → Bool → Type 0
ReadsHolders count pool address true = (elements : List Holder) × ((length elements ≡ count) × HasHolders pool address elements)
ReadsHolders count pool address false = holders_in count pool address ≡ None

-- so many bytes of whole characters
abbrev pub HasCharacters : ℕ → Pool → ℕ → Type 0
HasCharacters count pool address = (text : List ℕ) × ((length text ≡ count) × (HasBytes pool address text × IsUtf8 text))

-- whether so many bytes are a text
abbrev pub ReadsText : ℕ → Pool → ℕ → Bool → Type 0
ReadsText count pool address true = HasCharacters count pool address
ReadsText count pool address false = ¬ HasCharacters count pool address

-- the length of whole characters that so many bytes begin with; none is told only where those bytes aren't a text
pub record BeginsText (count : ℕ) (pool : Pool) (address found : ℕ) : Type 0 where
  pub within : found ≤ count
  pub whole : HasCharacters found pool address
  pub none : found ≡ 0 → ¬ HasCharacters count pool address

-- so many bytes are the longest prefix that is UTF-8
pub record IsLongestUtf8 (bytes : List ℕ) (found : ℕ) : Type 0 where
  pub within : found ≤ length bytes
  pub whole : IsUtf8 (take found bytes)
  pub longest : (more : ℕ) → found < more → more ≤ length bytes → ¬ IsUtf8 (take more bytes)

-- which constant string stands at an address, and which is read there
pub record TextAnswer (pool : Pool) (address : ℕ) (answer : Option (ℕ × ℕ)) : Type 0 where
  pub text : FindsText pool address answer
  pub read : answer ≡ extent_of address (text_in pool address)

-- which constant list stands at an address, and which is read there
pub record ListAnswer (pool : Pool) (address : ℕ) (answer : Option (ℕ × ℕ)) : Type 0 where
  pub list : FindsList pool address answer
  pub read : answer ≡ extent_of address (list_in pool address)
