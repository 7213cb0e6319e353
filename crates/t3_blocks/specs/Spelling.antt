-- The payload of each kind of block, from the block to the bytes (the chapter on the image format).
use Rattle.std.specs.Prelude.{◌≡◌, ℕ, ◌+◌, ◌^◌, ◌<◌, ◌==◌, if◌then◌else◌, List, ◌∷◌, ◌++◌, codes, length, map}
use Rattle.std.specs.Int.Bits.{bit_xor}
use Rattle.std.specs.Int.{bit_at}
use Rattle.std.specs.List.{flat_map, AllByRecursion}
use Rattle.t3_holder.specs.NumberText.{little_endian}
use Rattle.t3_holder.specs.HolderText.{raw_text, IsRaw}
use Rattle.t3_blocks.specs.BlockName.{IsPlain}
use Rattle.t3_blocks.specs.declared.block.Block.{Block}
use Rattle.t3_blocks.specs.declared.block.Block.TheVariants.{Entry, Objects, PoolDef, Page, Metas, Functions, Symbols, Opaque}
use Rattle.t3_blocks.specs.declared.items.Meta.{Meta}
use Rattle.t3_blocks.specs.declared.items.PropEntry.{PropEntry}
use Rattle.t3_blocks.specs.declared.items.Static.{Static}
use Rattle.t3_blocks.specs.declared.items.Symbol.{Symbol}

-- the most bytes that an image has
abbrev pub image_limit : ℕ
image_limit = 268435456

-- the name under which a block stands
abbrev pub name_of : Block → List ℕ
name_of (Entry code method_size exception_size debug tail) = codes "ENTP"
name_of (Objects metaclass flags objects) = codes "OBJS"
name_of (PoolDef pool count size) = codes "CPDF"
name_of (Page pool index mask bytes) = codes "CPPG"
name_of (Metas metas) = codes "MCLD"
name_of (Functions names) = codes "FNSD"
name_of (Symbols symbols) = codes "SYMD"
name_of (Opaque name bytes) = name

-- bytes with the mask laid on each
abbrev pub masked_bytes : ℕ → List ℕ → List ℕ
masked_bytes mask bytes = map (λ byte. bit_xor byte mask) bytes

-- ---- items

-- a length-prefixed name, the length in one byte
abbrev pub name_text : List ℕ → List ℕ
name_text name = length name ∷ name

-- its length fits
abbrev pub IsName : List ℕ → Type 0
IsName name = length name < 256

-- a property of a metaclass: its number, and what else the property size has room for
abbrev pub prop_text : PropEntry → List ℕ
prop_text entry = little_endian 2 entry.number ++ entry.extra

-- it has just the property size
abbrev pub IsProp : ℕ → PropEntry → Type 0
IsProp size entry = (entry.number < 2 ^ 16) × (2 + length entry.extra ≡ size)

-- a size-prefixed body, the size in two bytes and counted from its own first byte
abbrev pub frame_text : List ℕ → List ℕ
frame_text body = little_endian 2 (2 + length body) ++ body

abbrev pub IsFrame : List ℕ → Type 0
IsFrame body = 2 + length body < 2 ^ 16

-- a metaclass without its entry size: the name, the property count, the property size, the properties, and what follows them
abbrev pub meta_body : Meta → List ℕ
meta_body meta =
    name_text meta.name ++
    (little_endian 2 (length meta.props)
    ++ (little_endian 2 meta.property_size ++ (flat_map prop_text meta.props ++ meta.tail)))

abbrev pub meta_text : Meta → List ℕ
meta_text meta = frame_text (meta_body meta)

-- its parts fit their fields; so where it has a property, its property size is at least 2
pub record IsMetaBody (meta : Meta) : Type 0 where
  pub name : IsName meta.name
  pub count : length meta.props < 2 ^ 16
  pub size : meta.property_size < 2 ^ 16
  pub props : AllByRecursion (IsProp meta.property_size) meta.props

abbrev pub IsMeta : Meta → Type 0
IsMeta meta = IsFrame (meta_body meta) × IsMetaBody meta

-- how many bytes the size of an object has: four where bit 0x0001 of the flags says that sizes are large, and else two
abbrev pub size_width : ℕ → ℕ
size_width flags = if bit_at flags 0 == 1 then 4 else 2

-- a static object: its number, its size, and its bytes
abbrev pub static_text : ℕ → Static → List ℕ
static_text width object =
    little_endian 4 object.number ++ (little_endian width (length object.bytes) ++ object.bytes)

abbrev pub IsStatic : ℕ → Static → Type 0
IsStatic width object = (object.number < 2 ^ 32) × (length object.bytes < 256 ^ width)

-- a symbol: a data holder, and the name that it goes by
abbrev pub symbol_text : Symbol → List ℕ
symbol_text symbol = raw_text symbol.raw ++ name_text symbol.name

abbrev pub IsSymbol : Symbol → Type 0
IsSymbol symbol = IsRaw symbol.raw × IsName symbol.name

-- ---- blocks

-- a counted payload: a head, and then the texts of its items in order
abbrev pub counted_text : {Item : Type 0} → (Item → List ℕ) → List ℕ → List Item → List ℕ
counted_text item_text head items = head ++ flat_map item_text items

-- the head of a list of objects
abbrev pub objects_head : ℕ → ℕ → ℕ → List ℕ
objects_head count metaclass flags =
    little_endian 2 count ++ (little_endian 2 metaclass ++ little_endian 2 flags)

-- the payload of a block
unfoldable pub payload_of : Block → List ℕ
payload_of (Entry code method_size exception_size debug tail) =
    little_endian 4 code ++
    (little_endian 2 method_size
    ++ (little_endian 2 exception_size ++ (flat_map (little_endian 2) debug ++ tail)))
payload_of (Objects metaclass flags objects) =
    counted_text (static_text (size_width flags))
    (objects_head (length objects) metaclass flags) objects
payload_of (PoolDef pool count size) =
    little_endian 2 pool ++ (little_endian 4 count ++ little_endian 4 size)
payload_of (Page pool index mask bytes) =
    little_endian 2 pool ++ (little_endian 4 index ++ (mask ∷ masked_bytes mask bytes))
payload_of (Metas metas) = counted_text meta_text (little_endian 2 (length metas)) metas
payload_of (Functions names) = counted_text name_text (little_endian 2 (length names)) names
payload_of (Symbols symbols) = counted_text symbol_text (little_endian 2 (length symbols)) symbols
payload_of (Opaque name bytes) = bytes

-- what a payload spells: the parts fit their fields, and a block of any bytes has a name of four bytes whose layout isn't read here and that isn't the end's
abbrev pub IsSpellable : Block → Type 0
IsSpellable (Entry code method_size exception_size debug tail) =
    (code < 2 ^ 32) × (method_size < 2 ^ 16) × (exception_size < 2 ^ 16) × (length debug ≡ 4)
    × AllByRecursion (λ n. n < 2 ^ 16) debug
IsSpellable (Objects metaclass flags objects) =
    (metaclass < 2 ^ 16) × (flags < 2 ^ 16) × (length objects < 2 ^ 16)
    × AllByRecursion (IsStatic (size_width flags)) objects
IsSpellable (PoolDef pool count size) = (pool < 2 ^ 16) × (count < 2 ^ 32) × (size < 2 ^ 32)
IsSpellable (Page pool index mask bytes) = (pool < 2 ^ 16) × (index < 2 ^ 32) × (mask < 256)
IsSpellable (Metas metas) = (length metas < 2 ^ 16) × AllByRecursion IsMeta metas
IsSpellable (Functions names) = (length names < 2 ^ 16) × AllByRecursion IsName names
IsSpellable (Symbols symbols) = (length symbols < 2 ^ 16) × AllByRecursion IsSymbol symbols
IsSpellable (Opaque name bytes) = (length name ≡ 4) × IsPlain name

-- under this name the payload spells the block
pub record Spells (block : Block) (name payload : List ℕ) : Type 0 where
  pub spellable : IsSpellable block
  pub name_is : name_of block ≡ name
  pub payload_is : payload_of block ≡ payload
