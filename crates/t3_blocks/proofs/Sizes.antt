-- The sizes of texts. Other crates may use what stands here.
use Rattle.std.proofs.Common.{◌≡◌, ℕ, ◌+◌, ◌*◌, ◌^◌, ◌<◌, List, [], ◌∷◌, ◌++◌, length, take, get_or, refl, ap, arith}
use Rattle.std.specs.Int.Bits.{bit_xor}
use Rattle.std.specs.List.{flat_map}
use Rattle.std.proofs.lemmas.List.{length-append, length-map}
use Rattle.std.proofs.lemmas.List.Folds.{length-flat_map-take}
use Rattle.t3_holder.specs.NumberText.{little_endian}
use Rattle.t3_holder.specs.HolderText.{raw_text}
use Rattle.t3_holder.proofs.Numbers.{length-little_endian}
use Rattle.t3_blocks.specs.declared.block.Block.TheVariants.{Entry, PoolDef, Page, Functions, Metas, Objects, Symbols}
use Rattle.t3_blocks.specs.declared.items.Meta.{Meta}
use Rattle.t3_blocks.specs.declared.items.PropEntry.{PropEntry}
use Rattle.t3_blocks.specs.declared.items.Static.{Static}
use Rattle.t3_blocks.specs.declared.items.Symbol.{Symbol}
use Rattle.t3_blocks.specs.Spelling.{payload_of, masked_bytes, counted_text, objects_head, name_text, meta_body, meta_text, size_width, static_text, symbol_text, prop_text}

-- the size of some texts and one more is within that of all
pub size_within : {X : Type 0} (f : X → List ℕ) (xs : List X) (i size : ℕ) (x : X) → i < length xs → x ≡ get_or xs i x
    → size ≡ length (flat_map f (take i xs)) → length (flat_map f xs) < 2 ^ 32 → size + length (f x) < 2 ^ 32
size_within f xs i size x less is so_far few =
    let same : length (f x) ≡ length (f (get_or xs i x)) = ap (λ y. length (f y)) is in
    omega (arith, same, so_far, few, length-flat_map-take f xs i x less)

pub length_static_text : (width : ℕ) (object : Static) → length (static_text width object) ≡ 4 + width + length object.bytes
length_static_text width object =
    omega (
      arith,
      length-append (little_endian 4 object.number) (little_endian width (length object.bytes) ++ object.bytes),
      length-append (little_endian width (length object.bytes)) object.bytes,
      length-little_endian 4 object.number,
      length-little_endian width (length object.bytes),
    )

pub length_prop_text : (entry : PropEntry) → length (prop_text entry) ≡ 2 + length entry.extra
length_prop_text entry = omega (arith, length-append (little_endian 2 entry.number) entry.extra, length-little_endian 2 entry.number)

pub length_meta_text : (meta : Meta) → length (meta_text meta) ≡ 2 + length (meta_body meta)
length_meta_text meta = omega (
  arith,
  length-append (little_endian 2 (2 + length (meta_body meta))) (meta_body meta),
  length-little_endian 2 (2 + length (meta_body meta)),
)

pub length_symbol_text : (symbol : Symbol) → length (symbol_text symbol) ≡ 6 + length symbol.name
unfolding raw_text
length_symbol_text symbol =
    omega (arith, length-append (raw_text symbol.raw) (name_text symbol.name), length-little_endian 4 symbol.raw.bits)

pub length-meta_body : (meta : Meta) → length (meta_body meta) ≡ 5 + length meta.name + length
    (flat_map prop_text meta.props) + length meta.tail
length-meta_body meta =
    let props = flat_map prop_text meta.props in
    omega (
      arith,
      length-append meta.name (little_endian 2 (length meta.props) ++ (little_endian 2 meta.property_size ++ (props ++ meta.tail))),
      length-append (little_endian 2 (length meta.props)) (little_endian 2 meta.property_size ++ (props ++ meta.tail)),
      length-append (little_endian 2 meta.property_size) (props ++ meta.tail),
      length-append props meta.tail,
      length-little_endian 2 (length meta.props),
      length-little_endian 2 meta.property_size,
    )

-- ---- payloads

length-numbers : (numbers : List ℕ) → length (flat_map (little_endian 2) numbers) ≡ 2 * length numbers
length-numbers [] = refl
length-numbers (n ∷ numbers) =
    omega (arith, length-numbers numbers, length-append (little_endian 2 n) (flat_map (little_endian 2) numbers), length-little_endian 2 n)

pub length_entry : (code method_size exception_size : ℕ) (debug tail : List ℕ) → length debug ≡ 4
    → length (payload_of (Entry code method_size exception_size debug tail)) ≡ 16 + length tail
unfolding payload_of
length_entry code method_size exception_size debug tail four =
    let numbers = flat_map (little_endian 2) debug in
    omega (
      arith,
      four,
      length-numbers debug,
      length-append (little_endian 4 code) (little_endian 2 method_size ++ (little_endian 2 exception_size ++ (numbers ++ tail))),
      length-append (little_endian 2 method_size) (little_endian 2 exception_size ++ (numbers ++ tail)),
      length-append (little_endian 2 exception_size) (numbers ++ tail),
      length-append numbers tail,
      length-little_endian 4 code,
      length-little_endian 2 method_size,
      length-little_endian 2 exception_size,
    )

pub length_pool_def : (pool count size : ℕ) → length (payload_of (PoolDef pool count size)) ≡ 10
unfolding payload_of
length_pool_def pool count size =
    omega (
      arith,
      length-append (little_endian 2 pool) (little_endian 4 count ++ little_endian 4 size),
      length-append (little_endian 4 count) (little_endian 4 size),
      length-little_endian 2 pool,
      length-little_endian 4 count,
      length-little_endian 4 size,
    )

pub length_page : (pool index mask : ℕ) (bytes : List ℕ) → length (payload_of (Page pool index mask bytes)) ≡ 7 + length bytes
unfolding payload_of
length_page pool index mask bytes =
    let under = masked_bytes mask bytes in
    omega (
      arith,
      length-map bytes (λ byte. bit_xor byte mask),
      length-append (little_endian 2 pool) (little_endian 4 index ++ (mask ∷ under)),
      length-append (little_endian 4 index) (mask ∷ under),
      length-little_endian 2 pool,
      length-little_endian 4 index,
    )

length-counted : {Item : Type 0} (item_text : Item → List ℕ) (count : ℕ) (items : List Item)
    → length (counted_text item_text (little_endian 2 count) items) ≡ 2 + length (flat_map item_text items)
length-counted item_text count items =
    omega (arith, length-append (little_endian 2 count) (flat_map item_text items), length-little_endian 2 count)

pub length_functions : (names : List (List ℕ)) → length (payload_of (Functions names)) ≡ 2 + length (flat_map name_text names)
unfolding payload_of
length_functions names = length-counted name_text (length names) names

pub length_metas : (metas : List Meta) → length (payload_of (Metas metas)) ≡ 2 + length (flat_map meta_text metas)
unfolding payload_of
length_metas metas = length-counted meta_text (length metas) metas

pub length_symbols : (symbols : List Symbol) → length (payload_of (Symbols symbols)) ≡ 2 + length (flat_map symbol_text symbols)
unfolding payload_of
length_symbols symbols = length-counted symbol_text (length symbols) symbols

pub length_objects : (metaclass flags : ℕ) (objects : List Static)
    → length (payload_of (Objects metaclass flags objects)) ≡ 6 + length (flat_map (static_text (size_width flags)) objects)
unfolding payload_of
length_objects metaclass flags objects =
    omega (
      arith,
      length-append (objects_head (length objects) metaclass flags) (flat_map (static_text (size_width flags)) objects),
      length-append (little_endian 2 (length objects)) (little_endian 2 metaclass ++ little_endian 2 flags),
      length-append (little_endian 2 metaclass) (little_endian 2 flags),
      length-little_endian 2 (length objects),
      length-little_endian 2 metaclass,
      length-little_endian 2 flags,
    )
