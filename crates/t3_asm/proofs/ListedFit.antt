-- Each line of a valid image's listing is one that reads back.
use Rattle.std.proofs.Common.{◌≡◌, ℕ, zero, suc, ◌^◌, ◌<◌, ◌≤◌, Bool, true, false, ◌&&◌, leb, eqb, List, [], ◌∷◌, length, map, take, drop, Some, None, refl, ap, ◌∙◌, lit<, arith}
use Rattle.std.specs.List.{AllByRecursion, flat_map}
use Rattle.std.proofs.lemmas.Bool.{le-leb}
use Rattle.t3_holder.specs.NumberText.{AreBytes}
use Rattle.t3_blocks.specs.declared.block.Block.{Block}
use Rattle.t3_blocks.specs.declared.block.Block.TheVariants as blocks
use Rattle.t3_blocks.specs.declared.items.Meta.{Meta}
use Rattle.t3_blocks.specs.declared.items.PropEntry.{PropEntry}
use Rattle.t3_blocks.specs.declared.items.Static.{Static}
use Rattle.t3_blocks.specs.declared.items.Symbol.{Symbol}
use Rattle.t3_blocks.specs.Spelling.{IsSpellable, IsStatic, IsMeta, IsProp, IsName, IsSymbol, size_width, name_of}
use Rattle.t3_image_read.specs.declared.image.Head.{Head}
use Rattle.t3_image_read.specs.declared.image.PlacedBlock.{PlacedBlock}
use Rattle.t3_image_read.specs.ImageText.{ImageValue}
use Rattle.t3_image_read.specs.Validity.{IsHead, IsGood, IsValid}
use Rattle.t3_asm_line.specs.declared.line.ParsedLine.{ParsedLine}
use Rattle.t3_asm_line.specs.Listing.{IsListedLine}
use Rattle.t3_asm_line.specs.Values.{is_size}
use Rattle.t3_asm.specs.HasBytes.{PropHasBytes, StaticHasBytes, SymbolHasBytes, MetaHasBytes, BlockHasBytes, PlacedHasBytes, HasBytes}
use Rattle.t3_asm.specs.Listing.{piece_size, first_pieces, pieces, bytes_line, bytes_lines, head_line, end_line, entry_line, static_lines, prop_lines, meta_lines, name_lines, symbol_lines, lines_in, block_lines, listed_lines}
use Rattle.t3_asm.proofs.EachLine.{All-append, All-drop, prop_line}

All-take : {X : Type 0} (P : X → Type 0) (n : ℕ) (xs : List X) → AllByRecursion P xs → AllByRecursion P (take n xs)
All-take P zero xs all = tt
All-take P (suc n) [] all = tt
All-take P (suc n) (x ∷ xs) all = (all.0, All-take P n xs all.1)

-- what holds of the lines of each, where two facts hold of each
All-flat : {X : Type 0} (P Q : X → Type 0) (f : X → List ParsedLine) → ((x : X) → P x → Q x → AllByRecursion IsListedLine (f x))
    → (xs : List X) → AllByRecursion P xs → AllByRecursion Q xs → AllByRecursion IsListedLine (flat_map f xs)
All-flat P Q f each [] ps qs = tt
All-flat P Q f each (x ∷ xs) ps qs = All-append IsListedLine (f x) (flat_map f xs) (each x ps.0 qs.0) (All-flat P Q f each xs ps.1 qs.1)

-- ---- sizes

any_size : (n : ℕ) → is_size 0 None n ≡ true
any_size n = ap (λ b. b && true) (le-leb 0 n (omega arith))

size_to : (most n : ℕ) → n ≤ most → is_size 0 (Some most) n ≡ true
size_to most n less = ap (λ b. b && leb n most) (le-leb 0 n (omega arith)) ∙ le-leb n most less

-- ---- lines

bytes_listed : (piece : List ℕ) → AreBytes piece → IsListedLine (bytes_line piece)
bytes_listed piece bytes = record { named = tt; fit = ((bytes, any_size (length piece)), tt) }

pieces_listed : (count : ℕ) (bytes : List ℕ) → AreBytes bytes → AllByRecursion IsListedLine (map bytes_line (first_pieces count bytes))
pieces_listed zero bytes are = tt
pieces_listed (suc count) [] are = tt
pieces_listed (suc count) (byte ∷ bytes) are = (
  bytes_listed (take piece_size (byte ∷ bytes)) (All-take (λ b. b < 256) piece_size (byte ∷ bytes) are),
  pieces_listed count (drop piece_size (byte ∷ bytes)) (All-drop (λ b. b < 256) piece_size (byte ∷ bytes) are),
)

bytes_lines_listed : (bytes : List ℕ) → AreBytes bytes → AllByRecursion IsListedLine (bytes_lines bytes)
unfolding bytes_lines pieces
bytes_lines_listed bytes are = pieces_listed (length bytes) bytes are

head_listed : (head : Head) → IsHead head → AreBytes head.reserved → AreBytes head.stamp → IsListedLine (head_line head)
head_listed head is reserved stamp = record {
  named = tt;
  fit = ((reserved, ap (is_size 32 (Some 32)) is.reserved), ((stamp, ap (is_size 24 (Some 24)) is.stamp), tt));
}

short : (n : ℕ) → n < 2 ^ 16 → n ≤ 65535
short n less = omega arith

long : (n : ℕ) → n < 2 ^ 32 → n ≤ 4294967295
long n less = omega arith

end_listed : (flags : ℕ) → flags < 2 ^ 16 → IsListedLine (end_line flags)
end_listed flags less = record { named = tt; fit = (short flags less, tt) }

static_listed : (width : ℕ) (object : Static) → IsStatic width object → StaticHasBytes object
    → AllByRecursion IsListedLine (static_lines object)
static_listed width object is bytes =
    (record { named = tt; fit = (long object.number is.0, tt) }, bytes_lines_listed object.bytes bytes)

prop_by : (size : ℕ) (entry : PropEntry) (small : Bool) → IsProp size entry → PropHasBytes entry
    → IsListedLine (prop_line small entry)
prop_by size entry true is bytes = record { named = tt; fit = (short entry.number is.0, tt) }
prop_by size entry false is bytes =
    record { named = tt; fit = (short entry.number is.0, ((bytes, any_size (length entry.extra)), tt)) }

prop_listed : (size : ℕ) (entry : PropEntry) → IsProp size entry → PropHasBytes entry → AllByRecursion IsListedLine (prop_lines size entry)
prop_listed size entry is bytes = (prop_by size entry (eqb size 2) is bytes, tt)

name_fits : (name : List ℕ) → IsName name → is_size 0 (Some 255) (length name) ≡ true
name_fits name is = size_to 255 (length name) (omega (arith, is))

meta_listed : (meta : Meta) → IsMeta meta → MetaHasBytes meta → AllByRecursion IsListedLine (meta_lines meta)
meta_listed meta is bytes = (
  record {
    named = tt;
    fit = (
      (bytes.name, name_fits meta.name is.1.name),
      (short meta.property_size is.1.size, ((bytes.tail, any_size (length meta.tail)), tt)),
    );
  },
  All-flat (IsProp meta.property_size) PropHasBytes (prop_lines meta.property_size)
      (prop_listed meta.property_size) meta.props is.1.props bytes.props,
)

name_listed : (name : List ℕ) → IsName name → AreBytes name → AllByRecursion IsListedLine (name_lines name)
name_listed name is bytes = (record { named = tt; fit = ((bytes, name_fits name is), tt) }, tt)

symbol_listed : (symbol : Symbol) → IsSymbol symbol → SymbolHasBytes symbol → AllByRecursion IsListedLine (symbol_lines symbol)
symbol_listed symbol is bytes = (
  record {
    named = tt;
    fit = (omega (arith, is.0.tag), (long symbol.raw.bits is.0.bits, ((bytes, name_fits symbol.name is.1), tt)));
  },
  tt,
)

entry_listed : (code method_size exception_size : ℕ) (debug tail : List ℕ) → code < 2 ^ 32 → method_size < 2 ^ 16 → exception_size < 2 ^ 16
    → length debug ≡ 4 → AllByRecursion (λ n. n < 2 ^ 16) debug → AreBytes tail
    → IsListedLine (entry_line code method_size exception_size debug tail)
entry_listed code m e (a ∷ b ∷ c ∷ d ∷ []) tail code_fits m_fits e_fits four all bytes = record {
  named = tt;
  fit = (
    long code code_fits,
    (
      short m m_fits,
      (
        short e e_fits,
        (
          short a all.0,
          (
            short b all.1.0,
            (
              short c all.1.1.0,
              (
                short d all.1.1.1.0,
                ((bytes, any_size (length tail)), tt),
              ),
            ),
          ),
        ),
      ),
    ),
  );
}
entry_listed code m e [] tail code_fits m_fits e_fits four all bytes = absurd (omega arith)
entry_listed code m e (a ∷ []) tail code_fits m_fits e_fits four all bytes = absurd (omega arith)
entry_listed code m e (a ∷ b ∷ []) tail code_fits m_fits e_fits four all bytes = absurd (omega arith)
entry_listed code m e (a ∷ b ∷ c ∷ []) tail code_fits m_fits e_fits four all bytes = absurd (omega arith)
entry_listed code m e (a ∷ b ∷ c ∷ d ∷ f ∷ more) tail code_fits m_fits e_fits four all bytes = absurd (omega arith)

block_listed : (block : Block) → IsSpellable block → BlockHasBytes block → AllByRecursion IsListedLine (lines_in block)
block_listed (blocks.Entry code m e debug tail) is bytes = (entry_listed code m e debug tail is.0 is.1 is.2 is.3 is.4 bytes, tt)
block_listed (blocks.Objects metaclass flags objects) is bytes = (
  record { named = tt; fit = (short metaclass is.0, (short flags is.1, tt)) },
  All-flat (IsStatic (size_width flags)) StaticHasBytes static_lines (static_listed (size_width flags)) objects is.3 bytes,
)
block_listed (blocks.PoolDef pool count size) is bytes =
    (record { named = tt; fit = (short pool is.0, (long count is.1, (long size is.2, tt))) }, tt)
block_listed (blocks.Page pool index mask page) is bytes =
    (record { named = tt; fit = (short pool is.0, (long index is.1, (omega (arith, is.2), tt))) }, bytes_lines_listed page bytes)
block_listed (blocks.Metas metas) is bytes = All-flat IsMeta MetaHasBytes meta_lines meta_listed metas is.1 bytes
block_listed (blocks.Functions names) is bytes = All-flat IsName AreBytes name_lines name_listed names is.1 bytes
block_listed (blocks.Symbols symbols) is bytes = All-flat IsSymbol SymbolHasBytes symbol_lines symbol_listed symbols is.1 bytes
block_listed (blocks.Opaque name kept) is bytes = bytes_lines_listed kept bytes.1

four : (a b c d : ℕ) → a < 256 → b < 256 → c < 256 → d < 256 → AreBytes (a ∷ b ∷ c ∷ d ∷ [])
four a b c d ia ib ic id = (ia, (ib, (ic, (id, tt))))

-- the name of a block
name_bytes : (block : Block) → IsSpellable block → BlockHasBytes block
    → AreBytes (name_of block) × (is_size 4 (Some 4) (length (name_of block)) ≡ true)
name_bytes (blocks.Entry code m e debug tail) is bytes = (four 69 78 84 80 (lit< tt) (lit< tt) (lit< tt) (lit< tt), refl)
name_bytes (blocks.Objects metaclass flags objects) is bytes = (four 79 66 74 83 (lit< tt) (lit< tt) (lit< tt) (lit< tt), refl)
name_bytes (blocks.PoolDef pool count size) is bytes = (four 67 80 68 70 (lit< tt) (lit< tt) (lit< tt) (lit< tt), refl)
name_bytes (blocks.Page pool index mask page) is bytes = (four 67 80 80 71 (lit< tt) (lit< tt) (lit< tt) (lit< tt), refl)
name_bytes (blocks.Metas metas) is bytes = (four 77 67 76 68 (lit< tt) (lit< tt) (lit< tt) (lit< tt), refl)
name_bytes (blocks.Functions names) is bytes = (four 70 78 83 68 (lit< tt) (lit< tt) (lit< tt) (lit< tt), refl)
name_bytes (blocks.Symbols symbols) is bytes = (four 83 89 77 68 (lit< tt) (lit< tt) (lit< tt) (lit< tt), refl)
name_bytes (blocks.Opaque name kept) is bytes = (bytes.0, ap (is_size 4 (Some 4)) is.0)

placed_listed : (placed : PlacedBlock) → IsGood placed → PlacedHasBytes placed → AllByRecursion IsListedLine (block_lines placed)
placed_listed placed good bytes = (
  record { named = tt; fit = (name_bytes placed.block good.spellable bytes, (short placed.flags good.flags, tt)) },
  block_listed placed.block good.spellable bytes,
)

-- each line of the listing
pub lines_listed : (image : ImageValue) → IsValid image → HasBytes image → AllByRecursion IsListedLine (listed_lines image)
unfolding listed_lines
lines_listed image valid bytes = (
  head_listed image.head valid.head bytes.reserved bytes.stamp,
  All-append IsListedLine (flat_map block_lines image.blocks) (end_line image.eof_flags ∷ [])
      (All-flat IsGood PlacedHasBytes block_lines placed_listed image.blocks valid.blocks bytes.blocks)
      (end_listed image.eof_flags valid.eof_flags, tt),
)
