-- What the lines of objects, of metaclasses, of names and of symbols say.
use Rattle.std.proofs.Common.{◌≡◌, ℕ, zero, ◌%◌, ◌^◌, ◌<◌, Bool, true, false, eqb, List, [], ◌∷◌, ◌++◌, length, refl, sym, ap, ◌∙◌, eqb-true, arith}
use Rattle.std.specs.List.{AllByRecursion, flat_map}
use Rattle.std.proofs.lemmas.List.{nil_from_length}
use Rattle.t3_blocks.specs.declared.items.Meta.{Meta}
use Rattle.t3_blocks.specs.declared.items.PropEntry.{PropEntry}
use Rattle.t3_blocks.specs.declared.items.Static.{Static}
use Rattle.t3_blocks.specs.declared.items.Symbol.{Symbol}
use Rattle.t3_blocks.specs.Spelling.{IsMeta, IsProp, IsStatic, IsName, IsSymbol}
use Rattle.t3_asm_line.specs.declared.argument.Argument.TheVariants.{Number, Text}
use Rattle.t3_asm_line.specs.declared.keyword.Keyword.TheVariants as of
use Rattle.t3_asm_line.specs.declared.line.ParsedLine.{ParsedLine}
use Rattle.t3_asm_line.specs.Line.{parsed_line}
use Rattle.t3_asm.specs.declared.level.Level.TheVariants.{InBlock, InEntry}
use Rattle.t3_asm.specs.Blocks.{is_object, is_meta, is_prop, statics_of, static_of, props_of, prop_of, metas_of, meta_of, names_of, symbols_of}
use Rattle.t3_asm.specs.Listing.{bytes_lines, static_lines, prop_lines, meta_lines, name_lines, symbol_lines}
use Rattle.t3_asm.specs.Places.{Labels}
use Rattle.t3_asm.proofs.EachLine.{All-bytes_lines, All-prop_lines, prop_line}
use Rattle.t3_asm.proofs.ListedItems.{Positions, item_at, after, items_at, lines_with, lines_with-flat, closes, contents_bytes, entries_none, entries_all, entries_pass, Passes}
use Rattle.t3_asm.proofs.ListingStands.{short_number}

pub long_number : (n : ℕ) → n < 2 ^ 32 → n % 4294967296 ≡ n
long_number n less = omega arith

-- lines that end a list and no less end an entry
abbrev pub EndsEntry : List ParsedLine → Type 0
EndsEntry lines = closes InEntry lines ≡ true

abbrev pub EndsAny : List ParsedLine → Type 0
EndsAny lines = Unit {0}

-- ---- objects

-- an object's line, with the lines of its bytes
pub static_said : (labels : Labels) (width : ℕ) (object : Static) → IsStatic width object → (behind : List ParsedLine) → EndsEntry behind
    → (positions : Positions)
    → static_of labels (item_at (positions zero) (parsed_line of.Object (Number object.number ∷ [])))
    (items_at (after positions) (bytes_lines object.bytes ++ behind)) ≡ object
static_said labels width object is behind may positions =
    let number = long_number object.number is.0 in
    let bytes = contents_bytes InEntry labels object.bytes behind may (after positions) in
    λ i. record { number = number i; bytes = bytes i }

pub statics_said : (labels : Labels) (width : ℕ) (objects : List Static) → AllByRecursion (IsStatic width) objects
    → (behind : List ParsedLine) → EndsEntry behind → closes InBlock behind ≡ true → (positions : Positions)
    → statics_of labels (items_at positions (lines_with static_lines objects behind)) ≡ objects
statics_said labels width objects are behind may closed positions =
    entries_all (statics_of labels) static_lines (IsStatic width) EndsEntry
    (λ object is more may_follow xs others p.
    let first = static_said labels width object is more may_follow p in
    let rest = entries_pass InBlock is_object (static_of labels) (bytes_lines object.bytes) more xs
    (All-bytes_lines (Passes InBlock is_object) (λ piece. (refl, refl)) object.bytes) others
    (after p) in
    λ i. first i ∷ rest i)
    (λ object more. refl) behind may (λ p. entries_none InBlock is_object (static_of labels) behind p closed) objects are positions

-- ---- metaclasses

prop_said : (size : ℕ) (entry : PropEntry) (small : Bool) → eqb size 2 ≡ small → IsProp size entry
    → (behind : List ParsedLine) (xs : List PropEntry)
    → ((positions : Positions) → props_of (items_at positions behind) ≡ xs) → (positions : Positions)
    → props_of (items_at positions (prop_line small entry ∷ behind)) ≡ entry ∷ xs
prop_said size entry true two is behind xs others positions =
    let number = short_number entry.number is.0 in
    let none : length entry.extra ≡ 0 = omega (arith, is.1, eqb-true size 2 two) in
    let extra = sym (nil_from_length entry.extra none) in
    let rest = others (after positions) in
    λ i. record { number = number i; extra = extra i } ∷ rest i
prop_said size entry false two is behind xs others positions =
    let number = short_number entry.number is.0 in
    let rest = others (after positions) in
    λ i. record { number = number i; extra = entry.extra } ∷ rest i

props_said : (size : ℕ) (props : List PropEntry) → AllByRecursion (IsProp size) props → (behind : List ParsedLine) → EndsEntry behind
    → (positions : Positions) → props_of (items_at positions (lines_with (prop_lines size) props behind)) ≡ props
props_said size props are behind may positions =
    entries_all props_of (prop_lines size) (IsProp size) EndsAny
    (λ entry is more tail xs others p. prop_said size entry (eqb size 2) refl is more xs others p)
    (λ entry more. tt) behind tt (λ p. entries_none InEntry is_prop prop_of behind p may) props are positions

prop_passes : (alone : Bool) (entry : PropEntry) → Passes InBlock is_meta (prop_line alone entry)
prop_passes true entry = (refl, refl)
prop_passes false entry = (refl, refl)

-- a metaclass's line, with the lines of its properties
pub meta_said : (meta : Meta) → IsMeta meta → (behind : List ParsedLine) → EndsEntry behind → (positions : Positions)
    → meta_of (item_at (positions zero) (parsed_line of.Metaclass (Text meta.name ∷ Number meta.property_size ∷ Text meta.tail ∷ [])))
    (items_at (after positions) (flat_map (prop_lines meta.property_size) meta.props ++ behind)) ≡ meta
meta_said meta is behind may positions =
    let size = short_number meta.property_size is.1.size in
    let same = lines_with-flat (prop_lines meta.property_size) meta.props behind in
    let props = ap (λ l. props_of (items_at (after positions) l)) same
    ∙ props_said meta.property_size meta.props is.1.props behind may (after positions) in
    λ i. record { name = meta.name; property_size = size i; props = props i; tail = meta.tail }

pub metas_said : (metas : List Meta) → AllByRecursion IsMeta metas → (behind : List ParsedLine) → EndsEntry behind
    → closes InBlock behind ≡ true
    → (positions : Positions) → metas_of (items_at positions (lines_with meta_lines metas behind)) ≡ metas
metas_said metas are behind may closed positions =
    entries_all metas_of meta_lines IsMeta EndsEntry
    (λ meta is more may_follow xs others p.
    let first = meta_said meta is more may_follow p in
    let rest = entries_pass InBlock is_meta meta_of (flat_map (prop_lines meta.property_size) meta.props) more xs
    (All-prop_lines (Passes InBlock is_meta) prop_passes meta.property_size meta.props) others (after p) in
    λ i. first i ∷ rest i)
    (λ meta more. refl) behind may (λ p. entries_none InBlock is_meta meta_of behind p closed) metas are positions

-- ---- names and symbols

pub names_said : (names : List (List ℕ)) → AllByRecursion IsName names → (behind : List ParsedLine) → closes InBlock behind ≡ true
    → (positions : Positions) → names_of (items_at positions (lines_with name_lines names behind)) ≡ names
names_said names are behind closed positions =
    entries_all names_of name_lines IsName EndsAny (λ name is more tail xs others p. ap (λ l. name ∷ l) (others (after p)))
    (λ name more. tt) behind tt (λ p. entries_none InBlock _ _ behind p closed) names are positions

pub symbols_said : (labels : Labels) (symbols : List Symbol) → AllByRecursion IsSymbol symbols → (behind : List ParsedLine)
    → closes InBlock behind ≡ true
    → (positions : Positions) → symbols_of labels (items_at positions (lines_with symbol_lines symbols behind)) ≡ symbols
symbols_said labels symbols are behind closed positions =
    entries_all (symbols_of labels) symbol_lines IsSymbol EndsAny
    (λ symbol is more tail xs others p.
    let tag : symbol.raw.tag % 4294967296 % 256 ≡ symbol.raw.tag = omega (arith, is.0.tag) in
    let bits = long_number symbol.raw.bits is.0.bits in
    let rest = others (after p) in
    λ i. record { raw = record { tag = tag i; bits = bits i }; name = symbol.name } ∷ rest i)
    (λ symbol more. tt) behind tt (λ p. entries_none InBlock _ _ behind p closed) symbols are positions
