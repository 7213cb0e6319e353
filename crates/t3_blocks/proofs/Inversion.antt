-- Under the name of a kind stands a block of that kind alone.
use Rattle.std.proofs.Common.{◌≡◌, ℕ, Bool, true, false, List, refl, sym, ap, ◌∙◌}
use Rattle.std.specs.Prelude.{codes, ◌||◌, if◌then◌else◌}
use Rattle.std.specs.Str.{bytes_eq}
use Rattle.t3_blocks.specs.BlockName.{layout_names, is_among}
use Rattle.t3_blocks.specs.declared.block.Block.{Block}
use Rattle.t3_blocks.specs.declared.block.Block.TheVariants.{Entry, Objects, PoolDef, Page, Metas, Functions, Symbols, Opaque}
use Rattle.t3_blocks.specs.declared.kind.BlockKind.{BlockKind}
use Rattle.t3_blocks.specs.declared.kind.BlockKind.TheVariants as kinds
use Rattle.t3_blocks.specs.Spelling.{name_of, IsSpellable}

-- the kind whose layout a name says, or Unknown where it says none
abbrev pub kind_of : List ℕ → BlockKind
kind_of name =
    if bytes_eq (codes "ENTP") name then kinds.Entry else (
    if bytes_eq (codes "OBJS") name then kinds.Objects else (
    if bytes_eq (codes "CPDF") name then kinds.PoolDef else (
    if bytes_eq (codes "CPPG") name then kinds.Page else (
    if bytes_eq (codes "MCLD") name then kinds.Metas else (
    if bytes_eq (codes "FNSD") name then kinds.Functions else (
    if bytes_eq (codes "SYMD") name then kinds.Symbols else
    kinds.Unknown))))))

pub or_false : (a b : Bool) → (a || b) ≡ false → (a ≡ false) × (b ≡ false)
or_false true b e = absurd cc
or_false false b e = (refl, e)

pub no_kind : (name : List ℕ) → is_among name layout_names ≡ false → kind_of name ≡ kinds.Unknown
no_kind name none =
    let a = or_false (bytes_eq (codes "ENTP") name) _ none in
    let b = or_false (bytes_eq (codes "OBJS") name) _ a.1 in
    let c = or_false (bytes_eq (codes "CPDF") name) _ b.1 in
    let d = or_false (bytes_eq (codes "CPPG") name) _ c.1 in
    let e = or_false (bytes_eq (codes "MCLD") name) _ d.1 in
    let f = or_false (bytes_eq (codes "FNSD") name) _ e.1 in
    let g = or_false (bytes_eq (codes "SYMD") name) _ f.1 in
    rw (a.0, b.0, c.0, d.0, e.0, f.0, g.0) refl

-- the kind whose layout a block has
abbrev pub layout_of : Block → BlockKind
layout_of (Entry code method_size exception_size debug tail) = kinds.Entry
layout_of (Objects metaclass flags objects) = kinds.Objects
layout_of (PoolDef pool count size) = kinds.PoolDef
layout_of (Page pool index mask bytes) = kinds.Page
layout_of (Metas metas) = kinds.Metas
layout_of (Functions names) = kinds.Functions
layout_of (Symbols symbols) = kinds.Symbols
layout_of (Opaque name bytes) = kinds.Unknown

kind_of-name_of : (block : Block) → IsSpellable block → kind_of (name_of block) ≡ layout_of block
kind_of-name_of (Entry code method_size exception_size debug tail) spellable = refl
kind_of-name_of (Objects metaclass flags objects) spellable = refl
kind_of-name_of (PoolDef pool count size) spellable = refl
kind_of-name_of (Page pool index mask bytes) spellable = refl
kind_of-name_of (Metas metas) spellable = refl
kind_of-name_of (Functions names) spellable = refl
kind_of-name_of (Symbols symbols) spellable = refl
kind_of-name_of (Opaque name bytes) spellable = no_kind name spellable.1.no_layout

pub named : (block : Block) (name : List ℕ) → IsSpellable block → name_of block ≡ name → kind_of name ≡ layout_of block
named block name spellable is = ap kind_of (sym is) ∙ kind_of-name_of block spellable
