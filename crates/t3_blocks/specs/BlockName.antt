-- The names of blocks, four bytes each (the chapter on the image format).
use Rattle.std.specs.Prelude.{◌≡◌, ◌≢◌, ℕ, Bool, true, false, ◌&&◌, not, ◌==◌, codes, List, [], ◌∷◌, ◌++◌}
use Rattle.std.specs.List.{list_any}
use Rattle.std.specs.Str.{bytes_eq}
use Rattle.std.specs.Int.{bit_at}
use Rattle.t3_blocks.specs.declared.kind.BlockKind.{BlockKind}
use Rattle.t3_blocks.specs.declared.kind.BlockKind.TheVariants as kinds

-- the name of the block that ends an image
abbrev pub end_name : List ℕ
end_name = codes "EOF "

-- the names of the blocks whose payload's layout is read here
abbrev pub layout_names : List (List ℕ)
layout_names =
    codes "ENTP" ∷ codes "OBJS" ∷ codes "CPDF" ∷ codes "CPPG" ∷ codes "MCLD" ∷ codes "FNSD"
    ∷ codes "SYMD" ∷ []

-- the names of the blocks that are kept and passed on unread: symbols, macros, method headers, sources, static initializers and resources
abbrev pub kept_names : List (List ℕ)
kept_names =
    codes "GSYM" ∷ codes "MACR" ∷ codes "MHLS" ∷ codes "SRCF" ∷ codes "SINI" ∷ codes "MRES" ∷ []

-- the name is one of these
abbrev pub is_among : List ℕ → List (List ℕ) → Bool
is_among name names = list_any (λ known. bytes_eq known name) names

-- the name means something
abbrev pub is_known : List ℕ → Bool
is_known name = is_among name (end_name ∷ layout_names ++ kept_names)

-- the payload has no layout here, and the image goes on
pub record IsPlain (name : List ℕ) : Type 0 where
  pub not_end : name ≢ end_name
  pub no_layout : is_among name layout_names ≡ false

-- what a name says of a block
abbrev pub HasKind : List ℕ → BlockKind → Type 0
HasKind name kinds.Entry = name ≡ codes "ENTP"
HasKind name kinds.Objects = name ≡ codes "OBJS"
HasKind name kinds.PoolDef = name ≡ codes "CPDF"
HasKind name kinds.Page = name ≡ codes "CPPG"
HasKind name kinds.Metas = name ≡ codes "MCLD"
HasKind name kinds.Functions = name ≡ codes "FNSD"
HasKind name kinds.Symbols = name ≡ codes "SYMD"
HasKind name kinds.Kept = IsPlain name × (is_known name ≡ true)
HasKind name kinds.End = name ≡ end_name
HasKind name kinds.Unknown = IsPlain name × (is_known name ≡ false)

-- bit 0x0001 of the flags
abbrev pub is_mandatory : ℕ → Bool
is_mandatory flags = bit_at flags 0 == 1

-- a block that may not be skipped, under a name that means nothing here
abbrev pub is_unknown_mandatory : List ℕ → ℕ → Bool
is_unknown_mandatory name flags = is_mandatory flags && not (is_known name)
