-- The metaclasses, their names, and the table of them that an image gives.
use Rattle.std.specs.Prelude.{ℕ, List, [], ◌∷◌, Option, codes, map, option_map}
use Rattle.t3_blocks.specs.declared.items.Meta.{Meta}
use Rattle.t3_blocks.specs.declared.items.PropEntry.{PropEntry}
use Rattle.t3_load.specs.declared.kinds.MetaKind.{MetaKind}
use Rattle.t3_load.specs.declared.kinds.MetaKind.TheVariants as kinds
use Rattle.t3_load.specs.declared.kinds.KindEntry.{KindEntry}
use Rattle.t3_load.specs.Names.{by_base}

-- the name by which an image lists each
abbrev pub kind_name : MetaKind → List ℕ
kind_name kinds.Root = codes "root-object"
kind_name kinds.Collection = codes "collection"
kind_name kinds.Tads = codes "tads-object"
kind_name kinds.Text = codes "string"
kind_name kinds.List = codes "list"
kind_name kinds.Vector = codes "vector"
kind_name kinds.Table = codes "lookuptable"

abbrev pub every_kind : List MetaKind
every_kind = kinds.Root ∷ kinds.Collection ∷ kinds.Tads ∷ kinds.Text ∷ kinds.List ∷ kinds.Vector ∷ kinds.Table ∷ []

-- the metaclass of a name
abbrev pub kind_named : List ℕ → Option MetaKind
kind_named name = by_base kind_name every_kind name

abbrev pub numbers_of : List PropEntry → List ℕ
numbers_of props = map (λ prop. prop.number) props

-- what an image lists as a metaclass: its kind and its property numbers
abbrev pub kind_entry_of : Meta → Option KindEntry
kind_entry_of meta = option_map (λ kind. record { kind = kind; props = numbers_of meta.props }) (kind_named meta.name)
