-- The lists that an image spreads over blocks, each taken as one, and what a list of names means as a table (the chapter on the image format).
use Rattle.std.specs.Prelude.{◌≡◌, ℕ, ◌==◌, is_none, List, [], Option, Some, Result, Ok, Err, map}
use Rattle.std.specs.List.{flat_map, before_first, find, position_from}
use Rattle.std.specs.Str.{bytes_eq}
use Rattle.t3_blocks.specs.declared.block.Block.{Block}
use Rattle.t3_blocks.specs.declared.block.Block.TheVariants.{Metas, Functions, Symbols}
use Rattle.t3_blocks.specs.declared.items.Meta.{Meta}
use Rattle.t3_blocks.specs.declared.items.Symbol.{Symbol}
use Rattle.t3_image_read.specs.declared.image.PlacedBlock.{PlacedBlock}
use Rattle.t3_load.specs.declared.refusal.NameRefusal.{NameRefusal}
use Rattle.t3_load.specs.declared.refusal.NameRefusal.TheVariants.{Unknown, NoMemory}

-- the metaclasses, the names of function sets and the symbols that a block lists
abbrev pub metas_of : Block → List Meta
metas_of (Metas metas) = metas
metas_of _ = []

abbrev pub names_of : Block → List (List ℕ)
names_of (Functions names) = names
names_of _ = []

abbrev pub symbols_of : Block → List Symbol
symbols_of (Symbols symbols) = symbols
symbols_of _ = []

-- those of all blocks, in order
abbrev pub metas_in : List PlacedBlock → List Meta
metas_in blocks = flat_map (λ placed. metas_of placed.block) blocks

abbrev pub names_in : List PlacedBlock → List (List ℕ)
names_in blocks = flat_map (λ placed. names_of placed.block) blocks

abbrev pub symbols_in : List PlacedBlock → List Symbol
symbols_in blocks = flat_map (λ placed. symbols_of placed.block) blocks

-- a name up to its first `/`, behind which its version stands
abbrev pub base_of : List ℕ → List ℕ
base_of name = before_first (λ byte. byte == 47) name

-- the one of these whose name is the base
abbrev pub by_base : {Item : Type 0} → (Item → List ℕ) → List Item → List ℕ → Option Item
by_base name_of items name = find (λ item. bytes_eq (name_of item) (base_of name)) items

-- the index of the first item that means nothing, where the list begins at an index
abbrev pub unknown_from : {Item Entry : Type 0} → (Item → Option Entry) → ℕ → List Item → Option ℕ
unknown_from meaning at items = position_from (λ item. is_none (meaning item)) at items

-- a table of what all items mean; or the index of the first that means nothing; memory may always be wanting
abbrev pub IsTable : {Item Entry Table : Type 0} → (Table → List Entry) → (Item → Option Entry) → List Item
    → Result Table NameRefusal → Type 0
IsTable view meaning items (Ok table) = map meaning items ≡ map Some (view table)
IsTable view meaning items (Err (Unknown index)) = unknown_from meaning 0 items ≡ Some index
IsTable view meaning items (Err NoMemory) = Unit {0}
