-- What an image says of where its story begins (the chapter on the image format).
use Rattle.std.specs.Prelude.{ℕ, ◌==◌, ◌&&◌, Bool, List, [], ◌∷◌}
use Rattle.std.specs.List.{flat_map}
use Rattle.t3_blocks.specs.declared.block.Block.{Block}
use Rattle.t3_blocks.specs.declared.block.Block.TheVariants.{Entry}
use Rattle.t3_image_read.specs.declared.image.PlacedBlock.{PlacedBlock}

-- the entry method's address, and the sizes of method headers and of exception entries
pub record EntryValue : Type 0 where
  pub code : ℕ
  pub method_size : ℕ
  pub exception_size : ℕ

abbrev pub entry_of : Block → List EntryValue
entry_of (Entry code method_size exception_size debug tail) =
    record { code = code; method_size = method_size; exception_size = exception_size } ∷ []
entry_of _ = []

-- all that an image says of it
abbrev pub entries : List PlacedBlock → List EntryValue
entries blocks = flat_map (λ placed. entry_of placed.block) blocks

-- the sizes are those of this machine
abbrev pub has_sizes : EntryValue → Bool
has_sizes entry = entry.method_size == 10 && entry.exception_size == 10
