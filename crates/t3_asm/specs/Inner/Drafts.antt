-- What a draft keeps of its lines.
use Rattle.std.specs.Prelude.{◌≡◌, List}
use Rattle.t3_asm.specs.declared.item.Item.{Item}
use Rattle.t3_asm.specs.Places.{Labels, PoolSizes, labels_of, pool_sizes_of}

-- the labels and the pools are those of the lines
pub record IsDraft (items : List Item) (labels : Labels) (pools : PoolSizes) : Type 0 where
  pub labels_are : labels ≡ labels_of items
  pub pools_are : pools ≡ pool_sizes_of items
