-- The objects that stand in an image, all blocks taken as one list, and what they are.
use Rattle.std.specs.Prelude.{◌≡◌, ℕ, ◌==◌, Bool, List, [], ◌∷◌, Option, Some, map, option_and_then, slice_get}
use Rattle.std.specs.Int.{bit_at}
use Rattle.std.specs.List.{flat_map}
use Rattle.t3_blocks.specs.declared.block.Block.{Block}
use Rattle.t3_blocks.specs.declared.block.Block.TheVariants.{Objects}
use Rattle.t3_blocks.specs.declared.items.Meta.{Meta}
use Rattle.t3_blocks.specs.declared.items.Static.{Static}
use Rattle.t3_image_read.specs.declared.image.PlacedBlock.{PlacedBlock}
use Rattle.t3_load.specs.Kinds.{kind_named}
use Rattle.t3_load.specs.Layout.{BeginsObject}
use Rattle.t3_load.specs.declared.kinds.MetaKind.{MetaKind}
use Rattle.t3_load.specs.declared.objects.ImageObject.{ImageObject}

-- an object as it stands in an image: its number, the index of its metaclass, whether it is transient, and its bytes
pub record StaticValue : Type 0 where
  pub number : ℕ
  pub metaclass : ℕ
  pub transient : Bool
  pub bytes : List ℕ

-- an object of a block of this metaclass and these flags, of which the second says that its objects are transient
abbrev pub static_in : ℕ → ℕ → Static → StaticValue
static_in metaclass flags static = record {
  number = static.number;
  metaclass = metaclass;
  transient = bit_at flags 1 == 1;
  bytes = static.bytes;
}

abbrev pub statics_of : Block → List StaticValue
statics_of (Objects metaclass flags objects) = map (static_in metaclass flags) objects
statics_of _ = []

abbrev pub statics_in : List PlacedBlock → List StaticValue
statics_in blocks = flat_map (λ placed. statics_of placed.block) blocks

-- their numbers
abbrev pub static_numbers : List StaticValue → List ℕ
static_numbers statics = map (λ static. static.number) statics

-- the metaclass of an index in an image's table
abbrev pub kind_at : List Meta → ℕ → Option MetaKind
kind_at metas index = option_and_then (λ meta. kind_named meta.name) (slice_get metas index)

-- an object as it is to be made, of one that stands in an image
pub record IsObjectOf (kind : ℕ → Option MetaKind) (static : StaticValue) (object : ImageObject) : Type 0 where
  pub number : object.number ≡ static.number
  pub transient : object.transient ≡ static.transient
  pub metaclass : MetaKind
  pub of : kind static.metaclass ≡ Some metaclass
  pub begins : BeginsObject metaclass object.object static.bytes

-- the objects to be made, one for each that stands there
abbrev pub AreObjectsOf : (ℕ → Option MetaKind) → List StaticValue → List ImageObject → Type 0
AreObjectsOf kind [] [] = Unit {0}
AreObjectsOf kind [] (object ∷ objects) = ⊥
AreObjectsOf kind (static ∷ statics) [] = ⊥
AreObjectsOf kind (static ∷ statics) (object ∷ objects) = IsObjectOf kind static object × AreObjectsOf kind statics objects
