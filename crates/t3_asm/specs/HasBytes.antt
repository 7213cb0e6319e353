-- What is bytes in an image: its header, and each name and each text of a block.
use Rattle.std.specs.List.{AllByRecursion}
use Rattle.t3_holder.specs.NumberText.{AreBytes}
use Rattle.t3_blocks.specs.declared.block.Block.{Block}
use Rattle.t3_blocks.specs.declared.block.Block.TheVariants as blocks
use Rattle.t3_blocks.specs.declared.items.Meta.{Meta}
use Rattle.t3_blocks.specs.declared.items.PropEntry.{PropEntry}
use Rattle.t3_blocks.specs.declared.items.Static.{Static}
use Rattle.t3_blocks.specs.declared.items.Symbol.{Symbol}
use Rattle.t3_image_read.specs.declared.image.PlacedBlock.{PlacedBlock}
use Rattle.t3_image_read.specs.ImageText.{ImageValue}

abbrev pub PropHasBytes : PropEntry → Type 0
PropHasBytes entry = AreBytes entry.extra

abbrev pub StaticHasBytes : Static → Type 0
StaticHasBytes object = AreBytes object.bytes

abbrev pub SymbolHasBytes : Symbol → Type 0
SymbolHasBytes symbol = AreBytes symbol.name

pub record MetaHasBytes (meta : Meta) : Type 0 where
  pub name : AreBytes meta.name
  pub props : AllByRecursion PropHasBytes meta.props
  pub tail : AreBytes meta.tail

abbrev pub BlockHasBytes : Block → Type 0
BlockHasBytes (blocks.Entry code method_size exception_size debug tail) = AreBytes tail
BlockHasBytes (blocks.Objects metaclass flags objects) = AllByRecursion StaticHasBytes objects
BlockHasBytes (blocks.PoolDef pool count size) = Unit {0}
BlockHasBytes (blocks.Page pool index mask bytes) = AreBytes bytes
BlockHasBytes (blocks.Metas metas) = AllByRecursion MetaHasBytes metas
BlockHasBytes (blocks.Functions names) = AllByRecursion AreBytes names
BlockHasBytes (blocks.Symbols symbols) = AllByRecursion SymbolHasBytes symbols
BlockHasBytes (blocks.Opaque name bytes) = AreBytes name × AreBytes bytes

abbrev pub PlacedHasBytes : PlacedBlock → Type 0
PlacedHasBytes placed = BlockHasBytes placed.block

pub record HasBytes (image : ImageValue) : Type 0 where
  pub reserved : AreBytes image.head.reserved
  pub stamp : AreBytes image.head.stamp
  pub blocks : AllByRecursion PlacedHasBytes image.blocks
