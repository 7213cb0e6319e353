use Rattle.std.proofs.Common.{◌≡◌, ◌<◌, length, sym, subst, List}
use Rattle.std.specs.List.{flat_map}
use Rattle.t3_image_read.specs.declared.image.PlacedBlock.{PlacedBlock}
use Rattle.t3_load.proofs.Tables.{few_in_image}
use Rattle.t3_load.proofs.Named.{few_names_of}
use Rattle.t3_load.specs.Names.{names_of}
use Rattle.t3_load.proofs.sets.Sets.of.Goals as goal

pub entries-requires : goal.entries-requires
entries-requires c =
    let is : c.deref.result.now ≡ c.image.inside.blocks = cc (c.deref.ensures.value, c.image-inside.view_is) in
    subst (λ (blocks : List PlacedBlock). length (flat_map (λ placed. names_of placed.block) blocks) < 4294967296) (sym is)
    (few_in_image names_of few_names_of c.image.inside.blocks c.image.invariant.blocks c.image.invariant.count)
