use Rattle.std.proofs.Common.{◌∙◌, ap, sym}
use Rattle.t3_asm.specs.Places.{labels_of, pool_sizes_of}
use Rattle.t3_asm.proofs.draft.Draft.new.Goals as goal

pub invariant_of-result : goal.invariant_of-result
unfolding labels_of pool_sizes_of
invariant_of-result c = record {
  labels_are = c.new-2.ensures ∙ sym (ap labels_of c.new.ensures.items);
  pools_are = c.new-3.ensures ∙ sym (ap pool_sizes_of c.new.ensures.items);
}
