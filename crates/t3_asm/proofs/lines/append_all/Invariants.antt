use Rattle.std.proofs.Common.{◌≡◌, ◌++◌, take}
use Rattle.std.specs.List.{AllByRecursion, flat_map}
use Rattle.t3_asm_line.specs.Listing.{listing_of}
use Rattle.t3_asm.proofs.lines.append_all.Given as goal

abbrev pub invariant-loop-item : goal.invariant-loop-item
invariant-loop-item g l = record {
  listed : l.out.items ≡ l.fn.out.items ++ listing_of (flat_map (g.L.Lines.lines l.size) (take l.item-index l.items));
  bytes : AllByRecursion g.L.Lines.has_bytes (take l.item-index l.items);
}
