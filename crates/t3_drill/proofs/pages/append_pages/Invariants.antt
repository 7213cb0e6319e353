use Rattle.std.proofs.Common.{◌≡◌, ◌-◌, ◌++◌, map}
use Rattle.std.specs.List.{range_with_len}
use Rattle.t3_drill.specs.Drill.{page, pages}
use Rattle.t3_drill.proofs.pages.append_pages.Given as goal

abbrev pub invariant-loop-index : goal.invariant-loop-index
invariant-loop-index l =
    l.blocks.items ++ map (page l.code) (range_with_len l.index (l.index-end - l.index)) ≡ l.fn.blocks.items ++ pages l.code
