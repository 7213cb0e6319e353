use Rattle.std.proofs.Common.{◌≡◌, ◌++◌, map, take}
use Rattle.t3_asm_line.specs.Appending.{argument_of}
use Rattle.t3_asm_line.specs.Keywords.{fields_of}
use Rattle.t3_asm_line.specs.Listing.{spelled_fields}
use Rattle.t3_asm_line.proofs.listing.append_fields.Given as goal

-- the arguments so far
abbrev pub invariant-loop-at : goal.invariant-loop-at
invariant-loop-at l = l.out.items ≡ l.fn.out.items ++ spelled_fields (take l.at (fields_of l.keyword)) (map argument_of
    (take l.at l.arguments))
