use Rattle.std.proofs.Common.{◌≡◌, ◌++◌, take}
use Rattle.std.specs.List.{flat_map}
use Rattle.t3_snapshot.specs.Layout.{holder_text}
use Rattle.t3_snapshot.specs.State.{trimmed_holder}
use Rattle.t3_snapshot.proofs.append.append_holders.Given as goal

abbrev pub invariant-loop-holder : goal.invariant-loop-holder
invariant-loop-holder l =
    l.out.items ≡ l.fn.out.items ++ flat_map (λ holder. holder_text (trimmed_holder l.state holder)) (take l.holder-index l.holders)
