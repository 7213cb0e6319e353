use Rattle.std.proofs.Common.{◌≡◌, drop}
use Rattle.std.specs.List.{list_all}
use Rattle.t3_ops.specs.Builtins.{is_text}
use Rattle.t3_ops.proofs.builtins.extremes.are_texts.Given as goal

abbrev pub invariant-loop-value : goal.invariant-loop-value
invariant-loop-value l =
    list_all (is_text l.pools.constants l.store.store) (drop l.value-index l.values)
    ≡ list_all (is_text l.pools.constants l.store.store) l.values
