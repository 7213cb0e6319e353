use Rattle.std.proofs.Common.{◌≡◌, drop, Some}
use Rattle.std.specs.Fmt.{option_append}
use Rattle.t3_ops.specs.Saying.{joined_text_forms}
use Rattle.t3_ops.proofs.saying.joined.Given as goal

-- what is left, behind what was appended, is all
abbrev pub invariant-loop-value : goal.invariant-loop-value
invariant-loop-value l =
    option_append (Some l.bytes.items) (joined_text_forms l.pools.constants l.store.store (drop l.value-index l.values))
    ≡ joined_text_forms l.pools.constants l.store.store l.values
