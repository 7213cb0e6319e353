use Rattle.std.proofs.Common.{◌≡◌, drop}
use Rattle.std.specs.List.{list_all}
use Rattle.t3_ops.specs.Saying.{has_text_form}
use Rattle.t3_ops.proofs.saying.have_text_forms.Given as goal

abbrev pub invariant-loop-value : goal.invariant-loop-value
invariant-loop-value l =
    list_all (has_text_form l.pools.constants l.store.store) (drop l.value-index l.values)
    ≡ list_all (has_text_form l.pools.constants l.store.store) l.values
