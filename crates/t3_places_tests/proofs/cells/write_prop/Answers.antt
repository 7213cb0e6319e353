use Rattle.std.proofs.Common.{◌∙◌, ap, sym, Some}
use Rattle.t3_store.proofs.Callers.{prop-written}
use Rattle.t3_places_tests.proofs.cells.write_prop.Goals as goal

pub write-requires-clause-can : goal.write-requires-clause-can
write-requires-clause-can c =
    prop-written c.args.value _ c.args.prop (sym c.kind.ensures.kind ∙ c.in-Some-Tads.is ∙ ap Some c.in-Some-Tads.field-0-is)
