use Rattle.std.proofs.Common.{◌∙◌, ap, sym, Some}
use Rattle.t3_store.proofs.Callers.{key-written}
use Rattle.t3_places_tests.proofs.cells.write_key.Goals as goal

pub write-requires-clause-can : goal.write-requires-clause-can
write-requires-clause-can c =
    key-written c.args.value _ c.args.key (sym c.kind.ensures.kind ∙ c.in-Some-Table.is ∙ ap Some c.in-Some-Table.field-0-is)
