use Rattle.std.proofs.Common.{◌∙◌, ◌+◌, ap, sym}
use Rattle.std.specs.FinMap.{len}
use Rattle.t3_undo.specs.Slots as slots
use Rattle.t3_tables.specs.Table.{places_of}
use Rattle.t3_tables.proofs.Defaults.{len-default}
use Rattle.t3_tables.proofs.table.TableMetaclass.places.Goals as goal

pub returns : goal.returns
returns c =
    ap (λ n. n + 1) c.places.ensures.places
    ∙ sym (len-default (slots.places_of c.self.inside.slots) c.self.inside.default_stamp c.self.invariant.only)
    ∙ ap (λ t. len (places_of t)) c.self.view_is
