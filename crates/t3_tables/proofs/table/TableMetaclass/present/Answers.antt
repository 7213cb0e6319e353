use Rattle.std.proofs.Common.{◌∙◌, ◌+◌, ap, sym}
use Rattle.std.specs.FinMap.{len}
use Rattle.t3_undo.specs.Slots as slots
use Rattle.t3_tables.specs.Table.{parts_of}
use Rattle.t3_tables.proofs.Defaults.{present-default}
use Rattle.t3_tables.proofs.TableLists.{absent-default}
use Rattle.t3_tables.proofs.table.TableMetaclass.present.Goals as goal

pub returns : goal.returns
returns c =
    ap (λ n. n + 1) c.present.ensures.present
    ∙ sym (present-default (slots.parts_of c.self.inside.slots) c.self.inside.default
    (absent-default c.self.inside.slots c.self.inside.next_tick c.self.invariant))
    ∙ ap (λ t. len (parts_of t)) c.self.view_is
