use Rattle.std.proofs.Common.{◌∙◌, ap, sym, subst}
use Rattle.std.specs.FinMap.{get}
use Rattle.t3_undo.specs.Content.{Parts}
use Rattle.t3_undo.specs.Slots as slots
use Rattle.t3_undo.specs.Purging.{Stays}
use Rattle.t3_tables.specs.Table.{TableValue, parts_of, places_of, with_default}
use Rattle.t3_tables.proofs.TableLists.{table-purge}
use Rattle.t3_tables.proofs.TablePurges.{fewer, kept, gone}
use Rattle.t3_tables.proofs.table.TableMetaclass.purge.Goals as goal

pub invariant_of-self : goal.invariant_of-self
invariant_of-self c =
    table-purge c.self.inside.slots c.purge.new.self c.self.inside.next_tick c.self.invariant c.purge.ensures.parts
    c.purge.ensures.fewer

pub returns-clause-parts : goal.returns-clause-parts
returns-clause-parts c =
    ap (λ (p : Parts). with_default p c.self.inside.default) c.purge.ensures.parts ∙ ap parts_of c.self.view_is

pub returns-clause-fewer : goal.returns-clause-fewer
returns-clause-fewer c cell stamp e =
    ap (λ t. get (places_of t) cell) (sym c.self.view_is)
    ∙ fewer (slots.parts_of c.self.inside.slots) c.self.inside.default (slots.places_of c.self.inside.slots)
    (slots.places_of c.purge.new.self) c.self.inside.default_stamp c.args.oldest c.purge.ensures.fewer cell stamp e

pub returns-clause-kept : goal.returns-clause-kept
returns-clause-kept c cell stamp e stays =
    let P : TableValue → Type 0 = λ t. Stays (parts_of t) (places_of t) c.args.oldest cell in
    kept (slots.parts_of c.self.inside.slots) c.self.inside.default (slots.places_of c.self.inside.slots)
    (slots.places_of c.purge.new.self) c.self.inside.default_stamp c.args.oldest c.self.invariant.only c.purge.ensures.kept cell stamp
    (ap (λ t. get (places_of t) cell) c.self.view_is ∙ e) (subst P (sym c.self.view_is) stays)

pub returns-clause-gone : goal.returns-clause-gone
returns-clause-gone c cell stamp e =
    let P : TableValue → Type 0 = λ t. Stays (parts_of t) (places_of t) c.args.oldest cell in
    subst P c.self.view_is
    (gone (slots.parts_of c.self.inside.slots) c.self.inside.default (slots.places_of c.self.inside.slots)
    (slots.places_of c.purge.new.self) c.self.inside.default_stamp c.args.oldest c.purge.ensures.gone cell stamp e)
