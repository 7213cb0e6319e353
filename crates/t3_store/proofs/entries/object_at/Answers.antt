use Rattle.std.proofs.Common.{◌∙◌, sym}
use Rattle.t3_store.proofs.Rows.{stands-at, stands-nowhere}
use Rattle.t3_store.proofs.entries.object_at.Goals as goal

pub returns-in-Some : goal.returns-in-Some
returns-in-Some c = sym ((stands-at c.args.number c.args.entries.now c.in-Some.index (sym c.index_of.ensures.index ∙ c.in-Some.is)).object
    c.index-entries-index.result)

pub returns-in-None : goal.returns-in-None
returns-in-None c = sym (stands-nowhere c.args.number c.args.entries.now (sym c.index_of.ensures.index ∙ c.in-None.is))
