use Rattle.std.proofs.Common.{◌∙◌, ap, sym, ◌-◌, ◌&&◌, not, length, drop, le-ltb, lt-ltb}
use Rattle.std.specs.List.{list_any}
use Rattle.t3_undo.specs.Objects.{is_of}
use Rattle.t3_undo.specs.Journal.{old_of, is_due}
use Rattle.t3_undo.proofs.RingLists.{segments-unheld, last-fits}
use Rattle.t3_undo.proofs.Noting.{is_due-newest}
use Rattle.t3_undo.proofs.newest.is_due.Goals as goal

pub returns-then-number-newest : goal.returns-then-number-newest
returns-then-number-newest c =
    sym (is_due-newest c.args.marks.now.items c.in-Some.newest.now c.args.records.now.items c.args.number c.args.cell.now
    c.in-Some.ensures c.requires
    ∙ ap (λ b. b && not (list_any (λ kept. is_of c.args.number c.args.cell.now (old_of kept))
    (drop (length c.args.records.now.items - c.in-Some.newest.now.count) c.args.records.now.items))) (le-ltb _ _ c.if-number-newest.true))

pub is_noted_since-requires : goal.is_noted_since-requires
is_noted_since-requires c =
    last-fits c.args.marks.now.items c.in-Some.newest.now c.args.records.now.items c.in-Some.ensures c.requires

pub returns-else-number-newest : goal.returns-else-number-newest
returns-else-number-newest c =
    ap not c.is_noted_since.ensures
    ∙ sym (is_due-newest c.args.marks.now.items c.in-Some.newest.now c.args.records.now.items c.args.number c.args.cell.now
    c.in-Some.ensures c.requires
    ∙ ap (λ b. b && not (list_any (λ kept. is_of c.args.number c.args.cell.now (old_of kept))
    (drop (length c.args.records.now.items - c.in-Some.newest.now.count) c.args.records.now.items))) (lt-ltb _ _ c.if-number-newest.false))

pub returns-in-None : goal.returns-in-None
returns-in-None c =
    sym (ap (is_due c.args.number c.args.cell.now) (segments-unheld c.args.marks.now.items c.args.records.now.items c.in-None.ensures))
