use Rattle.std.proofs.Common.{◌∙◌, sym, ne_eqb}
use Rattle.t3_undo.specs.Content.{shown}
use Rattle.t3_undo.proofs.StampChanges.{undue-noted, fresh-stamp, stamp_after-some}
use Rattle.t3_store.specs.Inner.Store.{record_of}
use Rattle.t3_store.proofs.Stamped.{notes-change, notes-nothing}
use Rattle.t3_store.proofs.noting.note_since.Goals as goal

pub note_fresh-added-requires : goal.note_fresh-added-requires
note_fresh-added-requires c =
    fresh-stamp (record_of c.args.number c.args.cell (shown c.args.old) c.stamp-stamp.result) c.args.journal.now.segments _ c.args.serial
    (c.requires.stamped.each c.args.number c.args.cell _ c.stamp-stamp.ensures) c.requires.serial
    (ne_eqb c.stamp-stamp.result c.args.serial c.if-stamp-serial.true)

pub returns-then-stamp-serial : goal.returns-then-stamp-serial
returns-then-stamp-serial c =
    notes-change c.args.objects.now _ c.args.journal.now _ c.args.number c.args.cell (shown c.args.old) c.stamp-stamp.result c.args.serial
    c.set_stamp.ensures c.stamp-stamp.ensures c.requires.serial c.requires.stamped c.note_fresh-added.ensures.journal

pub returns-else-stamp-serial : goal.returns-else-stamp-serial
returns-else-stamp-serial c =
    notes-nothing c.args.objects.now c.args.journal.now c.args.number c.args.cell (shown c.args.old) c.stamp-stamp.result c.stamp-stamp.ensures
    (stamp_after-some c.args.number c.stamp-stamp.result c.args.serial c.args.journal.now.segments c.requires.serial ∙ sym c.if-stamp-serial.false)
    (undue-noted c.args.journal.now.record_limit (record_of c.args.number c.args.cell (shown c.args.old) c.stamp-stamp.result)
    c.args.journal.now.segments _ c.args.serial (c.requires.stamped.each c.args.number c.args.cell _ c.stamp-stamp.ensures) c.requires.serial
    c.if-stamp-serial.false) c.requires.stamped
