use Rattle.std.proofs.Common.{◌∙◌, sym}
use Rattle.t3_undo.specs.Content.{shown}
use Rattle.t3_undo.proofs.StampChanges.{undue-none, stamp_after-none}
use Rattle.t3_store.specs.Inner.Store.{record_of}
use Rattle.t3_store.proofs.Stamped.{the-stamp, notes-nothing}
use Rattle.t3_store.proofs.noting.note.Goals as goal

pub returns-in_default : goal.returns-in_default
returns-in_default c =
    let had = the-stamp c.args.objects.now.places c.args.number c.args.cell c.requires.placed in
    let none = sym c.serial_for.ensures ∙ c.in_default.is in
    notes-nothing c.args.objects.now c.args.journal.now c.args.number c.args.cell (shown c.args.old) had.0 had.1
    (stamp_after-none c.args.number had.0 c.args.journal.now.segments none)
    (undue-none c.args.journal.now.record_limit (record_of c.args.number c.args.cell (shown c.args.old) had.0)
    c.args.journal.now.segments none) c.requires.stamped
