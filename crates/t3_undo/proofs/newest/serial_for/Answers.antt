use Rattle.std.proofs.Common.{◌≡◌, ◌∙◌, ap, sym, refl, ℕ, Bool, true, false, if◌then◌else◌, Some, None}
use Rattle.std.specs.Bool.{then_some}
use Rattle.t3_undo.specs.Journal.{serial_for}
use Rattle.t3_undo.proofs.RingLists.{segments-last, segments-unheld}
use Rattle.t3_undo.proofs.newest.serial_for.Goals as goal

either : (b : Bool) (x : ℕ) → then_some b x ≡ (if b then Some x else None)
either true x = refl
either false x = refl

pub returns-in-Some : goal.returns-in-Some
returns-in-Some c =
    c.then_some.ensures ∙ either _ c.in-Some.newest.now.serial
    ∙ sym (ap (serial_for c.args.number)
    (segments-last c.args.marks.now.items c.in-Some.newest.now c.args.records.now.items c.in-Some.ensures))

pub returns-in-None : goal.returns-in-None
returns-in-None c =
    sym (ap (serial_for c.args.number) (segments-unheld c.args.marks.now.items c.args.records.now.items c.in-None.ensures))
