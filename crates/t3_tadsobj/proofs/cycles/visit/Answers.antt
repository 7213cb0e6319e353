use Rattle.std.proofs.Common.{◌≡◌, ◌∙◌, ap, sym, refl, Bool, false, Option, Some, None, [], ◌∷◌, ◌++◌}
use Rattle.std.specs.Prelude.{is_some}
use Rattle.t3_tadsobj.specs.declared.cycles.Mark.{Mark}
use Rattle.t3_tadsobj.specs.declared.cycles.Task.{Task}
use Rattle.t3_tadsobj.proofs.CycleRests.{step-begun, step-met, step-merged, step-done, step-left, met-less, fewer-less, left-some}
use Rattle.t3_tadsobj.proofs.cycles.visit.Goals as goal

unmarked : (o : Option Mark) (b : Bool) → b ≡ is_some o → b ≡ false → o ≡ None
unmarked None b is no_mark = refl
unmarked (Some mark) b is no_mark = absurd cc

pub loop-task-init : goal.loop-task-init
loop-task-init g c =
    step-begun (g.S.Supers.supers_at c.args.view.now) _ _ _ _ _ _ _ _ c.args.number
    (unmarked _ _ c.contains_key.ensures c.if-contains_key.false) c.in_ok-enter.ensures.marks.0 c.in_ok-enter.ensures.path
    c.in_ok-enter.ensures.components c.in_ok-enter.ensures.tasks c.requires

pub loop-task-smaller-in-Continue-branch-2 : goal.loop-task-smaller-in-Continue-branch-2
loop-task-smaller-in-Continue-branch-2 g c =
    met-less (g.S.Supers.supers_at c.args.view.now) _ _ (g.S.Supers.numbers c.args.view.now) _ c.in-Look.above _ _ _ c.in-Some.task
    (g.met.S.Supers.covers c.args.view.now)
    (sym c.get.ensures.value ∙ sym c.copied.ensures ∙ c.in-None.is) c.in_ok-enter-in-None.ensures.marks.0
    c.in-Some.ensures.items c.in_ok-enter-in-None.ensures.tasks

pub loop-task-preserved-in-Continue-branch-2 : goal.loop-task-preserved-in-Continue-branch-2
loop-task-preserved-in-Continue-branch-2 g c =
    step-met (g.S.Supers.supers_at c.args.view.now) _ _ _ _ _ _ _ _ _ c.in-Look.field-0 c.in-Look.above c.args.number
    (sym c.get.ensures.value ∙ sym c.copied.ensures ∙ c.in-None.is) c.in_ok-enter-in-None.ensures.marks.0
    (c.in-Some.ensures.items ∙ ap (λ (task : Task). c.pop.new.self.items ++ task ∷ []) c.in-Look.is)
    c.in_ok-enter-in-None.ensures.path c.in_ok-enter-in-None.ensures.components c.in_ok-enter-in-None.ensures.tasks
    c.loop-task.invariant

pub loop-task-preserved-in-Continue-branch-3 : goal.loop-task-preserved-in-Continue-branch-3
loop-task-preserved-in-Continue-branch-3 g c =
    step-merged (g.S.Supers.supers_at c.args.view.now) _ _ _ _ _ _ c.in-Look.field-0 c.in-Look.above c.in-Some-Open.place c.args.number
    (sym c.get.ensures.value ∙ sym c.copied.ensures ∙ c.in-Some-Open.is ∙ ap Some c.in-Some-Open.field-0-is)
    (c.in-Some.ensures.items ∙ ap (λ (task : Task). c.pop.new.self.items ++ task ∷ []) c.in-Look.is)
    c.in_ok-merge-in-Some-Open.ensures c.loop-task.invariant

pub loop-task-preserved-in-Some-Done : goal.loop-task-preserved-in-Some-Done
loop-task-preserved-in-Some-Done g c =
    step-done (g.S.Supers.supers_at c.args.view.now) _ _ _ _ _ c.in-Look.field-0 c.in-Look.above c.args.number c.in-Some-Done.field-0-0
    (sym c.get.ensures.value ∙ sym c.copied.ensures ∙ c.in-Some-Done.is ∙ ap Some c.in-Some-Done.field-0-is)
    (c.in-Some.ensures.items ∙ ap (λ (task : Task). c.pop.new.self.items ++ task ∷ []) c.in-Look.is)
    c.loop-task.invariant

pub loop-task-smaller : goal.loop-task-smaller
loop-task-smaller g c =
    fewer-less (g.S.Supers.supers_at c.args.view.now) _ _ (g.S.Supers.numbers c.args.view.now) _ _ _ c.in-Some.task
    (left-some c.in-Leave.place _ _ _ _ _ _ c.in_ok-leave-in-Leave.ensures.left)
    c.in-Some.ensures.items c.in_ok-leave-in-Leave.ensures.tasks

pub loop-task-preserved : goal.loop-task-preserved
loop-task-preserved g c =
    step-left (g.S.Supers.supers_at c.args.view.now) _ _ _ _ _ _ _ _ _ c.in-Leave.place c.args.number
    c.in_ok-leave-in-Leave.ensures.left
    (c.in-Some.ensures.items ∙ ap (λ (task : Task). c.pop.new.self.items ++ task ∷ []) c.in-Leave.is)
    c.in_ok-leave-in-Leave.ensures.tasks c.loop-task.invariant
