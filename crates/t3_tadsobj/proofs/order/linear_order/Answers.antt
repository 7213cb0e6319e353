use Rattle.std.proofs.Common.{◌≡◌, ◌∷◌, [], inl, Bool, true, false, not, ◌++◌, List, length, sym, refl, ap, ◌∙◌, arith}
use Rattle.t3_tadsobj.specs.declared.order.Task.{Task}
use Rattle.t3_tadsobj.specs.declared.order.Task.TheVariants.{Enter}
use Rattle.t3_tadsobj.proofs.OrderMembers.{Has-from_contains}
use Rattle.t3_tadsobj.proofs.OrderDepth.{ends}
use Rattle.t3_tadsobj.proofs.OrderVisits.{walk_begun, walk_entered, walk_passed, walk_left, walk_left_again, walk_done, entered_smaller, work-fewer}
use Rattle.t3_tadsobj.proofs.order.linear_order.Goals as goal

absent : (added has : Bool) → added ≡ true → added ≡ not has → has ≡ false
absent added true is was = absurd cc
absent added false is was = refl

present : (added has : Bool) → added ≡ false → added ≡ not has → has ≡ true
present added true is was = refl
present added false is was = absurd cc

none_left : (tasks : List Task) → length tasks ≡ 0 → tasks ≡ []
none_left [] is = refl
none_left (task ∷ tasks) is = absurd (omega arith)

pub loop-task-init : goal.loop-task-init
loop-task-init g c =
    let at = g.S.Supers.supers_at c.args.view.now in
    let numbers = g.S.Supers.numbers c.args.view.now in
    walk_begun at (length numbers) c.args.number _ _ _
    (ends at (length numbers) numbers (omega arith) c.args.number (λ m supers is. inl
    (Has-from_contains numbers m (g.met.S.Supers.covers c.args.view.now m (rw is refl)))) c.requires)
    (c.in_ok-push.ensures.items ∙ ap (λ (tasks : List Task). tasks ++ Enter c.args.number ∷ []) c.new-tasks.ensures.items)
    c.new-order.ensures.items
    c.new-seen.ensures.empty

pub loop-task-smaller-in-Continue-branch-2 : goal.loop-task-smaller-in-Continue-branch-2
loop-task-smaller-in-Continue-branch-2 g c =
    entered_smaller (g.S.Supers.supers_at c.args.view.now) (length (g.S.Supers.numbers c.args.view.now)) c.args.number c.in-Enter.next
    _ _ _ _ _
    (c.in-Some.ensures.items ∙ ap (λ (task : Task). c.pop.new.self.items ++ task ∷ []) c.in-Enter.is)
    c.in_ok-enter-in-Enter.ensures
    c.loop-task.invariant

pub loop-task-preserved-in-Continue-branch-2 : goal.loop-task-preserved-in-Continue-branch-2
loop-task-preserved-in-Continue-branch-2 g c =
    walk_entered (g.S.Supers.supers_at c.args.view.now) (length (g.S.Supers.numbers c.args.view.now)) c.args.number c.in-Enter.next _
    _ _ _ _
    (c.in-Some.ensures.items ∙ ap (λ (task : Task). c.pop.new.self.items ++ task ∷ []) c.in-Enter.is)
    c.in_ok-enter-in-Enter.ensures
    c.loop-task.invariant

pub loop-task-smaller-else-not-contains : goal.loop-task-smaller-else-not-contains
loop-task-smaller-else-not-contains g c =
    work-fewer (g.S.Supers.supers_at c.args.view.now) (length (g.S.Supers.numbers c.args.view.now)) c.in-Some.task _ _
    c.in-Some.ensures.items

pub loop-task-preserved-else-not-contains : goal.loop-task-preserved-else-not-contains
loop-task-preserved-else-not-contains g c =
    walk_passed (g.S.Supers.supers_at c.args.view.now) (length (g.S.Supers.numbers c.args.view.now)) c.args.number c.in-Enter.next _ _ _ _
    (c.in-Some.ensures.items ∙ ap (λ (task : Task). c.pop.new.self.items ++ task ∷ []) c.in-Enter.is)
    (sym c.contains.ensures ∙ c.if-not-contains.false)
    c.loop-task.invariant

pub loop-task-smaller-in-Continue-branch-4 : goal.loop-task-smaller-in-Continue-branch-4
loop-task-smaller-in-Continue-branch-4 g c =
    work-fewer (g.S.Supers.supers_at c.args.view.now) (length (g.S.Supers.numbers c.args.view.now)) c.in-Some.task _ _
    c.in-Some.ensures.items

pub loop-task-preserved-in-Continue-branch-4 : goal.loop-task-preserved-in-Continue-branch-4
loop-task-preserved-in-Continue-branch-4 g c =
    walk_left (g.S.Supers.supers_at c.args.view.now) (length (g.S.Supers.numbers c.args.view.now)) c.args.number c.in-Leave.next _ _ _ _ _ _
    (c.in-Some.ensures.items ∙ ap (λ (task : Task). c.pop.new.self.items ++ task ∷ []) c.in-Leave.is)
    (absent c.in_ok-insert-in-Leave.field-0 _ c.if-branch.true c.in_ok-insert-in-Leave.ensures.added)
    c.in_ok-insert-in-Leave.ensures.updates.0
    c.in_ok-push-in-Leave.ensures.items
    c.loop-task.invariant

pub loop-task-smaller : goal.loop-task-smaller
loop-task-smaller g c =
    work-fewer (g.S.Supers.supers_at c.args.view.now) (length (g.S.Supers.numbers c.args.view.now)) c.in-Some.task _ _
    c.in-Some.ensures.items

pub loop-task-preserved : goal.loop-task-preserved
loop-task-preserved g c =
    walk_left_again (g.S.Supers.supers_at c.args.view.now) (length (g.S.Supers.numbers c.args.view.now)) c.args.number c.in-Leave.next
    _ _ _ _ _
    (c.in-Some.ensures.items ∙ ap (λ (task : Task). c.pop.new.self.items ++ task ∷ []) c.in-Leave.is)
    (present c.in_ok-insert-in-Leave.field-0 _ c.if-branch.false c.in_ok-insert-in-Leave.ensures.added)
    c.in_ok-insert-in-Leave.ensures.updates.0
    c.loop-task.invariant

pub returns : goal.returns
returns g c =
    rw c.reverse.ensures.items (walk_done (g.S.Supers.supers_at c.args.view.now)
    (length (g.S.Supers.numbers c.args.view.now)) c.args.number _ _ _
    (none_left c.loop-task.tasks.items (sym c.loop-task.tasks.ok.0 ∙ c.in_default.ensures.cases.0)) c.loop-task.invariant)
