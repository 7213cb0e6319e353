use Rattle.std.proofs.Common.{arith, inl, inr, sym, subst, ◌∙◌}
use Rattle.std.proofs.lemmas.Result.{err_from_is_err_and}
use Rattle.t3_snapshot.specs.Building.{IsBuilt}
use Rattle.t3_snapshot.proofs.Bodies.{failed, ended, is_body, not_none, is_nil}
use Rattle.t3_snapshot.proofs.body.decode_objects.Goals as goal

pub returns-in_err-builder : goal.returns-in_err-builder
returns-in_err-builder c =
    let p = err_from_is_err_and c.from_residual.result c.from_residual.ensures.1 in
    rw (p.1, p.2) (failed c.args.body.now c.args.objects.now c.args.next c.args.due c.in_err-builder.field-0.0 (omega arith) (omega arith)
    c.requires c.in_err-builder.ensures)

pub returns-then-not-is_empty : goal.returns-then-not-is_empty
returns-then-not-is_empty c =
    let read = c.in_ok-builder.ensures in
    ended _ c.args.objects.now _ _ read.0 _ _ (omega arith) (omega arith) c.requires read.1
    (inl (not_none _ (sym c.is_empty.ensures ∙ c.if-not-is_empty.true)))

pub returns-in-None : goal.returns-in-None
returns-in-None c =
    let read = c.in_ok-builder.ensures in
    let built = subst (IsBuilt c.args.next read.1.objects) c.in-None.is (c.in_ok-state.ensures c.args.next read.1.objects read.1.has) in
    ended _ c.args.objects.now _ _ read.0 _ _ (omega arith) (omega arith) c.requires read.1 (inr built)

pub returns-in-Some : goal.returns-in-Some
returns-in-Some c =
    let read = c.in_ok-builder.ensures in
    let built = subst (IsBuilt c.args.next read.1.objects) c.in-Some.is (c.in_ok-state.ensures c.args.next read.1.objects read.1.has) in
    is_body _ c.args.objects.now _ _ read.0 _ _ _ (omega arith) (omega arith) c.requires read.1
    (is_nil _ (sym c.is_empty.ensures ∙ c.if-not-is_empty.false)) built
