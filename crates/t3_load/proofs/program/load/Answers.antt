use Rattle.std.proofs.Common.{◌≡◌, ◌∙◌, true, false, refl, sym, ap, subst, inr}
use Rattle.t3_load.specs.ImageObjects.{object_numbers, is_past}
use Rattle.t3_load.specs.Names.{metas_in}
use Rattle.t3_load.specs.Statics.{statics_in, kind_at}
use Rattle.t3_load.specs.Loading.{next_above}
use Rattle.t3_load.specs.Inner.Halves.{AreMade}
use Rattle.t3_load.proofs.RuleSteps.{kept_both, kept_none}
use Rattle.t3_load.proofs.LoadSteps.{refuses, room_kept, can_start}
use Rattle.t3_load.proofs.ObjectRules.{same_numbers}
use Rattle.t3_load.proofs.program.load.Goals as goal

pub returns-in_err-entry : goal.returns-in_err-entry
returns-in_err-entry c =
    refuses c.from_residual.result c.args.image.now.blocks c.args.fingerprint c.args.limits 1 7 c.in_err-entry.field-0.0
    (kept_none c.args.image.now.blocks c.args.limits 1) (c.in_err-entry.ensures).decides c.from_residual.ensures.1

pub returns-in_err-objects : goal.returns-in_err-objects
returns-in_err-objects c =
    refuses c.from_residual-in_err-objects.result c.args.image.now.blocks c.args.fingerprint c.args.limits 7 13 c.in_err-objects.field-0.0
    ((c.in_ok-entry.ensures).decides c.args.limits) (c.in_err-objects.ensures).decides c.from_residual-in_err-objects.ensures.1

pub returns-then-is_past : goal.returns-then-is_past
returns-then-is_past c =
    let blocks = c.args.image.now.blocks in
    let kept = kept_both blocks c.args.limits 1 7 13 ((c.in_ok-entry.ensures).decides c.args.limits)
    ((c.in_ok-objects.ensures).decides c.args.limits) in
    let past : is_past c.args.limits c.in_ok-objects.objects ≡ true =
    ap (is_past c.args.limits) (sym c.as_slice.ensures.objects) ∙ sym c.is_past.ensures ∙ c.if-is_past.true in
    inr (record { objects = c.in_ok-objects.objects; are = (c.in_ok-objects.ensures).objects; holds = past }, kept)

pub next_number-next-requires : goal.next_number-next-requires
next_number-next-requires c = subst AreMade (sym c.as_slice-2.ensures.objects) (c.in_ok-objects.ensures).made

pub halve-requires-clause-made : goal.halve-requires-clause-made
halve-requires-clause-made c = (c.in_ok-objects.ensures).made

pub invariant_of-result : goal.invariant_of-result
invariant_of-result c =
    let blocks = c.args.image.now.blocks in
    let objects = c.in_ok-objects.objects in
    let found = c.in_ok-objects.ensures in
    let room : is_past c.args.limits objects ≡ false =
    ap (is_past c.args.limits) (sym c.as_slice.ensures.objects) ∙ sym c.is_past.ensures ∙ c.if-is_past.false in
    let next = c.next_number-next.ensures ∙ ap (λ os. next_above (object_numbers os)) c.as_slice-2.ensures.objects in
    can_start blocks objects c.args.limits c.in_ok-first.field-0.first c.in_ok-first.field-0.passing c.next_number-next.result c.requires
    found.objects found.made c.as_slice.ensures.distinct found.whole.there found.whole.acyclic found.whole.persistent room
    c.in_ok-first.ensures.halves next

pub returns : goal.returns
returns c =
    let blocks = c.args.image.now.blocks in
    let objects = c.in_ok-objects.objects in
    let basis = (c.in_ok-entry.ensures).basis in
    let are = (c.in_ok-objects.ensures).objects in
    let room : is_past c.args.limits objects ≡ false =
    ap (is_past c.args.limits) (sym c.as_slice.ensures.objects) ∙ sym c.is_past.ensures ∙ c.if-is_past.false in
    let kept = kept_both blocks c.args.limits 1 13 14 (kept_both blocks c.args.limits 1 7 13
    ((c.in_ok-entry.ensures).decides c.args.limits) ((c.in_ok-objects.ensures).decides c.args.limits))
    (room_kept blocks objects c.args.limits are room) in
    let next = c.next_number-next.ensures ∙ ap (λ os. next_above (object_numbers os)) c.as_slice-2.ensures.objects in (
      kept,
      record {
        entry = basis.entry;
        pools = basis.pools;
        kinds = basis.kinds;
        sets = basis.sets;
        symbols = c.in_ok-symbols.ensures.table;
        named = c.in_ok-symbols.ensures.named;
        objects = objects;
        are = are;
        first = c.in_ok-first.ensures.halves.each false;
        passing = c.in_ok-first.ensures.halves.each true;
        next = next ∙ ap next_above (sym (same_numbers (kind_at (metas_in blocks)) (statics_in blocks) objects are));
        fingerprint_is = refl;
        limits_are = refl;
      },
    )
