use Rattle.std.proofs.Common.{◌∙◌, ◌+◌, ◌*◌, ◌≤◌, ap, sym, subst, is_some}
use Rattle.std.specs.Prelude.{IfSome}
use Rattle.std.specs.FinMap.{get}
use Rattle.t3_store.specs.Value.{cells_at}
use Rattle.t3_store.specs.Store.{CountedStore, value_at}
use Rattle.t3_store.specs.Inner.Shapes.{values}
use Rattle.t3_store.proofs.CellCounts.{places-within}
use Rattle.t3_store.proofs.Changes.{either-some, either-none}
use Rattle.t3_store.proofs.MapValues.{some-values}
use Rattle.t3_store.proofs.store.Store.places.Goals as goal

pub returns-then-is_some-clause-live : goal.returns-then-is_some-clause-live
returns-then-is_some-clause-live c =
    let p = c.self.inside.persistent.objects in
    let there = some-values p c.args.number ∙ sym c.places-places.ensures.live ∙ sym c.is_some.ensures ∙ c.if-is_some.true in
    c.places-places.ensures.live ∙ sym (some-values p c.args.number)
    ∙ sym (ap is_some (either-some (get (values p) c.args.number) (get (values c.self.inside.transient.objects) c.args.number) there))
    ∙ λ i. is_some (value_at (c.self.view_is i).store c.args.number)

pub returns-then-is_some-clause-bound : goal.returns-then-is_some-clause-bound
returns-then-is_some-clause-bound c =
    let p = c.self.inside.persistent.objects in
    let there = some-values p c.args.number ∙ sym c.places-places.ensures.live ∙ sym c.is_some.ensures ∙ c.if-is_some.true in
    let value = either-some (get (values p) c.args.number) (get (values c.self.inside.transient.objects) c.args.number) there in
    subst (λ (s : CountedStore). IfSome c.places-places.result (λ count. count ≤ 2 * (cells_at (value_at s.store c.args.number) + s.store.limits.records) + 16))
    c.self.view_is
    (subst (λ v. IfSome c.places-places.result (λ count. count ≤ 2 * (cells_at v + c.self.inside.limits.records) + 16)) (sym value)
    (places-within c.self.inside.limits.records c.args.number _ c.self.inside.persistent c.places-places.result c.places-places.ensures.places
    c.places-places.ensures.cells c.self.invariant.places.few))

pub returns-clause-live : goal.returns-clause-live
returns-clause-live c =
    let p = c.self.inside.persistent.objects in
    let t = c.self.inside.transient.objects in
    let gone = some-values p c.args.number ∙ sym c.places-places.ensures.live ∙ sym c.is_some.ensures ∙ c.if-is_some.false in
    c.places.ensures.live ∙ sym (some-values t c.args.number)
    ∙ sym (ap is_some (either-none (get (values p) c.args.number) (get (values t) c.args.number) gone))
    ∙ λ i. is_some (value_at (c.self.view_is i).store c.args.number)

pub returns-clause-bound : goal.returns-clause-bound
returns-clause-bound c =
    let p = c.self.inside.persistent.objects in
    let gone = some-values p c.args.number ∙ sym c.places-places.ensures.live ∙ sym c.is_some.ensures ∙ c.if-is_some.false in
    let value = either-none (get (values p) c.args.number) (get (values c.self.inside.transient.objects) c.args.number) gone in
    subst (λ (s : CountedStore). IfSome c.places.result (λ count. count ≤ 2 * (cells_at (value_at s.store c.args.number) + s.store.limits.records) + 16))
    c.self.view_is
    (subst (λ v. IfSome c.places.result (λ count. count ≤ 2 * (cells_at v + c.self.inside.limits.records) + 16)) (sym value)
    (places-within c.self.inside.limits.records c.args.number _ c.self.inside.transient c.places.result c.places.ensures.places
    c.places.ensures.cells c.self.invariant.places.few_transient))
