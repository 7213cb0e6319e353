use Rattle.std.proofs.Common.{◌≡◌, ℕ, List, Option, None, map, nat_eq, refl, sym, ap, ◌∙◌, subst, inr}
use Rattle.std.specs.List.{IsDistinct}
use Rattle.t3_load.specs.Rules.{first_bad}
use Rattle.t3_load.specs.declared.standing.StaticObject.{StaticObject}
use Rattle.t3_load.specs.declared.objects.Tried.TheVariants as tried
use Rattle.t3_load.specs.Rules.{IsFirstTwice}
use Rattle.t3_load.specs.Inner.Objects.{static_of, entry_kind_at, TakesNumbers, TakesObjects}
use Rattle.t3_load.proofs.ObjectRules.{twice_decides, data_decides, are_in, objects_decide, have_numbers}
use Rattle.t3_load.proofs.OneObject.{are_made}
use Rattle.t3_load.proofs.objects.objects.Goals as goal

abbrev number_of : StaticObject → ℕ
number_of static = static.number

same : (static : StaticObject) → (static_of static).number ≡ number_of static
same static = refl

-- none has a bad number
no_bad : (rows : List StaticObject) (view : List StaticObject) (found : Option ℕ) → view ≡ rows
    → found ≡ first_bad (map static_of view)
    → found ≡ None
    → first_bad (map static_of rows) ≡ None
no_bad rows view found are sought none =
    ap (λ rs. first_bad (map static_of rs)) (sym are)
    ∙ sym sought ∙ none

pub returns-in-Bad-clause-decides : goal.returns-in-Bad-clause-decides
returns-in-Bad-clause-decides c =
    let rows = c.in_ok-statics.statics.items in
    inr
    (twice_decides static_of number_of rows c.args.blocks.now c.in-Bad.number same c.in_ok-statics.ensures
    (no_bad rows c.deref.result.now c.bad_number.result c.deref.ensures.value c.bad_number.ensures c.in_default.is)
    (subst (λ rs. IsFirstTwice (map number_of rs) c.in-Bad.number) c.deref-2.ensures.value
    (subst (TakesNumbers (λ set. set.keys) (map number_of c.deref-2.result.now)) c.in-Bad.is c.in_ok-numbers.ensures)))

pub returns-in-Bad-2-clause-decides : goal.returns-in-Bad-2-clause-decides
returns-in-Bad-2-clause-decides c =
    let rows = c.in_ok-statics.statics.items in
    let good = subst (TakesNumbers (λ set. set.keys) (map number_of c.deref-2.result.now)) c.in-Good.is c.in_ok-numbers.ensures in
    let kind = entry_kind_at c.args.kinds.now in
    inr
    (data_decides static_of number_of rows c.args.blocks.now c.args.kinds.now c.in-Bad-2.number same c.in_ok-statics.ensures
    (no_bad rows c.deref.result.now c.bad_number.result c.deref.ensures.value c.bad_number.ensures c.in_default.is)
    (subst (λ rs. IsDistinct nat_eq (map number_of rs)) c.deref-2.ensures.value good.1) c.requires
    (subst (λ rs. TakesObjects kind (map static_of rs) (tried.Bad c.in-Bad-2.number)) c.deref-3.ensures.value
    (subst (TakesObjects kind (map static_of c.deref-3.result.now)) c.in-Bad-2.is c.in_ok-objects.ensures)))

pub invariant_of-result : goal.invariant_of-result
invariant_of-result c =
    let rows = c.in_ok-statics.statics.items in
    let good = subst (TakesNumbers (λ set. set.keys) (map number_of c.deref-2.result.now)) c.in-Good.is c.in_ok-numbers.ensures in
    let kind = entry_kind_at c.args.kinds.now in
    have_numbers static_of number_of rows kind c.in-Good-2.objects.items c.in-Good.numbers.keys same
    (good.0 ∙ ap (map number_of) c.deref-2.ensures.value)
    (subst (λ rs. IsDistinct nat_eq (map number_of rs)) c.deref-2.ensures.value good.1)
    (subst (λ rs. TakesObjects kind (map static_of rs) (tried.Good c.in-Good-2.objects)) c.deref-3.ensures.value
    (subst (TakesObjects kind (map static_of c.deref-3.result.now)) c.in-Good-2.is c.in_ok-objects.ensures))

pub returns-clause-objects : goal.returns-clause-objects
returns-clause-objects c =
    let kind = entry_kind_at c.args.kinds.now in
    are_in static_of c.in_ok-statics.statics.items c.args.blocks.now c.args.kinds.now c.in-Good-2.objects.items c.in_ok-statics.ensures c.requires
    (subst (λ rs. TakesObjects kind (map static_of rs) (tried.Good c.in-Good-2.objects)) c.deref-3.ensures.value
    (subst (TakesObjects kind (map static_of c.deref-3.result.now)) c.in-Good-2.is c.in_ok-objects.ensures))

pub returns-clause-made : goal.returns-clause-made
returns-clause-made c =
    let rows = c.in_ok-statics.statics.items in
    let kind = entry_kind_at c.args.kinds.now in
    are_made kind (map static_of rows) c.in-Good-2.objects.items
    (subst (λ rs. TakesObjects kind (map static_of rs) (tried.Good c.in-Good-2.objects)) c.deref-3.ensures.value
    (subst (TakesObjects kind (map static_of c.deref-3.result.now)) c.in-Good-2.is c.in_ok-objects.ensures))
    (no_bad rows c.deref.result.now c.bad_number.result c.deref.ensures.value c.bad_number.ensures c.in_default.is)

pub returns-clause-decides : goal.returns-clause-decides
returns-clause-decides c =
    let rows = c.in_ok-statics.statics.items in
    let good = subst (TakesNumbers (λ set. set.keys) (map number_of c.deref-2.result.now)) c.in-Good.is c.in_ok-numbers.ensures in
    let kind = entry_kind_at c.args.kinds.now in
    objects_decide static_of number_of rows c.args.blocks.now c.in-Good-2.objects.items same c.in_ok-statics.ensures
    (no_bad rows c.deref.result.now c.bad_number.result c.deref.ensures.value c.bad_number.ensures c.in_default.is)
    (subst (λ rs. IsDistinct nat_eq (map number_of rs)) c.deref-2.ensures.value good.1)
    (are_in static_of rows c.args.blocks.now c.args.kinds.now c.in-Good-2.objects.items c.in_ok-statics.ensures c.requires
    (subst (λ rs. TakesObjects kind (map static_of rs) (tried.Good c.in-Good-2.objects)) c.deref-3.ensures.value
    (subst (TakesObjects kind (map static_of c.deref-3.result.now)) c.in-Good-2.is c.in_ok-objects.ensures)))
