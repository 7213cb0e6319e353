use Rattle.std.proofs.Common.{◌≡◌, ◌∙◌, ap, sym, subst, ℕ, None, is_some, true≢false, arith}
use Rattle.std.specs.FinMap.{empty, get, get-empty, len, len-empty}
use Rattle.std.specs.Ordering.{nat_cmp}
use Rattle.std.specs.Prelude.{option_and_then}
use Rattle.t3_store.specs.Value.{Objects, Value, supers_of, units_in}
use Rattle.t3_store.specs.Store.{either}
use Rattle.t3_store.specs.Whole.{IsWhole, supers_in, supers_among}
use Rattle.t3_store.proofs.MapValues.{units_in-empty}
use Rattle.t3_store.proofs.WholeStarted.{none-whole}
use Rattle.t3_store_tests.proofs.restoring.start_with.Goals as goal

nothing : (objects : Objects) → objects ≡ empty → (number : ℕ) → get objects number ≡ None
nothing objects none number = ap (λ o. get o number) none ∙ get-empty nat_cmp number

pub start-requires-clause-first : goal.start-requires-clause-first
start-requires-clause-first c number above = nothing c.new.result c.new.ensures number

pub start-requires-clause-apart : goal.start-requires-clause-apart
start-requires-clause-apart c number some = absurd (true≢false (sym some ∙ ap is_some (nothing c.new.result c.new.ensures number)))

pub start-requires-clause-whole : goal.start-requires-clause-whole
start-requires-clause-whole c = none-whole _ (λ q. ap (option_and_then supers_of) (nothing c.new.result c.new.ensures q))

pub start-requires-clause-both : goal.start-requires-clause-both
start-requires-clause-both c =
    let second : supers_in c.args.passing ≡ supers_among c.new.result c.args.passing =
    λ i q. option_and_then supers_of (either (sym (nothing c.new.result c.new.ensures q) i) (get c.args.passing q)) in
    subst IsWhole second (c.in_ok-first_broken.ensures.whole.0 c.in-None-2.is)

pub start-requires-clause-objects : goal.start-requires-clause-objects
start-requires-clause-objects c =
    let first : len c.new.result ≡ 0 = ap len c.new.ensures ∙ len-empty nat_cmp Value in
    omega (arith, first, c.units.ensures.few)

pub start-requires-clause-units : goal.start-requires-clause-units
start-requires-clause-units c =
    let first : units_in c.new.result ≡ 0 = ap units_in c.new.ensures ∙ units_in-empty in
    omega (arith, first, c.units.ensures.units, c.if-units-gt4.false)
