use Rattle.std.proofs.Common.{◌≡◌, ℕ, ℤ, ◌+◌, ◌*◌, Some, w16, subst, sym, arith}
use mir.Val.{to_z, of_z}
use Rattle.std.proofs.lemmas.Int.{to_z-of_z}
use Rattle.t3_methods.specs.Operands.{HasCase}
use Rattle.t3_methods.proofs.Switching.{case_none, finds_only}
use Rattle.t3_methods.proofs.cases.case_at.Goals as goal

pub returns-in_default-clause-finds : goal.returns-in_default-clause-finds
returns-in_default-clause-finds c =
    case_none c.args.pools.now.code _ c.saturating_add-place.result c.in_default.ensures.reads c.in_default.ensures.beyond
    (λ near. omega (arith, c.saturating_add-place.ensures, c.from.ensures))

pub returns-in_default-clause-only : goal.returns-in_default-clause-only
returns-in_default-clause-only c =
    λ holder jump has. absurd (case_none c.args.pools.now.code _ c.saturating_add-place.result c.in_default.ensures.reads c.in_default.ensures.beyond
    (λ near. omega (arith, c.saturating_add-place.ensures, c.from.ensures)) holder jump has)

pub returns-clause-only : goal.returns-clause-only
returns-clause-only c =
    λ holder jump has.
    let code = c.args.pools.now.code in
    let place : ℕ = c.saturating_add-place.result in
    let there : place ≡ c.args.at + 7 * c.args.nth = omega (arith, c.saturating_add-place.ensures, c.from.ensures, c.in-Some.ensures.bounded) in
    let reads : HasCase code (c.args.at + 7 * c.args.nth) c.in-Some.holder c.in-Some.jump =
    subst (λ (n : ℕ). HasCase code n c.in-Some.holder c.in-Some.jump) there c.in-Some.ensures.reads in
    let same : to_z w16 (of_z w16 c.in-Some.jump) ≡ c.in-Some.jump = to_z-of_z w16 c.in-Some.jump reads.has_jump.fits in
    let found = subst (λ (z : ℤ). HasCase code (c.args.at + 7 * c.args.nth) c.in-Some.holder z) (sym same) reads in
    finds_only code c.args.at c.args.nth (Some (c.in-Some.holder, place + 5, to_z w16 (of_z w16 c.in-Some.jump)))
    (found, omega (arith, there)) holder jump has
