use Rattle.std.proofs.Common.{subst, ℕ, Some, None, Option}
use Rattle.std.specs.Prelude.{MatchOption}
use Rattle.t3_store.specs.Whole.{supers_in}
use Rattle.t3_store.specs.Broken.{LacksSuper, IsOwnAncestor, IsNever, IsLeast}
use Rattle.t3_tadsobj.specs.Order.{SupersAt}
use Rattle.t3_store.specs.declared.broken.Broken.TheVariants.{Missing, Cycle}
use Rattle.t3_store.proofs.FirstBroken.{broken-whole}
use Rattle.t3_store.proofs.persistent.Persistent.first_broken.Goals as goal

abbrev IsFound : (ℕ → Type 0) → Option ℕ → Type 0
IsFound P found = MatchOption found (IsNever P) (λ number. IsLeast P number)

pub returns-in-Some-clause-whole : goal.returns-in-Some-clause-whole
returns-in-Some-clause-whole c = broken-whole (supers_in c.args.self.now) (Some (c.in-Some.number, Missing)) c.in-Some.ensures

pub returns-in-Some-2-clause-whole : goal.returns-in-Some-2-clause-whole
returns-in-Some-2-clause-whole c =
    let at : SupersAt = supers_in c.args.self.now in
    broken-whole at (Some (c.in-Some-2.number, Cycle)) (
      subst (IsFound (LacksSuper at)) c.in_default.is c.first_lacking.ensures,
      subst (IsFound (IsOwnAncestor at)) c.in-Some-2.is c.in_ok-number.ensures,
    )

pub returns-in-None-clause-whole : goal.returns-in-None-clause-whole
returns-in-None-clause-whole c =
    let at : SupersAt = supers_in c.args.self.now in
    broken-whole at None (
      subst (IsFound (LacksSuper at)) c.in_default.is c.first_lacking.ensures,
      subst (IsFound (IsOwnAncestor at)) c.in-None.is c.in_ok-number.ensures,
    )
