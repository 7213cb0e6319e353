use Rattle.std.proofs.Common.{◌≡◌, ◌∙◌, sym, subst, ℕ, None}
use Rattle.std.specs.FinMap.{get}
use Rattle.t3_store.specs.Value.{Objects, IsNextAbove}
use Rattle.t3_store.specs.Whole.{supers_in}
use Rattle.t3_store.specs.Broken.{LacksSuper}
use Rattle.t3_store.proofs.FirstBroken.{apart-none, lacks-there, none-below, least-found, none-left}
use Rattle.t3_store.proofs.persistent.Persistent.first_lacking.Goals as goal

apart : (objects : Objects) (q : ℕ) → get objects q ≡ None → LacksSuper (supers_in objects) q → ⊥
apart objects q none is = lacks-there (supers_in objects) q (apart-none objects q none) is

pub loop-next-init : goal.loop-next-init
loop-next-init c = none-below c.args.self.now (LacksSuper (supers_in c.args.self.now)) (apart c.args.self.now)
    ((λ i. get (sym c.self.view_is i) 0) ∙ c.self.invariant.from_one)

pub returns-then-lacks_super : goal.returns-then-lacks_super
returns-then-lacks_super c = least-found c.args.self.now (LacksSuper (supers_in c.args.self.now)) c.loop-next.number c.in-Some.next (apart c.args.self.now)
    c.in-Some.ensures c.loop-next.invariant (c.lacks_super.ensures.0 c.if-lacks_super.true)

pub returns : goal.returns
returns c = none-left c.args.self.now (LacksSuper (supers_in c.args.self.now)) c.loop-next.number (apart c.args.self.now) (subst (IsNextAbove c.args.self.now c.loop-next.number) c.in_default.is c.after.ensures) c.loop-next.invariant
