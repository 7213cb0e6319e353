use Rattle.std.proofs.Common.{◌∙◌, sym, refl, Bool, is_some}
use Rattle.std.specs.List.{list_any}
use Rattle.std.specs.FinMap.{get, keys}
use Rattle.t3_store.specs.Value.{Objects}
use Rattle.t3_store.proofs.Admitted.{clash-meets, no-clash}
use Rattle.t3_store.proofs.store.Store.admits.Goals as goal

abbrev has_one : Objects → Objects → Bool
has_one state transient = list_any (λ n. is_some (get transient n)) (keys state)

pub returns-then-meets-clause-clash : goal.returns-then-meets-clause-clash
returns-then-meets-clause-clash c = (
  λ e. clash-meets c.args.state.now c.args.self.now.store.transient
      (sym (c.meets.ensures ∙ λ i. has_one c.args.state.now (c.self.view_is i).store.transient) ∙ c.if-meets.true),
  λ not. refl,
)

pub returns-then-is_past_limits-clause-clash : goal.returns-then-is_past_limits-clause-clash
returns-then-is_past_limits-clause-clash c = (
  λ e. cc,
  λ not. absurd (not (no-clash c.args.state.now c.args.self.now.store.transient
      (sym (c.meets.ensures ∙ λ i. has_one c.args.state.now (c.self.view_is i).store.transient) ∙ c.if-meets.false))),
)

pub returns-clause-clash : goal.returns-clause-clash
returns-clause-clash c = (
  λ e. cc,
  λ not. absurd (not (no-clash c.args.state.now c.args.self.now.store.transient
      (sym (c.meets.ensures ∙ λ i. has_one c.args.state.now (c.self.view_is i).store.transient) ∙ c.if-meets.false))),
)
