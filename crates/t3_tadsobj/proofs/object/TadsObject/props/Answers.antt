use Rattle.std.proofs.Common.{◌∙◌, ap, sym, subst, List, ℕ, map, nat_eq}
use Rattle.std.specs.List.{IsDistinct}
use Rattle.std.specs.List.Sorted.{IsStrictlyIncreasing}
use Rattle.std.specs.FinMap.{entries}
use Rattle.std.proofs.lemmas.Map.Keys.{IsStrictlyIncreasing-from_sorted}
use Rattle.t3_tadsobj.specs.Object.{props_of}
use Rattle.t3_tadsobj.specs.declared.props.PropValue.{PropValue}
use Rattle.t3_tadsobj.proofs.PropRows.{distinct, pairs-listed, numbers-listed, rising-rows, rows-props}
use Rattle.t3_tadsobj.proofs.object.TadsObject.props.Goals as goal

pub invariant_of-result : goal.invariant_of-result
invariant_of-result c =
    let P : List ℕ → Type 0 = IsDistinct nat_eq in
    subst P (sym (ap (map (λ (p : PropValue). p.number)) c.in_ok-props.ensures.listed ∙ numbers-listed c.self.inside.props.entries))
    (distinct _ (rising-rows c.self.inside.props.entries c.in_ok-props.ensures.ordered))

pub returns-clause-props : goal.returns-clause-props
returns-clause-props c =
    ap (map (λ (p : PropValue). (p.number, p.value))) c.in_ok-props.ensures.listed ∙ pairs-listed c.self.inside.props.entries
    ∙ rows-props c.self.inside.props.entries c.in_ok-props.ensures.ordered ∙ λ i. entries (props_of (c.self.view_is i).parts)

pub returns-clause-rising : goal.returns-clause-rising
returns-clause-rising c =
    let P : List ℕ → Type 0 = IsStrictlyIncreasing in
    subst P (sym (ap (map (λ (p : PropValue). p.number)) c.in_ok-props.ensures.listed ∙ numbers-listed c.self.inside.props.entries))
    (IsStrictlyIncreasing-from_sorted _ (rising-rows c.self.inside.props.entries c.in_ok-props.ensures.ordered))
