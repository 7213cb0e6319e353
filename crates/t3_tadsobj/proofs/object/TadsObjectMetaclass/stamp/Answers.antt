use Rattle.std.proofs.Common.{◌∙◌, ap, sym, Some, option_map, true≢false}
use Rattle.std.specs.FinMap.{get, contains_key}
use Rattle.t3_tadsobj.specs.Inner.Entries.{stamp_or}
use Rattle.t3_tadsobj.proofs.EntryLists.{at, found, stamp-Prop, contains-Prop, contains-other}
use Rattle.t3_tadsobj.proofs.object.TadsObjectMetaclass.stamp.Goals as goal

pub returns-in-Some : goal.returns-in-Some
returns-in-Some c =
    let es = c.self.inside.props.entries in
    let p = found (at c.in-Some.number es) (sym (contains-Prop es c.in-Some.number)
    ∙ (λ i. contains_key (c.self.view_is i).places (sym c.in-Some.ensures i)) ∙ c.requires) in
    (λ i. get (sym c.self.view_is i).places (c.in-Some.ensures i)) ∙ stamp-Prop es c.in-Some.number
    ∙ ap (option_map (λ p. p.stamp)) p.1 ∙ λ i. Some (sym (c.stamp_at.ensures ∙ ap stamp_or p.1) i)

pub returns-in-None : goal.returns-in-None
returns-in-None c = absurd (true≢false (sym c.requires ∙ (λ i. contains_key (sym c.self.view_is i).places c.args.cell.now)
    ∙ contains-other c.self.inside.props.entries c.args.cell.now c.in-None.ensures))
