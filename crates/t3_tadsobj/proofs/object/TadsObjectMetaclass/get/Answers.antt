use Rattle.std.proofs.Common.{◌∙◌, ap, sym, is_some, true≢false}
use Rattle.std.specs.FinMap.{get, contains_key}
use Rattle.t3_undo.specs.Content.{shown}
use Rattle.t3_tadsobj.proofs.EntryLists.{get-Prop, get-other, placed-Prop, contains-other}
use Rattle.t3_tadsobj.proofs.object.TadsObjectMetaclass.get.Goals as goal

pub returns-in-Some-clause-content : goal.returns-in-Some-clause-content
returns-in-Some-clause-content c =
    ap shown c.content_at.ensures ∙ sym (get-Prop c.self.inside.props.entries c.in-Some.number)
    ∙ λ i. get (c.self.view_is i).parts (sym c.in-Some.ensures i)

pub returns-in-Some-clause-placed : goal.returns-in-Some-clause-placed
returns-in-Some-clause-placed c some =
    (λ i. contains_key (sym c.self.view_is i).places (c.in-Some.ensures i))
    ∙ placed-Prop c.self.inside.props.entries c.in-Some.number (ap (λ x. is_some (shown x)) (sym c.content_at.ensures) ∙ some)

pub returns-in-None-clause-content : goal.returns-in-None-clause-content
returns-in-None-clause-content c =
    sym (get-other c.self.inside.props.entries c.args.cell.now c.in-None.ensures)
    ∙ λ i. get (c.self.view_is i).parts c.args.cell.now

pub returns-in-None-clause-formed : goal.returns-in-None-clause-formed
returns-in-None-clause-formed c placed =
    absurd (true≢false (sym placed ∙ (λ i. contains_key (sym c.self.view_is i).places c.args.cell.now)
    ∙ contains-other c.self.inside.props.entries c.args.cell.now c.in-None.ensures))
