use Rattle.std.proofs.Common.{◌∙◌, ap, sym, true≢false}
use Rattle.std.specs.FinMap.{insert, len, contains_key}
use Rattle.t3_tadsobj.proofs.EntryLists.{at, found, contains-Prop, contains-other, parts-stamp, places-stamp}
use Rattle.t3_tadsobj.proofs.object.TadsObjectMetaclass.set_stamp.Goals as goal

pub restamp-requires : goal.restamp-requires
restamp-requires c =
    sym (contains-Prop c.self.inside.props.entries c.in-Some.number)
    ∙ (λ i. contains_key (c.self.view_is i).places (sym c.in-Some.ensures i)) ∙ c.requires

pub invariant_of-self : goal.invariant_of-self
invariant_of-self c =
    let old = c.self.inside.props.entries in
    let n = c.in-Some.number in
    let p = found (at n old) (sym (contains-Prop old n)
    ∙ (λ i. contains_key (c.self.view_is i).places (sym c.in-Some.ensures i)) ∙ c.requires) in
    c.self.invariant
    ∙ ap len (sym (parts-stamp old c.restamp.new.entries.entries n p.0 p.1 c.args.stamp (c.restamp.ensures p.0 p.1).0))

pub returns-in-Some : goal.returns-in-Some
returns-in-Some c =
    let old = c.self.inside.props.entries in
    let new = c.restamp.new.entries.entries in
    let n = c.in-Some.number in
    let p = found (at n old) (sym (contains-Prop old n)
    ∙ (λ i. contains_key (c.self.view_is i).places (sym c.in-Some.ensures i)) ∙ c.requires) in
    let updated = (c.restamp.ensures p.0 p.1).0 in
    let parts = parts-stamp old new n p.0 p.1 c.args.stamp updated ∙ λ i. (c.self.view_is i).parts in
    let places = places-stamp old new n p.0 p.1 c.args.stamp updated
    ∙ λ i. insert (c.self.view_is i).places (sym c.in-Some.ensures i) c.args.stamp in
    λ i. record { parts = parts i; places = places i; supers = (c.self.view_is i).supers; class = (c.self.view_is i).class }

pub returns-in_default : goal.returns-in_default
returns-in_default c = absurd (true≢false (sym c.requires ∙ (λ i. contains_key (sym c.self.view_is i).places c.args.cell.now)
    ∙ contains-other c.self.inside.props.entries c.args.cell.now c.in_default.ensures))
