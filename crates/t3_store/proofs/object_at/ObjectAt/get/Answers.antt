use Rattle.std.proofs.Common.{◌∙◌, ap, sym, subst, Option, IfSome, Bor}
use Rattle.std.specs.Option.{option_and_then}
use Rattle.t3_undo.specs.Present.{value_in}
use Rattle.t3_store.specs.declared.object.Object.{Object}
use Rattle.t3_store.specs.Value.{holder_at}
use Rattle.t3_store.specs.Inner.Shapes.{thing_of, value_under}
use Rattle.t3_store.specs.Inner.Valid.{IsValid}
use Rattle.t3_store.proofs.KindValues.{held-value}
use Rattle.t3_store.proofs.object_at.ObjectAt.get.Goals as goal

pub returns-in-Some : goal.returns-in-Some
returns-in-Some c =
    let cell = c.args.cell.now in
    let valid : IsValid (thing_of c.in-Some.object.now) = subst (λ (o : Option (Bor Object)). IfSome o (λ object. IsValid (thing_of object.now)))
    c.in-Some.is c.self.invariant in
    c.value.ensures ∙ ap (option_and_then value_in) c.get.ensures.content ∙ held-value (thing_of c.in-Some.object.now) cell valid
    ∙ ap (λ o. holder_at o cell) (sym (ap value_under c.in-Some.is) ∙ c.self.view_is)
