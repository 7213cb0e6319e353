use Rattle.std.proofs.Common.{subst, sym, ℕ, ◌≤◌, Option, IfSome, Bor}
use Rattle.t3_store.specs.declared.object.Object.{Object}
use Rattle.t3_store.specs.Inner.Shapes.{thing_of}
use Rattle.t3_store.specs.Inner.Valid.{IsValid}
use Rattle.t3_store.proofs.KindValues.{few-elements}
use Rattle.t3_store.proofs.object_at.ObjectAt.length.Goals as goal

pub returns-in-Some-clause-few : goal.returns-in-Some-clause-few
returns-in-Some-clause-few c =
    let valid : IsValid (thing_of c.in-Some.object.now) = subst (λ (o : Option (Bor Object)). IfSome o (λ object. IsValid (thing_of object.now)))
    c.in-Some.is c.self.invariant in
    subst (λ (o : Option ℕ). IfSome o (λ count. count ≤ 65535)) (sym c.length.ensures) (few-elements (thing_of c.in-Some.object.now) valid)
