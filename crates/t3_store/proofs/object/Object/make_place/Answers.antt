use Rattle.std.proofs.Common.{IsTrue, subst}
use Rattle.t3_store.specs.Value.{can_have}
use Rattle.t3_store.specs.Inner.Shapes.{thing_of, value_of}
use Rattle.t3_store.specs.Inner.Valid.{IsValid}
use Rattle.t3_store.specs.declared.object.Object.{Object}
use Rattle.t3_lists.proofs.ItemValues.{vector-place}
use Rattle.t3_store.proofs.object.Object.make_place.Goals as goal

pub make_place-requires-in-Vector : goal.make_place-requires-in-Vector
make_place-requires-in-Vector c =
    let P : Object → Type 0 = λ o. IsValid (thing_of o) in
    let Q : Object → Type 0 = λ o. IsTrue (can_have (value_of (thing_of o)) c.args.cell) in
    vector-place c.in-Vector.vector c.args.cell (subst P c.in-Vector.is c.requires.valid) (subst Q c.in-Vector.is c.requires.can)
