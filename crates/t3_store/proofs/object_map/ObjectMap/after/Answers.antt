use Rattle.std.proofs.Common.{◌+◌, ap, subst, refl, List}
use Rattle.t3_undo.specs.Objects.{Objects}
use Rattle.t3_store.specs.Value.{IsNextAbove}
use Rattle.t3_store.specs.Inner.Shapes.{Shape, values}
use Rattle.t3_store.specs.Inner.Entries.{things_of, IsFirstFrom}
use Rattle.t3_store.specs.declared.entries.Entry.{Entry}
use Rattle.t3_store.proofs.MapValues.{next-above}
use Rattle.t3_store.proofs.object_map.ObjectMap.after.Goals as goal

pub returns : goal.returns
returns c =
    let P : List Entry → Type 0 = λ es. IsFirstFrom (things_of es) (c.args.number + 1) c.number_from.result in
    let Q : Objects Shape → Type 0 = λ o. IsNextAbove (values o) c.args.number c.number_from.result in
    subst Q (ap (λ s. s.objects) c.self.view_is)
    (next-above (things_of c.self.inside.entries.items) c.args.number (c.args.number + 1) c.number_from.result
    refl (subst P c.deref.ensures.value c.number_from.ensures))
