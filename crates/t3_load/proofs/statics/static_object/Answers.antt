use Rattle.std.proofs.Common.{sym, subst}
use Rattle.t3_load.specs.declared.kinds.MetaKind.TheVariants as kinds
use Rattle.t3_load.specs.Layout.{GivesObject}
use Rattle.t3_load.proofs.ReadObjects.{gives_object}
use Rattle.t3_load.proofs.statics.static_object.Goals as goal

pub returns-in-Tads : goal.returns-in-Tads
returns-in-Tads c =
    subst (λ kind. GivesObject kind c.args.bytes.now c.tads_object.result) (sym c.in-Tads.is) (gives_object kinds.Tads _ _ c.tads_object.ensures)

pub returns-in-Text : goal.returns-in-Text
returns-in-Text c =
    subst (λ kind. GivesObject kind c.args.bytes.now c.text.result) (sym c.in-Text.is) (gives_object kinds.Text _ _ c.text.ensures)

pub returns-in-List : goal.returns-in-List
returns-in-List c =
    subst (λ kind. GivesObject kind c.args.bytes.now c.list.result) (sym c.in-List.is) (gives_object kinds.List _ _ c.list.ensures)

pub returns-in-Vector : goal.returns-in-Vector
returns-in-Vector c =
    subst (λ kind. GivesObject kind c.args.bytes.now c.vector.result) (sym c.in-Vector.is) (gives_object kinds.Vector _ _ c.vector.ensures)
