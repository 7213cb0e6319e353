use Rattle.std.proofs.Common.{◌≡◌, ◌∙◌, ap, map, List, ℕ, subst}
use Rattle.std.specs.Prelude.{IfOk}
use Rattle.std.specs.FinMap.{keys}
use Rattle.t3_store.specs.Inner.Shapes.{Stored, values}
use Rattle.t3_store.specs.declared.entries.Entry.{Entry}
use Rattle.t3_store.proofs.RowNumbers.{numbers-keys}
use Rattle.t3_store.proofs.object_map.ObjectMap.numbers.Goals as goal

pub returns : goal.returns
returns c =
    let same = ap (map (λ (e : Entry). e.number)) c.deref.ensures.value ∙ numbers-keys c.self.inside.entries.items c.self.invariant.rising
    ∙ ap (λ (s : Stored). keys (values s.objects)) c.self.view_is in
    let P : List ℕ → Type 0 = λ ns. IfOk c.numbers_of.result (λ numbers. numbers.items ≡ ns) in
    subst P same c.numbers_of.ensures
