use Rattle.std.proofs.Common.{◌∙◌, is_some}
use Rattle.std.specs.List.{list_any}
use Rattle.std.specs.FinMap.{get, keys}
use Rattle.t3_store.specs.Inner.Shapes.{values}
use Rattle.t3_store.specs.Inner.Entries.{object_at}
use Rattle.t3_store.specs.declared.entries.Entry.{Entry}
use Rattle.t3_store.proofs.Admitted.{meeting}
use Rattle.t3_store.proofs.object_map.ObjectMap.meets.Goals as goal

pub returns : goal.returns
returns c =
    c.meet.ensures
    ∙ (λ i. list_any (λ (e : Entry). is_some (object_at e.number (c.deref-2.ensures.value i))) (c.deref.ensures.value i))
    ∙ meeting c.self.inside.entries.items c.others.inside.entries.items c.self.invariant.rising
    ∙ λ i. list_any (λ n. is_some (get (values (c.others.view_is i).objects) n)) (keys (values (c.self.view_is i).objects))
