use Rattle.std.proofs.Common.{◌<◌, length, true, false, sym, ◌∙◌, ap, arith}
use Rattle.std.specs.List.{list_all}
use Rattle.std.specs.Prelude.{Some}
use Rattle.t3_object_tests.proofs.OrderRising.{rising-at}
use Rattle.t3_object_tests.proofs.orders.ObjectsSupers.supers.Goals as goal

pub returns-then-are_below : goal.returns-then-are_below
returns-then-are_below c =
    let within : c.args.number < length c.args.self.now.lists.items = omega (arith, c.len.ensures, c.args.self.now.lists.ok.0) in
    ap Some c.deref-then-are_below.ensures.value ∙ sym (rising-at c.args.self.now.lists.items c.args.number c.index-list.result.now
    true within c.index-list.ensures (sym c.if-are_below.true ∙ c.are_below.ensures ∙ ap (list_all _) c.deref.ensures.value))

pub returns-else-are_below : goal.returns-else-are_below
returns-else-are_below c =
    let within : c.args.number < length c.args.self.now.lists.items = omega (arith, c.len.ensures, c.args.self.now.lists.ok.0) in
    sym (rising-at c.args.self.now.lists.items c.args.number c.index-list.result.now false within c.index-list.ensures
    (sym c.if-are_below.false ∙ c.are_below.ensures ∙ ap (list_all _) c.deref.ensures.value))
