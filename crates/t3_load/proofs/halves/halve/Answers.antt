use Rattle.std.proofs.Common.{◌∙◌, subst}
use Rattle.std.specs.List.Sorted.{IsPermutation}
use Rattle.std.proofs.lemmas.Iterator.Adapters.{YieldsList-from_vec}
use Rattle.std.proofs.lemmas.Iterator.Consumers.{YieldsList-turn, YieldsList-so_far, YieldsList-end}
use Rattle.t3_load.proofs.Halving.{no_halves, next_of, can_add, all_halves}
use Rattle.t3_load.proofs.halves.halve.Goals as goal

pub loop-object-init : goal.loop-object-init
loop-object-init c = no_halves c.new.result c.new-2.result c.new.ensures c.new-2.ensures

pub add-requires : goal.add-requires
add-requires c =
    let gives = c.into_iter-object-iterator.ensures.into_iter_gives in
    let sorted = c.sort_by_key.new.self.items in
    let road = YieldsList-from_vec sorted gives.0 (gives.1 ∙ c.sort_by_key.new.self.ok.0) in
    let moved = subst (λ os. IsPermutation os sorted) c.into_vec-objects.ensures.objects c.in_ok-sort_by_key.ensures.permutation in
    let next = next_of c.args.objects sorted c.loop-object.yielded c.in-Some.object c.into_vec-objects.ensures.distinct
    c.requires.made moved
    (YieldsList-so_far road c.loop-object.yielded c.loop-object.object-iterator c.loop-object.yielded_by)
    (YieldsList-turn road c.loop-object.yielded c.loop-object.object-iterator c.loop-object.yielded_by c.next.result c.next.new.self
    c.in-Some.object c.in-Some.is c.next.ensures.steps) in
    can_add c.args.objects c.loop-object.yielded c.in-Some.object c.loop-object.halves.first c.loop-object.halves.passing next
    c.loop-object.invariant c.requires.few c.requires.units

pub returns-clause-halves : goal.returns-clause-halves
returns-clause-halves c =
    let gives = c.into_iter-object-iterator.ensures.into_iter_gives in
    let sorted = c.sort_by_key.new.self.items in
    let road = YieldsList-from_vec sorted gives.0 (gives.1 ∙ c.sort_by_key.new.self.ok.0) in
    let moved = subst (λ os. IsPermutation os sorted) c.into_vec-objects.ensures.objects c.in_ok-sort_by_key.ensures.permutation in
    let end = YieldsList-end road c.loop-object.yielded c.loop-object.object-iterator c.loop-object.yielded_by c.next.result
    c.next.new.self c.in-None.is c.next.ensures.steps in
    all_halves c.args.objects sorted c.loop-object.yielded c.loop-object.halves.first c.loop-object.halves.passing moved end.0
    c.loop-object.invariant
