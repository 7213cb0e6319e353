use Rattle.std.proofs.Common.{◌≡◌, ◌+◌, ◌-◌, [], ◌∷◌, ◌++◌, map, refl, ap, arith, rules}
use Rattle.t3_blocks.specs.declared.block.Block.TheVariants as blocks
use Rattle.t3_drill.specs.Drill.{objects, static_object}
use Rattle.t3_drill.proofs.Numbers.{row_step, row_done}
use Rattle.t3_drill.proofs.front.objects.Goals as goal

pub loop-number-init : goal.loop-number-init
unfolding objects
loop-number-init c = ap (λ t. t ++ map static_object objects) c.new-objects.ensures.items

pub loop-number-preserved : goal.loop-number-preserved
loop-number-preserved c =
    let number = c.loop-number.number in
    let there : c.push.new.self.items ≡ c.loop-number.objects.items ++ static_object number ∷ [] = search rules in
    row_step (map static_object) (static_object number ∷ []) c.loop-number.objects.items c.push.new.self.items _ number
    (65 - number) (65 - (number + 1)) (λ rest. refl) (omega arith) there c.loop-number.invariant

pub returns : goal.returns
returns c =
    let number = c.loop-number.number in
    ap (λ items. blocks.Objects 0 0 items)
    (row_done (map static_object) c.loop-number.objects.items _ number (65 - number) refl (omega arith) c.loop-number.invariant)
