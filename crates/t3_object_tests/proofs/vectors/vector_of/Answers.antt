use Rattle.std.proofs.Common.{◌≡◌, ◌∙◌, ap, sym, List, [], ◌∷◌, ◌++◌, length, take, get_or, arith}
use Rattle.std.proofs.lemmas.List.{take_more, length-take-le}
use Rattle.t3_holder.specs.declared.holder.Holder.{Holder}
use Rattle.t3_holder.specs.declared.holder.Holder.TheVariants as holders
use Rattle.t3_undo.specs.Content.{Parts}
use Rattle.t3_lists.specs.Vector.{parts_of, items_of, filled}
use Rattle.t3_lists.proofs.Items.{items-filled}
use Rattle.t3_object_tests.proofs.vectors.vector_of.Goals as goal

pub loop-item-init : goal.loop-item-init
loop-item-init c = ap parts_of c.new-vector.ensures

pub push-requires : goal.push-requires
push-requires c =
    let before : List Holder = take c.loop-item.item-index c.args.items.now in
    let few : length before ≡ c.loop-item.item-index =
    length-take-le c.loop-item.item-index c.args.items.now c.loop-item.auto.item-index-end in
    let are : length (items_of (parts_of c.loop-item.vector)) ≡ length before =
    ap (λ (parts : Parts). length (items_of parts)) c.loop-item.invariant ∙ ap length (items-filled before) in
    record { whole = (before, c.loop-item.invariant); few = omega (arith, few, are, c.loop-item-test.true, c.requires) }

pub loop-item-preserved : goal.loop-item-preserved
loop-item-preserved c =
    let item : Holder = get_or c.args.items.now c.loop-item.item-index holders.Nil in
    let before : List Holder = take c.loop-item.item-index c.args.items.now in
    c.in_ok-push.ensures
    ∙ ap (λ (parts : Parts). filled (items_of parts ++ item ∷ [])) c.loop-item.invariant
    ∙ ap (λ (xs : List Holder). filled (xs ++ item ∷ [])) (items-filled before)
    ∙ ap filled (sym (take_more c.args.items.now c.loop-item.item-index holders.Nil c.loop-item-test.true))
