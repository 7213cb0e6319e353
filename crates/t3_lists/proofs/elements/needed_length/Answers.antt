use Rattle.std.proofs.Common.{◌∙◌, ap, sym}
use Rattle.t3_lists.specs.Inner.Elements.{is_needed}
use Rattle.t3_lists.proofs.ElementPurges.{take-needed, purged-none}
use Rattle.t3_lists.proofs.elements.needed_length.Goals as goal

pub returns-then-is_needed : goal.returns-then-is_needed
returns-then-is_needed c =
    take-needed c.args.oldest c.args.elements.now c.loop-left.left c.index-elements-left.result c.loop-left-test.true
    c.loop-left.invariant.within c.loop-left.invariant.none
    (ap (is_needed c.args.oldest) (sym c.index-elements-left.is) ∙ (sym c.is_needed.ensures ∙ c.if-is_needed.true))

pub returns : goal.returns
returns c = purged-none c.args.oldest c.args.elements.now c.loop-left.left c.loop-left-test.false c.loop-left.invariant.none
