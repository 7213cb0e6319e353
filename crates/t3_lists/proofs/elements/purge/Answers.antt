use Rattle.std.proofs.Common.{◌∙◌, ap, sym, take}
use Rattle.t3_lists.specs.Inner.Elements.{purged}
use Rattle.t3_lists.proofs.elements.purge.Goals as goal

pub returns : goal.returns
returns c =
    c.truncate.ensures.items ∙ ap (take c.needed_length-left.result) (sym c.deref.ensures.value)
    ∙ c.needed_length-left.ensures ∙ ap (purged c.args.oldest) c.deref.ensures.value
