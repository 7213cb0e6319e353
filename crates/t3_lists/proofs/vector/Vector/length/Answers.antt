use Rattle.std.proofs.Common.{◌∙◌, ap, sym, length}
use Rattle.t3_lists.specs.Vector.{parts_of, items_of, values_of}
use Rattle.t3_lists.proofs.Items.{items-parts, items-filled, length-values}
use Rattle.t3_lists.proofs.vector.Vector.length.Goals as goal

pub returns-clause-present : goal.returns-clause-present
returns-clause-present c =
    c.self.invariant.counted ∙ sym (length-values (values_of c.self.inside.elements.items))
    ∙ ap length (sym (items-parts (values_of c.self.inside.elements.items)))
    ∙ ap (λ elements. length (items_of (parts_of elements))) c.self.view_is

pub returns-clause-whole : goal.returns-clause-whole
returns-clause-whole c items whole = returns-clause-present c ∙ ap (λ parts. length (items_of parts)) whole ∙ ap length (items-filled items)
