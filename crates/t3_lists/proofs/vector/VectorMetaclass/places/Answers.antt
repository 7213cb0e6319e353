use Rattle.std.proofs.Common.{◌∙◌, sym, ap, length}
use Rattle.t3_lists.specs.Vector.{stamps_of}
use Rattle.t3_undo.specs.StampedValue.{ValuePlace}
use Rattle.std.proofs.lemmas.List.{length-map}
use Rattle.t3_lists.proofs.ElementStamps.{len-places}
use Rattle.t3_lists.proofs.vector.VectorMetaclass.places.Goals as goal

pub returns : goal.returns
returns c = c.len.ensures ∙ c.self.inside.elements.ok.0 ∙ ap length c.self.view_is
    ∙ sym (len-places (stamps_of c.args.self.now) ∙ length-map c.args.self.now (λ (e : ValuePlace). e.stamp))
