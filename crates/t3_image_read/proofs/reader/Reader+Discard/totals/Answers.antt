use Rattle.std.proofs.Common.{Err, sym, ap, subst, ◌∙◌}
use Rattle.t3_image_read.specs.Reader.{FinishesAs, totals_of}
use Rattle.t3_image_read.specs.Inner.Reading.{reading_of, IsSoundState}
use Rattle.t3_image_read.proofs.Feeding.{cut_finishes}
use Rattle.t3_image_read.proofs.reader.Reader+Discard.totals.Goals as goal

pub returns-in-Taking : goal.returns-in-Taking
returns-in-Taking c =
    let sound = subst (IsSoundState _) c.in-Taking.is c.self.invariant in
    subst (λ r. FinishesAs totals_of r (Err c.cut_at.result)) (ap reading_of (sym c.in-Taking.is) ∙ c.self.view_is)
    (cut_finishes c.in-Taking.taker c.cut_at.result sound.0 c.cut_at.ensures)
