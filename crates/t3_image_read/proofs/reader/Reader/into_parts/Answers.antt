use Rattle.std.proofs.Common.{Ok, Err, refl, sym, ap, subst, ◌∙◌}
use Rattle.t3_image_read.specs.Reader.{FinishesParts}
use Rattle.t3_image_read.specs.Inner.Reading.{reading_of, IsSoundState}
use Rattle.t3_image_read.proofs.Feeding.{cut_finishes}
use Rattle.t3_image_read.proofs.reader.Reader.into_parts.Goals as goal

pub returns-in-Taking : goal.returns-in-Taking
returns-in-Taking g c =
    let sound = subst (IsSoundState g.S.BlockSink.has_taken) c.in-Taking.is c.self.invariant in
    subst (λ r. FinishesParts g.S.BlockSink.has_taken r (Err c.cut_at.result)) (ap reading_of (sym c.in-Taking.is) ∙ c.self.view_is)
    (cut_finishes c.in-Taking.taker c.cut_at.result sound.0 c.cut_at.ensures)

pub returns-in-Ended : goal.returns-in-Ended
returns-in-Ended g c =
    let complete = c.in-Ended.complete in
    let whole = subst (IsSoundState g.S.BlockSink.has_taken) c.in-Ended.is c.self.invariant in
    subst (λ r. FinishesParts g.S.BlockSink.has_taken r (Ok complete.parts)) (ap reading_of (sym c.in-Ended.is) ∙ c.self.view_is)
    (complete.parts, refl, record { valid = whole.valid; head = refl; taken = whole.taken; eof_flags = refl })
