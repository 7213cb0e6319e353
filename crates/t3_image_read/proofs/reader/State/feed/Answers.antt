use Rattle.std.proofs.Common.{Ok, subst, sym}
use Rattle.t3_image_read.specs.declared.reader.Fed.TheVariants.{More}
use Rattle.t3_image_read.specs.Reader.{Taking, Feeds}
use Rattle.t3_image_read.specs.Inner.Steps.{stream_of, TakesAll}
use Rattle.t3_image_read.specs.Inner.Reading.{reading_of}
use Rattle.t3_image_read.proofs.Feeding.{takes_more}
use Rattle.t3_image_read.proofs.reader.State.feed.Goals as goal

pub returns-in-Ok-None-clause-feeds : goal.returns-in-Ok-None-clause-feeds
returns-in-Ok-None-clause-feeds g c =
    let old = c.in-Taking.taker in
    let new = c.feed_blocks.new.taker in
    let piece = c.args.piece.now in
    let took = subst (λ end. TakesAll old new piece end) c.in-Ok-None.field-0-is c.in-Ok-None.ensures.taken in
    subst (λ s. Feeds (reading_of s) piece (Ok More) (Taking (stream_of new))) (sym c.in-Taking.is) (takes_more old new piece took)
