use Rattle.std.proofs.Common.{◌≡◌, ℕ, List, ap, ◌∙◌}
use Rattle.t3_image_read.specs.Reader.{Taking, TakesPiece}
use Rattle.t3_image_read.specs.Inner.Reading.{reading_of}
use Rattle.t3_image_read.proofs.Feeding.{as_piece, is_done, is_refused, is_more}
use Rattle.t3_image_read.proofs.reader.Reader.feed.Goals as goal

took : (g : _) (c : goal.Joined-self-state g) (before : List ℕ) → c.args.self.now ≡ Taking before
    → TakesPiece before c.args.piece.now c.feed-state.result.1 (reading_of c.feed-state.result.0)
took g c before is =
    as_piece (reading_of c.replace-state.result) before c.args.piece.now c.feed-state.result.1
    (reading_of c.feed-state.result.0) c.feed-state.ensures.feeds
    (ap reading_of c.replace-state.ensures.value ∙ c.self.view_is ∙ is)

pub returns-clause-done : goal.returns-clause-done
returns-clause-done g c before used image is ends =
    is_done before c.args.piece.now c.feed-state.result.1 (reading_of c.feed-state.result.0) (took g c before is) used image ends

pub returns-clause-refuses : goal.returns-clause-refuses
returns-clause-refuses g c before place why is refused not_cut =
    is_refused before c.args.piece.now c.feed-state.result.1 (reading_of c.feed-state.result.0) (took g c before is)
    place why refused not_cut

pub returns-clause-more : goal.returns-clause-more
returns-clause-more g c before place is refused =
    is_more before c.args.piece.now c.feed-state.result.1 (reading_of c.feed-state.result.0) (took g c before is) place refused
