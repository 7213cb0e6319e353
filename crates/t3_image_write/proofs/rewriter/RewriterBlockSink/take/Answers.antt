use Rattle.t3_image_write.proofs.Rewriting.{rewrites_more}
use Rattle.t3_image_write.proofs.rewriter.RewriterBlockSink.take.Goals as goal

pub returns : goal.returns
returns g c blocks has =
    rewrites_more g.M.Masking.mask c.self.inside.mask c.self.inside.out.items c.append_placed.new.out.items c.args.self.now blocks
    c.args.placed c.masked_placed-placed.result c.append_placed.result c.self.invariant.0 c.self.invariant.1 c.self.view_is
    c.masked_placed-placed.ensures.is c.append_placed.ensures has
