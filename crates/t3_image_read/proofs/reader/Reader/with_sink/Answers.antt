use Rattle.std.proofs.Common.{sym, subst}
use Rattle.t3_image_read.proofs.reader.Reader.with_sink.Goals as goal

pub invariant_of-result : goal.invariant_of-result
invariant_of-result g c = (c.new.ensures.sound, subst (g.S.BlockSink.has_taken c.args.sink) (sym c.new.ensures.no_block) c.requires)
