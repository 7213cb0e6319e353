use Rattle.t3_asm.proofs.Steps.{byte_more, bytes_whole}
use Rattle.t3_asm.proofs.content.append_number.Goals as goal

pub loop-at-preserved : goal.loop-at-preserved
loop-at-preserved c =
    byte_more c.loop-at.out.items c.push.new.self.items c.args.out.now.items c.args.width c.loop-at._at c.loop-at.rest c.args.number
    c.loop-at-test.true c.in_ok-push.ensures.items c.loop-at.invariant

pub returns : goal.returns
returns c =
    bytes_whole c.loop-at.out.items c.args.out.now.items c.args.width c.loop-at._at c.loop-at.rest c.args.number c.loop-at-test.false
    c.loop-at.invariant
