use Rattle.std.proofs.Common.{◌-◌, ap, ◌∙◌, vec_len, arith}
use Rattle.t3_frames.specs.declared.call.Call.{Call}
use Rattle.t3_frames.specs.Frame.{function}
use Rattle.t3_frames.specs.Inner.Marks.{called_mark}
use Rattle.t3_frames.proofs.Calls.{begins}
use Rattle.t3_frames.proofs.frames.Frames.begin.Goals as goal

pub returns : goal.returns
returns c =
    let mark = c.called-self-inside.ensures
    ∙ ap (λ (f : Call). called_mark f c.count_of.result c.args.missing c.args.locals) c.function-function.ensures in
    begins c.clear-2.new.self.items c.push_nils.new.values.items c.push_some.new.values.items c.push_nils-2.new.values.items
    (vec_len c.push_nils-2.new.values - c.len-self-inside.result) c.count_of.result c.called-self-inside.result c.clear.new.self.items
    (function c.args.method 0) c.args.locals c.args.missing c.args.argument c.clear-2.ensures.items c.clear.ensures.items c.count_of.ensures
    (omega (arith, c.len-self-inside.ensures)) c.push_nils.ensures.items c.push_some.ensures.items c.push_nils-2.ensures.items
    mark
