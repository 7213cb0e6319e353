use Rattle.std.proofs.Common.{◌≡◌, ◌-◌, min, drop, ap, ◌∙◌, reverse, vec_len, arith}
use Rattle.std.proofs.lemmas.List.{length-reverse}
use Rattle.t3_frames.specs.Frame.{FramesValue, of_newest, with_operands}
use Rattle.t3_frames.specs.Inner.Marks.{frames_of}
use Rattle.t3_frames.proofs.Tops.{reverse-take, drops}
use Rattle.t3_frames.proofs.frames.Frames.drop_operands.Goals as goal

pub returns : goal.returns
returns c =
    let items = c.self.inside.values.items in
    let mark = c.self.inside.newest in
    let older = reverse c.self.inside.older.items in
    let base = c.self.inside.base in
    let o = vec_len c.self.inside.values - base in
    let left = vec_len c.truncate.new.self - base in
    let dropped : c.min-dropped.result ≡ min c.args.count o = search arith in
    let kept : left ≡ o - min c.args.count o = search arith in
    let tops = ap reverse c.truncate.ensures.items ∙ reverse-take items (c.len-2.result - c.min-dropped.result) c.min-dropped.result
    (omega (arith, c.len-2.ensures, c.self.inside.values.ok.0, length-reverse items, c.self.invariant.holds, dropped)) in
    (λ i. frames_of (tops i) left mark older)
    ∙ (λ i. frames_of (drop (dropped i) (reverse items)) left mark older)
    ∙ drops (reverse items) o left mark older c.args.count kept
    ∙ ap (λ (f : FramesValue). of_newest (with_operands (drop c.args.count f.newest.operands)) f) c.self.view_is
