use Rattle.std.proofs.Common.{◌+◌, ◌-◌, ◌∷◌, length, ap, ◌∙◌, reverse, vec_len, arith, ◌≡◌}
use Rattle.std.proofs.lemmas.List.{length-reverse}
use Rattle.t3_frames.specs.Frame.{FramesValue, values, of_newest, with_operands}
use Rattle.t3_frames.specs.Inner.Marks.{frames_of}
use Rattle.t3_frames.proofs.Tops.{values-frames_of, reverse-push, pushes}
use Rattle.t3_frames.proofs.frames.Frames.push.Goals as goal

pub push_reserved-requires : goal.push_reserved-requires
push_reserved-requires c =
    let items = c.self.inside.values.items in
    let base = c.self.inside.base in
    let all : length (reverse items) ≡ vec_len c.self.inside.values - base + base =
    omega (arith, c.self.inside.values.ok.0, length-reverse items, c.self.invariant.holds) in
    let count =
    values-frames_of (reverse items) (vec_len c.self.inside.values - base) base c.self.inside.newest (reverse
    c.self.inside.older.items) c.self.invariant.counted all in
    let same = ap values c.self.view_is in
    omega (arith, c.requires, c.self.inside.values.ok.0, length-reverse items, count, same, c.self.invariant.room_is)

pub returns : goal.returns
returns c =
    let items = c.self.inside.values.items in
    let mark = c.self.inside.newest in
    let older = reverse c.self.inside.older.items in
    let base = c.self.inside.base in
    let o = vec_len c.self.inside.values - base in
    let tops : reverse c.push_reserved.new.self.items ≡ c.args.value ∷ reverse items =
    ap reverse c.push_reserved.ensures.items ∙ reverse-push items c.args.value in
    let longer : length (reverse items) ≡ vec_len c.self.inside.values = omega (arith, c.self.inside.values.ok.0, length-reverse items) in
    let more : vec_len c.push_reserved.new.self - base ≡ o + 1 = search (arith, c.self.invariant.holds, longer) in
    (λ i. frames_of (tops i) (vec_len c.push_reserved.new.self - base) mark older)
    ∙ pushes (reverse items) o (vec_len c.push_reserved.new.self - base) mark older c.args.value more
    ∙ ap (λ (f : FramesValue). of_newest (with_operands (c.args.value ∷ f.newest.operands)) f) c.self.view_is
