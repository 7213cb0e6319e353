use Rattle.std.proofs.Common.{◌≡◌, ◌-◌, [], refl, ap, ◌∙◌, reverse, vec_len, arith}
use Rattle.std.proofs.lemmas.List.{length-reverse}
use Rattle.t3_frames.specs.Frame.{FramesValue, of_newest, with_operands}
use Rattle.t3_frames.specs.Inner.Marks.{frames_of}
use Rattle.t3_frames.proofs.Tops.{counted_view, reverse-take}
use Rattle.t3_frames.proofs.Calls.{clears}
use Rattle.t3_frames.proofs.frames.Frames.clear_operands.Goals as goal

pub returns-clause-cleared : goal.returns-clause-cleared
returns-clause-cleared c =
    let items = c.self.inside.values.items in
    let mark = c.self.inside.newest in
    let older = reverse c.self.inside.older.items in
    let base = c.self.inside.base in
    let o = vec_len c.self.inside.values - base in
    let left = vec_len c.truncate.new.self - base in
    let none : left ≡ 0 = search arith in
    let tops = ap reverse c.truncate.ensures.items ∙ reverse-take items base o
    (omega (arith, c.self.inside.values.ok.0, length-reverse items, c.self.invariant.holds)) in
    (λ i. frames_of (tops i) left mark older)
    ∙ clears (reverse items) o left mark older none
    ∙ ap (λ (f : FramesValue). of_newest (with_operands []) f) c.self.view_is

pub returns-clause-room : goal.returns-clause-room
returns-clause-room c =
    let items = c.truncate.new.self.items in
    let mark = c.self.inside.newest in
    let older = c.self.inside.older.items in
    let left = vec_len c.truncate.new.self - c.self.inside.base in
    let long : vec_len c.truncate.new.self ≡ c.self.inside.base =
    omega (arith, c.truncate.ensures.len, c.self.inside.values.ok.0, length-reverse c.self.inside.values.items, c.self.invariant.holds) in
    let seen = counted_view items left c.self.inside.base mark older (frames_of (reverse items) left mark (reverse older))
    c.self.invariant.counted (omega (arith, c.truncate.new.self.ok.0, long)) refl in
    omega (arith, seen.1, c.truncate.new.self.ok.0, long, c.self.invariant.based)
