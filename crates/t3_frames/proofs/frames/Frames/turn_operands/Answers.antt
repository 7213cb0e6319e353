use Rattle.std.proofs.Common.{◌≡◌, ◌+◌, ◌-◌, ℕ, min, length, ap, ◌∙◌, reverse, vec_len, arith}
use Rattle.std.proofs.lemmas.List.{with_items_is}
use borrow.Rule.Slice.PartMut.{put_mid}
use Rattle.t3_frames.specs.Frame.{FramesValue, of_newest, with_operands, turned}
use Rattle.t3_frames.specs.Inner.Marks.{frames_of}
use Rattle.t3_frames.proofs.Tops.{turns, length-turned}
use Rattle.t3_frames.proofs.frames.Frames.turn_operands.Goals as goal

pub returns : goal.returns
returns c =
    let items = c.deref_mut.result.now in
    let mark = c.self.inside.newest in
    let older = reverse c.self.inside.older.items in
    let o = vec_len c.self.inside.values - c.self.inside.base in
    let count = c.min-count.result in
    let at : ℕ = c.len-2.result - count in
    let held = c.self.inside.values.ok.0 in
    let same = ap length c.deref_mut.ensures.value in
    let few : count ≡ min c.args.count o = search arith in
    let all : at + count ≡ length items = omega (arith, c.len-2.ensures, held, same, few) in
    let rest : length items - at ≡ count = omega (arith, all) in
    let after = c.reverse.ensures.after in
    let whole = length-turned items c.reverse.new.self at count (length items - at) all rest after in
    ap (λ xs. frames_of (reverse xs) o mark older)
    (with_items_is c.self.inside.values (put_mid at (length items - at) items c.reverse.new.self) (omega (arith, whole, same, held)))
    ∙ turns items c.reverse.new.self at count (length items - at) o c.args.count mark older all rest after few (omega (arith, held, same))
    ∙ (λ i. of_newest (with_operands (turned c.args.count (frames_of (reverse (c.deref_mut.ensures.value i)) o mark older).newest.operands))
    (frames_of (reverse (c.deref_mut.ensures.value i)) o mark older))
    ∙ ap (λ (f : FramesValue). of_newest (with_operands (turned c.args.count f.newest.operands)) f) c.self.view_is
