use Rattle.std.proofs.Common.{◌≡◌, ◌+◌, ◌-◌, [], ◌∷◌, length, sym, ap, ◌∙◌, reverse, vec_len, arith}
use Rattle.std.proofs.lemmas.List.{length-reverse, reverse-append}
use Rattle.t3_frames.specs.Frame.{FramesValue}
use Rattle.t3_frames.specs.Inner.Marks.{counts}
use Rattle.t3_frames.proofs.Calls.{leaves}
use Rattle.t3_frames.proofs.frames.Frames.leave.Goals as goal

pub returns : goal.returns
returns c =
    let items = c.self.inside.values.items in
    let mark = c.self.inside.newest in
    let base = c.self.inside.base in
    let caller = c.in-Some.caller in
    let o = vec_len c.self.inside.values - base in
    let left = base - mark.locals - mark.arguments in
    let back = vec_len c.truncate.new.self - (left - caller.operands) in
    let counted = c.self.invariant.counted in
    let all : reverse c.self.inside.older.items ≡ caller ∷ reverse c.pop.new.self.items =
    ap reverse c.in-Some.ensures.items ∙ reverse-append c.pop.new.self.items (caller ∷ []) in
    let sum : left + (o + mark.locals + mark.arguments) ≡ length items =
    omega (arith, c.self.inside.values.ok.0, counted, c.self.invariant.holds, length-reverse items) in
    let total = ap counts all in
    let operands : back ≡ caller.operands = search (arith, total, counted) in
    ap (λ (f : FramesValue). f.older) (sym c.self.view_is)
    ∙ leaves items c.truncate.new.self.items o left back mark caller (reverse c.self.inside.older.items) (reverse c.pop.new.self.items)
    c.truncate.ensures.items sum operands all
