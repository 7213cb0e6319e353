use Rattle.std.proofs.Common.{◌≡◌, ◌+◌, ◌-◌, length, sym, ap, ◌∙◌, reverse, vec_len, arith}
use Rattle.std.specs.Prelude.{nat_le}
use Rattle.std.proofs.lemmas.List.{length-reverse}
use Rattle.t3_frames.specs.Frame.{values, value_limit}
use Rattle.t3_frames.proofs.Tops.{values-frames_of}
use Rattle.t3_frames.proofs.frames.Frames.is_full.Goals as goal

pub returns : goal.returns
returns c =
    let tops = reverse c.self.inside.values.items in
    let older = reverse c.self.inside.older.items in
    let base = c.self.inside.base in
    let all : length tops ≡ vec_len c.self.inside.values - base + base =
    omega (arith, c.self.inside.values.ok.0, length-reverse c.self.inside.values.items, c.self.invariant.holds) in
    let count = values-frames_of tops (vec_len c.self.inside.values - base) base c.self.inside.newest older c.self.invariant.counted all in
    ap (λ n. nat_le value_limit n)
    (c.len.ensures ∙ c.self.inside.values.ok.0 ∙ sym (length-reverse c.self.inside.values.items) ∙ sym count ∙ ap values c.self.view_is)
