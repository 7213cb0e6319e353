use Rattle.std.proofs.Common.{◌≡◌, ◌+◌, ◌-◌, length, ap, reverse, vec_len, arith}
use Rattle.std.specs.Prelude.{nat_le}
use Rattle.std.proofs.lemmas.List.{length-reverse}
use Rattle.t3_frames.specs.Frame.{values, value_limit}
use Rattle.t3_frames.proofs.Tops.{values-frames_of}
use Rattle.t3_frames.proofs.frames.Frames.may_hold.Goals as goal

pub returns : goal.returns
returns c =
    let items = c.self.inside.values.items in
    let base = c.self.inside.base in
    let held = c.self.inside.values.ok.0 in
    let turned = length-reverse items in
    let all : length (reverse items) ≡ vec_len c.self.inside.values - base + base = omega (arith, held, turned, c.self.invariant.holds) in
    let count = values-frames_of (reverse items) (vec_len c.self.inside.values - base) base c.self.inside.newest (reverse
    c.self.inside.older.items)
    c.self.invariant.counted all in
    let same = ap values c.self.view_is in
    let sum : c.len.result + c.from.result ≡ values c.args.self.now + c.args.count =
    omega (arith, c.len.ensures, c.from.ensures, held, turned, count, same) in
    ap (λ n. nat_le n value_limit) sum
