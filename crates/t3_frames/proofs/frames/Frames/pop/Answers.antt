use Rattle.std.proofs.Common.{◌≡◌, ◌+◌, ◌-◌, ◌<◌, None, length, ap, reverse, vec_len, arith}
use Rattle.std.proofs.lemmas.List.{length-reverse}
use Rattle.t3_frames.specs.Frame.{values}
use Rattle.t3_frames.proofs.Tops.{pops, values-pops, values-frames_of}
use Rattle.t3_frames.proofs.frames.Frames.pop.Goals as goal

pub returns-clause-pops : goal.returns-clause-pops
returns-clause-pops c =
    let old = c.self.inside.values.items in
    let new = c.pop.new.self.items in
    let base = c.self.inside.base in
    let more : base < vec_len c.self.inside.values = omega (arith, c.len.ensures, c.if-len-self.false) in
    let long : 0 < length old = omega (arith, more, c.self.inside.values.ok.0) in
    let none : c.pop.result ≡ None → length old ≡ 0 = search arith in
    let fewer : vec_len c.self.inside.values - base ≡ vec_len c.pop.new.self - base + 1 = search arith in
    pops old new (vec_len c.self.inside.values - base) (vec_len c.pop.new.self - base) c.pop.result c.self.inside.newest (reverse
    c.self.inside.older.items)
    c.args.self.now c.self.view_is fewer long c.pop.ensures.items none

pub returns-clause-room : goal.returns-clause-room
returns-clause-room c =
    let tops = reverse c.self.inside.values.items in
    let older = reverse c.self.inside.older.items in
    let base = c.self.inside.base in
    let all : length tops ≡ vec_len c.self.inside.values - base + base =
    omega (arith, c.self.inside.values.ok.0, length-reverse c.self.inside.values.items, c.self.invariant.holds) in
    let count = values-frames_of tops (vec_len c.self.inside.values - base) base c.self.inside.newest older c.self.invariant.counted all in
    let same = ap values c.self.view_is in
    λ some. omega (arith, values-pops _ _ c.pop.result (returns-clause-pops c) some, count, same, c.self.invariant.few)
