use Rattle.std.proofs.Common.{◌+◌, ◌-◌, ap, ◌∙◌, reverse, vec_len, arith}
use Rattle.std.proofs.lemmas.List.{length-reverse}
use Rattle.t3_frames.specs.Frame.{of_newest, with_local}
use Rattle.t3_frames.specs.Inner.Marks.{frames_of}
use Rattle.t3_frames.proofs.Tops.{reverse-set, sets_local}
use Rattle.t3_frames.proofs.frames.Frames.set_local.Goals as goal

pub returns-then-from-self : goal.returns-then-from-self
returns-then-from-self c =
    let items = c.self.inside.values.items in
    let mark = c.self.inside.newest in
    let older = reverse c.self.inside.older.items in
    let base = c.self.inside.base in
    let o = vec_len c.self.inside.values - base in
    let n = c.args.n in
    let place = reverse-set items (base - 1 - c.from-then-from-self.result) (o + n) c.args.value
    (omega (
      arith,
      c.self.inside.values.ok.0,
      length-reverse items,
      c.self.invariant.counted,
      c.self.invariant.holds,
      c.from-then-from-self.ensures,
      c.from.ensures,
      c.if-from-self.true,
    )) in
    (λ i. frames_of (place i) o mark older)
    ∙ sets_local (reverse items) o mark older n c.args.value (omega (arith, c.from.ensures, c.if-from-self.true))
    ∙ ap (of_newest (with_local n c.args.value)) c.self.view_is
